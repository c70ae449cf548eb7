use Rattle.network.proofs.Cursors.{left_parts, onward_next, less_left}
use Rattle.network.proofs.Sound.{shown}
use Rattle.network.proofs.links.LinksIterator.next.Goals as goal

pub invariant_of-self : goal.invariant_of-self
invariant_of-self g c =
    let round = c.args.self.now in
    record { ready = onward_next _ ((shown g.N.Network.lawful round.network.now).once round.site) round.next c.next_link-self.result c.in_ok-link.link c.in_ok-link.was round.ready c.next_link-self.ensures }

pub returns-clause-steps : goal.returns-clause-steps
returns-clause-steps g c =
    let round = c.args.self.now in
    left_parts _ ((shown g.N.Network.lawful round.network.now).once round.site) round.next c.next_link-self.result c.in_ok-link.link c.in_ok-link.was round.ready c.next_link-self.ensures

pub returns-clause-goes : goal.returns-clause-goes
returns-clause-goes g c =
    let round = c.args.self.now in
    let apart = (shown g.N.Network.lawful round.network.now).once round.site in
    let fewer = less_left _ apart round.next c.next_link-self.result c.in_ok-link.link c.in_ok-link.was round.ready c.next_link-self.ensures in
    record { on = λ finite. (tt, tt, fewer); keeps = tt; rests = λ none. tt }
