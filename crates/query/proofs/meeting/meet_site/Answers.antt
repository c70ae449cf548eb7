use Rattle.network.specs.Links.{left_at}
use Rattle.network.proofs.Cursors.{onward_next, left_parts, less_left, told_among}
use Rattle.query.proofs.Meetings.{one_met}
use Rattle.query.proofs.meeting.meet_site.Goals as goal

pub loop-link-smaller : goal.loop-link-smaller
loop-link-smaller g c =
    let net = c.args.network.now in
    let links = (g.N.Network.graph (g.N.Network.means net)).links c.args.from.site in
    let apart = (g.N.Network.lawful.sound (g.N.Network.means net) (g.N.Network.lawful.valid net)).once c.args.from.site in
    less_left links apart c.loop-link.link c.next_link-link.result c.in-Some.l c.in-Some.is c.loop-link.invariant.1 c.next_link-link.ensures

pub loop-link-preserved : goal.loop-link-preserved
loop-link-preserved g c =
    let net = c.args.network.now in
    let links = (g.N.Network.graph (g.N.Network.means net)).links c.args.from.site in
    let apart = (g.N.Network.lawful.sound (g.N.Network.means net) (g.N.Network.lawful.valid net)).once c.args.from.site in
    let link = c.loop-link.link in
    let next = c.next_link-link.result in
    let l = c.in-Some.l in (
      one_met g.N.W.Weight.algebra c.args.there.now.ball.now c.args.from.distance links c.args.best l (left_at links link) (left_at links next) c.loop-link.best c.meet_link-best.result
          (left_parts links apart link next l c.in-Some.is c.loop-link.invariant.1 c.next_link-link.ensures) (told_among links apart link l c.in-Some.is c.loop-link.invariant.1)
          c.loop-link.invariant.0 c.meet_link-best.ensures,
      onward_next links apart link next l c.in-Some.is c.loop-link.invariant.1 c.next_link-link.ensures,
    )
