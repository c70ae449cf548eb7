use Rattle.std.proofs.Common.{refl, arith, rules}
use Rattle.shortest.specs.States.{state}
use Rattle.shortest.proofs.Begun.{left_in}
use Rattle.shortest.proofs.Sound.{sound}
use Rattle.shortest.proofs.finding.search_from.Goals as goal

pub returns : goal.returns
returns g c =
    let lender = c.search.ensures.lender in
    left_in g.N.W.Weight.algebra (g.N.Network.graph (g.N.Network.means c.args.network.now)) c.args.source c.args.cut
    c.args.waiting.now _ c.sites-sites.result _ c.sites-sites.ensures (state c.search.new.queue) (sound c.search.new.queue) c.search.ensures.searched
    (omega arith) (omega arith) (search rules) refl
