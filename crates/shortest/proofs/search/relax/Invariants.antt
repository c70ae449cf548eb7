use Rattle.std.proofs.Common.{◌≡◌}
use Rattle.network.specs.Rounds.{untold}
use Rattle.shortest.specs.States.{state}
use Rattle.shortest.proofs.Relaxing.{UnderWay}
use Rattle.shortest.proofs.search.relax.Given as goal

abbrev pub invariant-loop-link : goal.invariant-loop-link
invariant-loop-link g l =
    let left = untold (λ net u. (g.N.Network.graph (g.N.Network.means net)).links u) l.link-iterator in
    UnderWay g.N.W.Weight.algebra (g.N.Network.graph (g.N.Network.means l.network)) l.cut (state l.initial.queue) l.from (state l.queue) left
    × (l.queue.places.ghost_name ≡ l.initial.queue.places.ghost_name)
