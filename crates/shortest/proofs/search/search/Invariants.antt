use Rattle.std.proofs.Common.{◌≡◌, ◌-◌, length}
use Rattle.shortest.proofs.Loops.{Running}
use Rattle.shortest.proofs.search.search.Given as goal
use Rattle.shortest.specs.Queues.{settled_of}
use Rattle.shortest.specs.States.{state}

abbrev pub invariant-loop-label : goal.invariant-loop-label
invariant-loop-label g l =
    Running g.N.W.Weight.algebra (g.N.Network.graph (g.N.Network.means l.network)) l.source l.cut (state l.initial.queue) (state l.queue)
    × (l.queue.places.ghost_name ≡ l.initial.queue.places.ghost_name)

abbrev pub decreases-loop-label : goal.decreases-loop-label
decreases-loop-label g l = l.queue.sites - length (settled_of (state l.queue))
