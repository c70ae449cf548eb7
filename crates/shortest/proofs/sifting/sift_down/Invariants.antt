use Rattle.std.proofs.Common.{◌-◌}
use Rattle.shortest.specs.Places.{Inside, Moves}
use Rattle.shortest.specs.Order.{OrderedUnder}
use Rattle.shortest.proofs.sifting.sift_down.Given as goal

abbrev pub invariant-loop-i : goal.invariant-loop-i
invariant-loop-i g l =
    Inside l.places l.count × OrderedUnder g.W.Weight.algebra l.places l.count l.i × Moves l.count l.initial.places l.places

abbrev pub decreases-loop-i : goal.decreases-loop-i
decreases-loop-i g l = l.count - l.i
