use Rattle.std.proofs.Common.{ℕ, ◌+◌, ◌<◌, ◌≤◌}
use Rattle.shortest.specs.Places.{Inside, Moves}
use Rattle.shortest.specs.Order.{OrderedBut}
use Rattle.shortest.proofs.sifting.sift_up.Given as goal

abbrev pub invariant-loop-i : goal.invariant-loop-i
invariant-loop-i g l =
    (l.i ≤ l.at) × Inside l.places (l.at + 1)
    × ((n : ℕ) → l.at < n → OrderedBut g.W.Weight.algebra l.initial.places n l.at → OrderedBut g.W.Weight.algebra l.places n l.i)
    × Moves (l.at + 1) l.initial.places l.places

abbrev pub decreases-loop-i : goal.decreases-loop-i
decreases-loop-i g l = l.i
