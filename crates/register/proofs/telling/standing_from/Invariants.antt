use Rattle.register.proofs.Walks.{Walked, left_at}
use Rattle.register.proofs.telling.standing_from.Given as goal

abbrev pub invariant-loop-at : goal.invariant-loop-at
invariant-loop-at g l = Walked l.records l.site l.initial.at l.at

abbrev pub decreases-loop-at : goal.decreases-loop-at
decreases-loop-at g l = left_at l.records l.at
