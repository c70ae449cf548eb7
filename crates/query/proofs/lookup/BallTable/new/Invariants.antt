use Rattle.query.proofs.Tabulating.{Tabulating}
use Rattle.query.proofs.lookup.BallTable.new.Given as goal

abbrev pub invariant-loop-place : goal.invariant-loop-place
invariant-loop-place g l = Tabulating l.ball l.place l.places
