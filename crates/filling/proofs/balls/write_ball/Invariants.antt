use Rattle.filling.proofs.Entries.{Writing}
use Rattle.filling.proofs.balls.write_ball.Given as goal

abbrev pub invariant-loop-order : goal.invariant-loop-order
invariant-loop-order g l = Writing l.first l.waiting l.sites l.initial.ball l.order l.ball
