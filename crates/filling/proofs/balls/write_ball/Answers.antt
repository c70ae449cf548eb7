use Rattle.std.proofs.Common.{sym, ◌∙◌, subst}
use Rattle.std.proofs.lemmas.List.{set-get_or}
use Rattle.filling.proofs.Entries.{Writing, one_written, one_skipped}
use Rattle.filling.proofs.balls.write_ball.Goals as goal
use Rattle.filling.proofs.balls.write_ball.Goals.{in-Some, in_default}

pub loop-order-preserved : goal.loop-order-preserved
loop-order-preserved g c =
    elim c.match-settled_label.branch [
      | in-Some w ↦ subst (Writing _ _ _ _ _) (sym w.ball-is)
          (one_written c.loop-order.invariant c.loop-order-test.true w.in-Some.ensures w.entry_of.ensures)
      | in_default w ↦ subst (Writing _ _ _ _ _) (sym (w.ball-is ∙ set-get_or _ _ _)) (one_skipped c.loop-order.invariant w.in_default.ensures)
    ]
