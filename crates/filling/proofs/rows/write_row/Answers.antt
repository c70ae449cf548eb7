use Rattle.std.proofs.Common.{◌<◌, length, ◌∙◌, arith, rules}
use Rattle.filling.proofs.Rowed.{label_there, rowed_more}
use Rattle.filling.proofs.rows.write_row.Goals as goal
use Rattle.filling.proofs.rows.write_row.Goals.{in-Some, in_default}

pub bounds-row-label : goal.bounds-row-label
bounds-row-label g c =
    let below : c.in-Some.label.site < length c.args.row.now =
    c.requires.1 c.loop-order.order c.in-Some.label c.loop-order-test.true
    (label_there _ c.args.sites c.loop-order.order (omega (arith, c.requires.0)) c.in-Some.ensures) in
    omega (arith, c.loop-order.auto.row)

pub offset_bounds-row-label : goal.offset_bounds-row-label
offset_bounds-row-label g c =
    let below : c.in-Some.label.site < length c.args.row.now = omega (arith, bounds-row-label g c, c.loop-order.auto.row) in
    search rules

pub loop-order-preserved : goal.loop-order-preserved
loop-order-preserved g c =
    elim c.match-settled_label.branch [
      | in-Some w ↦ w.row-is ∙ rowed_more _ c.args.sites c.loop-order.order (omega (arith, c.requires.0)) w.in-Some.ensures _ c.loop-order.invariant
      | in_default w ↦ w.row-is ∙ rowed_more _ c.args.sites c.loop-order.order (omega (arith, c.requires.0)) w.in_default.ensures _ c.loop-order.invariant
    ]
