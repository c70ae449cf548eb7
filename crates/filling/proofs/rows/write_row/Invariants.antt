use Rattle.std.proofs.Common.{◌≡◌}
use Rattle.filling.specs.Rows.{rowed}
use Rattle.shortest.specs.Queues.{settled_labels}
use Rattle.filling.proofs.rows.write_row.Given as goal

abbrev pub invariant-loop-order : goal.invariant-loop-order
invariant-loop-order g l = l.row ≡ rowed (settled_labels l.waiting l.sites l.order) l.initial.row
