use Rattle.std.proofs.Common.{arith}
use Rattle.filling.proofs.Noting.{noted_more}
use Rattle.filling.proofs.rows.note_row.Goals as goal

pub loop-site-preserved : goal.loop-site-preserved
loop-site-preserved g c = noted_more c.loop-site.invariant (omega (arith, c.requires)) (omega (arith, c.loop-site.auto.site_places)) _ _ c.told_of.ensures
