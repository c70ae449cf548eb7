use Rattle.filling.proofs.Noting.{Noting}
use Rattle.filling.proofs.rows.note_row.Given as goal

abbrev pub invariant-loop-site : goal.invariant-loop-site
invariant-loop-site g l = Noting g.W.Weight.algebra l.hub l.row l.initial.site_places l.site l.site_places
