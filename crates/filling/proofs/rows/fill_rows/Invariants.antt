use Rattle.filling.proofs.Rowing.{Rowing}
use Rattle.filling.proofs.rows.fill_rows.Given as goal

abbrev pub invariant-loop-at : goal.invariant-loop-at
invariant-loop-at g l =
    Rowing g.N.W.Weight.algebra (g.N.Network.graph (g.N.Network.means l.network)) l.hub_list l.initial.site_places l.initial.rows l.initial.waiting
    l.at l.site_places l.rows l.waiting
