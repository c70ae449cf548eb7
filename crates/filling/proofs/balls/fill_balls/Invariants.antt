use Rattle.filling.proofs.Laying.{Laying}
use Rattle.filling.proofs.balls.fill_balls.Given as goal

abbrev pub invariant-loop-site : goal.invariant-loop-site
invariant-loop-site g l =
    Laying g.N.W.Weight.algebra (g.N.Network.graph (g.N.Network.means l.network)) l.initial.site_places l.initial.entries l.initial.waiting l.site l.first
    l.site_places l.entries l.waiting
