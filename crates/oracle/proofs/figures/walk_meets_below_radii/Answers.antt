use Rattle.oracle.proofs.Answering.{meets_below_radii}
use Rattle.oracle.proofs.figures.walk_meets_below_radii.Goals as goal

pub returns-clause-meets : goal.returns-clause-meets
returns-clause-meets g c = λ t. meets_below_radii g.W.Weight.algebra c.args.total c.args.radius c.args.other cc
