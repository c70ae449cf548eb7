use Rattle.oracle.proofs.Answering.{exact_below_radii}
use Rattle.oracle.proofs.figures.figure_exact_below_radii.Goals as goal

pub returns-clause-exact : goal.returns-clause-exact
returns-clause-exact g c = λ t. exact_below_radii g.W.Weight.algebra c.args.total c.args.radius c.args.other cc
