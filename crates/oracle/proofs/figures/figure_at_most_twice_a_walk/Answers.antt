use Rattle.oracle.proofs.Answering.{no_figure, figure_of_a_walk}
use Rattle.oracle.proofs.figures.figure_at_most_twice_a_walk.Goals as goal

pub returns-clause-twice : goal.returns-clause-twice
returns-clause-twice g c = λ f. no_figure g.W.Weight.algebra c.args.figure c.args.total cc

pub returns-clause-walk : goal.returns-clause-walk
returns-clause-walk g c = figure_of_a_walk g.W.Weight.algebra c.args.figure
