use Rattle.std.proofs.Common.{refl}
use Rattle.oracle.specs.Rule.{lesser}
use Rattle.oracle.proofs.Answering.{only_joined, only_unjoined}
use Rattle.oracle.proofs.figures.figure_where_joined.Goals as goal

pub returns-clause-joined : goal.returns-clause-joined
returns-clause-joined g c = λ t. only_joined g.W.Weight.algebra c.args.meeting c.args.hub (lesser g.W.Weight.algebra c.args.meeting c.args.hub) refl cc

pub returns-clause-unjoined : goal.returns-clause-unjoined
returns-clause-unjoined g c = λ f. only_unjoined g.W.Weight.algebra c.args.meeting c.args.hub (lesser g.W.Weight.algebra c.args.meeting c.args.hub) refl cc
