use Rattle.std.proofs.Common.{arith}
use Rattle.std.proofs.lemmas.Grind.{common_steps}
use Rattle.oracle.proofs.Answering.{not_both}
use Rattle.oracle.proofs.figures.figure_is_one.Goals as goal

pub returns-then-not-below-2-clause-differ : goal.returns-then-not-below-2-clause-differ
returns-then-not-below-2-clause-differ g c = λ f. not_both g.W.Weight.algebra c.args.one c.args.other (grind (arith, common_steps))

pub returns-else-not-below-2-clause-differ : goal.returns-else-not-below-2-clause-differ
returns-else-not-below-2-clause-differ g c = λ f. not_both g.W.Weight.algebra c.args.one c.args.other (grind (arith, common_steps))
