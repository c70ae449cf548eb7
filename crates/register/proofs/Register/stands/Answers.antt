use Rattle.std.proofs.Common.{◌∙◌}
use Rattle.std.proofs.lemmas.Bool.{le-ltb}
use Rattle.register.proofs.Altering.{not_given, stands_at}
use Rattle.register.proofs.Register.stands.Goals as goal

pub returns-then-number-self-clause-told : goal.returns-then-number-self-clause-told
returns-then-number-self-clause-told g c = stands_at c.args.self.now c.args.number c.index-self-number.result c.if-number-self.true

pub returns-else-number-self-clause-told : goal.returns-else-number-self-clause-told
returns-else-number-self-clause-told g c =
    le-ltb c.args.number c.args.self.now.used c.if-number-self.false ∙ not_given c.args.self.now c.args.number c.if-number-self.false
