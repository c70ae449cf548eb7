use Rattle.std.proofs.Common.{ap, ◌∙◌, replicate, rules}
use Rattle.network.proofs.Overwritten.{one_value}
use Rattle.network.proofs.lent.overwrite.Goals as goal

pub returns : goal.returns
returns g c =
    one_value _ _ c.args.value (λ x q h. search rules) _ c.fill_with.ensures.ran.0 c.fill_with.ensures.ran.1
    ∙ ap (λ n. replicate n c.args.value) c.fill_with.ensures.len
