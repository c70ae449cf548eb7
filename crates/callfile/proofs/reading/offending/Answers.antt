use Rattle.std.proofs.Common.{◌≡◌, true, false, rules, tests}
use Rattle.std.proofs.lemmas.Iterator.{first_from_Range}
use Rattle.callfile.proofs.Offending.{offends, first_offending}
use Rattle.callfile.proofs.reading.offending.Goals as goal

pub returns : goal.returns
returns c =
    let n = c.args.numbers in
    let bytes = c.args.bytes.now in
    first_offending n bytes c.find.result c.told-bytes
    (first_from_Range _ _ _ c.find.result (λ k. offends n bytes k ≡ true) (λ k. offends n bytes k ≡ false) c.find.ensures.ran (λ x q k. search (rules, tests)) (λ x q k. search (rules, tests)))
