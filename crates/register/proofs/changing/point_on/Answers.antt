use Rattle.std.proofs.Common.{set, sym, ap, ◌∙◌}
use Rattle.network.proofs.Alterations.{set-altered}
use Rattle.register.specs.Chains.{with_next, pointed}
use Rattle.register.proofs.changing.point_on.Goals as goal

pub returns-in-Some : goal.returns-in-Some
returns-in-Some g c =
    let rs = c.args.records.now in
    let next = with_next {V = g.row.W.Denot} c.args.site c.args.number in
    ap (set rs c.in-Some.last) (c.with_next.ensures ∙ ap next c.index-records-last.is)
    ∙ set-altered next rs c.in-Some.last _ (c.requires c.in-Some.last c.in-Some.is)
    ∙ ap (λ o. pointed c.args.site c.args.number o rs) (sym c.in-Some.is)
