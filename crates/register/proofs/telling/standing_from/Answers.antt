use Rattle.std.proofs.Common.{Some, ap, ◌∙◌, arith}
use Rattle.register.proofs.Walks.{set_out, below, standing_told, falls, walked_on}
use Rattle.register.proofs.telling.standing_from.Goals as goal

pub loop-at-init : goal.loop-at-init
loop-at-init g c = set_out c.args.records.now c.args.site c.args.start c.requires.started

pub offset_bounds-records-number : goal.offset_bounds-records-number
offset_bounds-records-number g c = omega (arith, below c.args.records.now c.args.site c.args.start c.loop-at.at c.in-Some.number c.in-Some.is c.loop-at.invariant)

pub bounds-records-number : goal.bounds-records-number
bounds-records-number g c = below c.args.records.now c.args.site c.args.start c.loop-at.at c.in-Some.number c.in-Some.is c.loop-at.invariant

pub returns-then-link : goal.returns-then-link
returns-then-link g c = λ j e.
    ap Some c.told.ensures
    ∙ standing_told c.args.records.now c.args.site c.args.start c.loop-at.at c.in-Some.number c.in-Some.is c.loop-at.invariant
    c.index-records-number.result c.index-records-number.is c.if-link.true j e

pub loop-at-smaller : goal.loop-at-smaller
loop-at-smaller g c =
    falls c.args.records.now c.args.site c.args.start c.loop-at.at c.in-Some.number c.in-Some.is c.loop-at.invariant
    c.index-records-number.result c.index-records-number.is c.requires.chained.0 c.requires.chained.1 c.next_at-at.result c.next_at-at.ensures

pub loop-at-preserved : goal.loop-at-preserved
loop-at-preserved g c =
    walked_on c.args.records.now c.args.site c.args.start c.loop-at.at c.in-Some.number c.in-Some.is c.loop-at.invariant
    c.index-records-number.result c.index-records-number.is c.requires.chained.0 c.requires.chained.1 c.next_at-at.result c.next_at-at.ensures c.if-link.false
