use Rattle.std.proofs.Common.{arith}
use Rattle.shortest.specs.Places.{stay}
use Rattle.shortest.proofs.Turns.{up_turn}
use Rattle.shortest.proofs.sifting.sift_up.Goals as goal

pub loop-i-init : goal.loop-i-init
loop-i-init g c = (omega arith, c.requires.inside, (λ n lt b. b), stay)

pub loop-i-preserved : goal.loop-i-preserved
loop-i-preserved g c =
    let inv = c.loop-i.invariant in
    let turn = up_turn g.W.Weight.algebra c.args.places.now c.loop-i.places c.swap_labels.new.places c.args.at c.loop-i.i (omega arith) inv.0 (omega arith) inv.1 inv.2 inv.3
    c.if-not-comes_before.ensures c.swap_labels.ensures in
    (omega (arith, inv.0), turn.0, turn.1, turn.2)
