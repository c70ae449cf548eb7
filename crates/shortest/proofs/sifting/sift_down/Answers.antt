use Rattle.std.proofs.Common.{arith}
use Rattle.shortest.specs.Places.{stay}
use Rattle.shortest.proofs.Heaps.{sunk}
use Rattle.shortest.proofs.Turns.{down_turn}
use Rattle.shortest.proofs.sifting.sift_down.Goals as goal

pub loop-i-init : goal.loop-i-init
loop-i-init g c = (c.requires.inside, c.requires.near, stay)

pub returns-then-not-comes_before : goal.returns-then-not-comes_before
returns-then-not-comes_before g c =
    let inv = c.loop-i.invariant in
    record {
      ordered =
          sunk g.W.Weight.algebra c.loop-i.places c.args.count c.loop-i.i c.least_child-child.result c.if-not-comes_before.ensures c.least_child-child.ensures inv.1;
      moves = inv.2;
    }

pub loop-i-preserved : goal.loop-i-preserved
loop-i-preserved g c =
    let inv = c.loop-i.invariant in
    down_turn g.W.Weight.algebra c.args.places.now c.loop-i.places c.swap_labels.new.places c.args.count c.loop-i.i c.least_child-child.result (omega arith)
    (inv.0, inv.1, inv.2) c.least_child-child.ensures c.if-not-comes_before.ensures c.swap_labels.ensures
