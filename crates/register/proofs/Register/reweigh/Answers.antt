use Rattle.std.proofs.Common.{sym, refl}
use Rattle.network.proofs.Granting.{reweigh_follows}
use Rattle.register.specs.Memories.{register_meaning}
use Rattle.register.proofs.Altering.{reweighed_kept}
use Rattle.register.proofs.Register.reweigh.Goals as goal

pub invariant_of-self : goal.invariant_of-self
invariant_of-self g c =
    let k = (reweighed_kept c.args.self.now c.args.number (c.if-not-stands.ensures.given refl) _ c.reweigh.new.self c.of_number.result c.reweigh.ensures).kept in
    record { sized = k.sized; inside = k.inside; firsts = k.firsts; lasts = k.lasts; ones = k.ones; others = k.others }

pub returns-clause-obeys : goal.returns-clause-obeys
returns-clause-obeys g c =
    let x = c.args.self.now in
    reweigh_follows g.W.Weight.algebra (register_meaning x) c.args.number c.args.weight c.of_number.result _
    (sym c.if-not-stands.ensures.told) c.if-weight-gt-HEAVIEST.false c.of_number.ensures
    (reweighed_kept x c.args.number (c.if-not-stands.ensures.given refl) _ c.reweigh.new.self c.of_number.result c.reweigh.ensures).means
