use Rattle.std.proofs.Common.{sym, refl}
use Rattle.network.proofs.Granting.{strike_follows}
use Rattle.register.specs.Memories.{register_meaning}
use Rattle.register.proofs.Altering.{struck_kept}
use Rattle.register.proofs.Register.strike.Goals as goal

pub invariant_of-self : goal.invariant_of-self
invariant_of-self g c =
    let k = (struck_kept c.args.self.now c.args.number (c.if-not-stands.ensures.given refl) _ c.strike.new.self c.strike.ensures).kept in
    record { sized = k.sized; inside = k.inside; firsts = k.firsts; lasts = k.lasts; ones = k.ones; others = k.others }

pub returns-clause-obeys : goal.returns-clause-obeys
returns-clause-obeys g c =
    let x = c.args.self.now in
    strike_follows g.W.Weight.algebra (register_meaning x) c.args.number _ (sym c.if-not-stands.ensures.told)
    (struck_kept x c.args.number (c.if-not-stands.ensures.given refl) _ c.strike.new.self c.strike.ensures).means
