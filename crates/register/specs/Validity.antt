-- Every register is valid, as a proof: nothing in this file has to be believed.
use Rattle.std.specs.Prelude.{ℕ, List, map}
use Rattle.std.proofs.Common.{arith, length-take}
use Rattle.std.proofs.lemmas.List.{length-map}
use Rattle.std.proofs.ByRecursion.{All-map, all_from_every}
use Rattle.std.specs.List.{AllByRecursion}
use Rattle.network.proofs.Granting.{stays}
use Rattle.network.proofs.Sound.{sound}
use Rattle.network.specs.Registers.{Ended, Valid, graph, rule}
use Rattle.network.specs.Rulings.{Lawful}
use Rattle.weight.specs.Algebra.{Algebra}
use Rattle.register.specs.Chains.{Inside}
use Rattle.register.specs.Memories.{given_of, memory_of, records_of, register_meaning}
use Rattle.register.specs.declared.Register.{Register}
use Rattle.register.specs.declared.memory.LinkRecord.{LinkRecord}

pub ends_exist : {V : Type 0} (sites : ℕ) (rs : List (LinkRecord V)) → Inside sites rs → AllByRecursion (Ended sites) (map given_of rs)
ends_exist sites rs h = All-map (Ended sites) given_of rs (all_from_every (λ r. Ended sites (given_of r)) rs (λ k d _ lt. h k d lt))

pub valid : {V : Type 0} (x : Register V) → Valid (register_meaning x)
valid x =
    let m = memory_of x in
    record {
      few_sites = x.sized.0;
      few_places = x.sized.2;
      few = omega (arith, length-map (records_of m) given_of, length-take m.used m.records, x.sized.4);
      ends = ends_exist m.sites (records_of m) x.inside;
    }

pub lawful : {V : Type 0} (k : Algebra V) → Lawful {S = Register V} register_meaning graph Valid (rule k)
lawful k = record { valid = valid; sound = sound; keeps = λ m m' c answer h e. stays m h k m' answer c e }
