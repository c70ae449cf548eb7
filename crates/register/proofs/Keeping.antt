-- What a register knows of its memory, as one fact.
use Rattle.std.proofs.Common.{ℕ, ◌<◌, length}
use Rattle.register.specs.Chains.{Sized, Inside, Firsts, Lasts, Ones, Others}
use Rattle.register.specs.Memories.{Memory, records_of}

pub record Kept {V : Type 0} (m : Memory V) : Type 0 where
  pub sized : Sized m.sites m.places m.used (length m.chains) (length m.records)
  pub inside : Inside m.sites (records_of m)
  pub firsts : (u : ℕ) → u < m.sites → Firsts u m.chains (records_of m)
  pub lasts : (u : ℕ) → u < m.sites → Lasts u m.chains (records_of m)
  pub ones : Ones (records_of m)
  pub others : Others (records_of m)
