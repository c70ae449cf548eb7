-- What a rule says of a change, what it is to do just that, and what is asked of a sort of network.
use Rattle.std.specs.Prelude.{◌≡◌, ℕ, Ok, Err, Result}
use Rattle.network.specs.Graph.{Graph, Sound}
use Rattle.network.specs.declared.fault.NetworkFault.{NetworkFault}

-- refused, with the fault that says why; or granted, with the answer and the meaning that follows
pub data Ruling (M : Type 0) : Type 0 where
  refuse : NetworkFault → Ruling M
  grant : ℕ → M → Ruling M

-- The result and the meaning afterwards are those of the ruling; a refusal leaves the meaning.
abbrev pub Follows : {M : Type 0} → Ruling M → M → Result ℕ NetworkFault → M → Type 0
Follows (refuse fault) before r after = (r ≡ Err fault) × (after ≡ before)
Follows (grant answer m) before r after = (r ≡ Ok answer) × (after ≡ m)

-- What a sort of network owes: each one is valid; a valid one shows what every network shows;
-- and a granted change leaves a valid one, with as many sites as before.
pub record Lawful {S M C V : Type 0} (means : S → M) (graph : M → Graph V) (Valid : M → Type 0) (rule : M → C → Ruling M) : Type 0 where
  pub valid : (s : S) → Valid (means s)
  pub sound : (m : M) → Valid m → Sound (graph m)
  pub keeps : (m m' : M) (c : C) (answer : ℕ) → Valid m → rule m c ≡ grant answer m' → Valid m' × ((graph m').sites ≡ (graph m).sites)
