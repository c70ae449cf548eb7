-- The order in which labels are settled, and the heap that keeps it.
use Rattle.std.specs.Prelude.{◌≡◌, ℕ, ◌-◌, ◌/◌, ◌<◌, Bool, true, false, cond, List, Some, None, Option, ◌≢◌, nat_lt}
use Rattle.weight.specs.Algebra.{Algebra}
use Rattle.shortest.specs.declared.waiting.Label.{Label}
use Rattle.shortest.specs.declared.waiting.Waiting.{Waiting}
use Rattle.shortest.specs.Places.{label_at}

-- x comes before y: by distance, then by site
abbrev pub sooner : {V : Type 0} → Algebra V → Label V → Label V → Bool
sooner a x y = cond (a.less x.distance y.distance) true (cond (a.less y.distance x.distance) false (nat_lt x.site y.site))

-- the same where a label may be missing: a missing one comes last
abbrev pub earlier : {V : Type 0} → Algebra V → Option (Label V) → Option (Label V) → Bool
earlier a None o = false
earlier a (Some x) None = true
earlier a (Some x) (Some y) = sooner a x y

-- the place over k in the heap
abbrev pub parent : ℕ → ℕ
parent k = (k - 1) / 2

-- the label at k does not come before the one at m
abbrev pub NotBefore : {V : Type 0} → Algebra V → List (Waiting V) → ℕ → ℕ → Type 0
NotBefore a ws k m = earlier a (label_at ws k) (label_at ws m) ≡ false

-- no label below n comes before the one over it
abbrev pub Ordered : {V : Type 0} → Algebra V → List (Waiting V) → ℕ → Type 0
Ordered a ws n = (k : ℕ) → 0 < k → k < n → NotBefore a ws k (parent k)

-- the same but at i, and those under i do not come before the one over i
pub record OrderedBut {V : Type 0} (a : Algebra V) (ws : List (Waiting V)) (n i : ℕ) : Type 0 where
  pub others : (k : ℕ) → 0 < k → k < n → (k ≢ i) → NotBefore a ws k (parent k)
  pub children : (k : ℕ) → 0 < k → k < n → parent k ≡ i → 0 < i → NotBefore a ws k (parent i)

-- the same but for those under i, which do not come before the one over i
pub record OrderedUnder {V : Type 0} (a : Algebra V) (ws : List (Waiting V)) (n i : ℕ) : Type 0 where
  pub others : (k : ℕ) → 0 < k → k < n → (parent k ≢ i) → NotBefore a ws k (parent k)
  pub grand : (k : ℕ) → 0 < k → k < n → parent k ≡ i → 0 < i → NotBefore a ws k (parent i)

-- of the places under i, none comes before the one at c
pub record LeastChild {V : Type 0} (a : Algebra V) (ws : List (Waiting V)) (n i c : ℕ) : Type 0 where
  pub up : parent c ≡ i
  pub after : i < c
  pub inside : c < n
  pub least : (k : ℕ) → 0 < k → k < n → parent k ≡ i → NotBefore a ws k c
