-- A list of which one place was altered.
use Rattle.std.proofs.Common.{◌≡◌, ℕ, zero, suc, ◌<◌, ◌≢◌, List, [], ◌∷◌, map, length, get_or, take, drop, set, refl, ap, le_of_suc-le-suc, not-suc-le-zero}
use Rattle.std.proofs.lemmas.List.{get_or-set_same}
use Rattle.network.specs.Registers.{altered}

module _ {X : Type 0} (f : X → X) where
  pub length-altered : (i : ℕ) (xs : List X) → length (altered f i xs) ≡ length xs
  length-altered i [] = refl
  length-altered zero (x ∷ xs) = refl
  length-altered (suc i) (x ∷ xs) = ap suc (length-altered i xs)

  pub take-altered : (k i : ℕ) (xs : List X) → take k (altered f i xs) ≡ altered f i (take k xs)
  take-altered zero i xs = refl
  take-altered (suc k) i [] = refl
  take-altered (suc k) zero (x ∷ xs) = refl
  take-altered (suc k) (suc i) (x ∷ xs) = ap (λ r. x ∷ r) (take-altered k i xs)

  pub drop-altered : (k i : ℕ) (xs : List X) → i < k → drop k (altered f i xs) ≡ drop k xs
  drop-altered zero i xs h = absurd (not-suc-le-zero h)
  drop-altered (suc k) i [] h = refl
  drop-altered (suc k) zero (x ∷ xs) h = refl
  drop-altered (suc k) (suc i) (x ∷ xs) h = drop-altered k i xs (le_of_suc-le-suc h)

  -- what is written at a place is what was read there, altered
  pub set-altered : (xs : List X) (i : ℕ) (d : X) → i < length xs → set xs i (f (get_or xs i d)) ≡ altered f i xs
  set-altered [] i d h = absurd (not-suc-le-zero h)
  set-altered (x ∷ xs) zero d h = refl
  set-altered (x ∷ xs) (suc i) d h = ap (λ r. x ∷ r) (set-altered xs i d (le_of_suc-le-suc h))

  pub get_or-altered_same : (xs : List X) (i : ℕ) (d : X) → i < length xs → get_or (altered f i xs) i d ≡ f (get_or xs i d)
  get_or-altered_same xs i d h = rw (← set-altered xs i d h) (get_or-set_same xs i (f (get_or xs i d)) d h)

  pub get_or-altered_other : (xs : List X) (i k : ℕ) (d : X) → k ≢ i → get_or (altered f i xs) k d ≡ get_or xs k d
  get_or-altered_other [] i k d h = refl
  get_or-altered_other (x ∷ xs) zero zero d h = absurd (h refl)
  get_or-altered_other (x ∷ xs) zero (suc k) d h = refl
  get_or-altered_other (x ∷ xs) (suc i) zero d h = refl
  get_or-altered_other (x ∷ xs) (suc i) (suc k) d h = get_or-altered_other xs i k d (λ e. h (ap suc e))

  -- a function that the alteration turns into another
  pub map-altered : {Y : Type 0} (h : X → Y) (g : Y → Y) → ((x : X) → h (f x) ≡ g (h x)) → (i : ℕ) (xs : List X) → map h (altered f i xs) ≡ altered g i (map h xs)
  map-altered h g e i [] = refl
  map-altered h g e zero (x ∷ xs) = ap (λ y. y ∷ map h xs) (e x)
  map-altered h g e (suc i) (x ∷ xs) = ap (λ r. h x ∷ r) (map-altered h g e i xs)

  -- and one that does not see it
  pub map-altered_unseen : {Y : Type 0} (h : X → Y) → ((x : X) → h (f x) ≡ h x) → (i : ℕ) (xs : List X) → map h (altered f i xs) ≡ map h xs
  map-altered_unseen h e i [] = refl
  map-altered_unseen h e zero (x ∷ xs) = ap (λ y. y ∷ map h xs) (e x)
  map-altered_unseen h e (suc i) (x ∷ xs) = ap (λ r. h x ∷ r) (map-altered_unseen h e i xs)

  pub get_or-altered_unseen : {Y : Type 0} (h : X → Y) → ((x : X) → h (f x) ≡ h x) → (xs : List X) (i k : ℕ) (d : X) → h (get_or (altered f i xs) k d) ≡ h (get_or xs k d)
  get_or-altered_unseen h e [] i k d = refl
  get_or-altered_unseen h e (x ∷ xs) zero zero d = e x
  get_or-altered_unseen h e (x ∷ xs) zero (suc k) d = refl
  get_or-altered_unseen h e (x ∷ xs) (suc i) zero d = refl
  get_or-altered_unseen h e (x ∷ xs) (suc i) (suc k) d = get_or-altered_unseen h e xs i k d
