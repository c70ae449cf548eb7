-- A list of which one part was replaced by as many elements, parts of equal size one after the other, and memory that was spared.
use Rattle.std.proofs.Common.{◌≡◌, ℕ, ◌+◌, ◌*◌, ◌<◌, ◌≤◌, List, length, get_or, take, drop, refl, ◌∙◌, mul-le-mul_right, arith}
use borrow.Rule.Slice.PartMut.{put_mid}
use Rattle.std.proofs.lemmas.Grind.{common_steps, elements}
use Rattle.filling.specs.Rows.{Spared}

-- the places from a on, k of them, have ys now
module _ {X : Type 0} (a k : ℕ) (xs ys : List X) (fits : a + k ≤ length xs) (size : length ys ≡ k) where
  pub length-put : length (put_mid a k xs ys) ≡ length xs
  length-put = grind (arith, common_steps)

  pub get_or-put_before : (i : ℕ) (d : X) → i < a → get_or (put_mid a k xs ys) i d ≡ get_or xs i d
  get_or-put_before i d lt = grind (arith, elements)

  pub get_or-put_inside : (j : ℕ) (d : X) → j < k → get_or (put_mid a k xs ys) (a + j) d ≡ get_or ys j d
  get_or-put_inside j d lt = grind (arith, elements)

  pub get_or-put_after : (i : ℕ) (d : X) → a + k ≤ i → get_or (put_mid a k xs ys) i d ≡ get_or xs i d
  get_or-put_after i d le = grind (arith, elements)

-- an element of a part
pub get_d_part : {X : Type 0} (a k : ℕ) (xs : List X) (j : ℕ) (d : X) → j < k → get_or (take k (drop a xs)) j d ≡ get_or xs (a + j) d
get_d_part a k xs j d lt = grind (arith, common_steps)

-- the i-th of n parts of s elements ends within them
pub part_fits : (i n s : ℕ) → i < n → i * s + s ≤ n * s
part_fits i n s lt = omega (arith, mul-le-mul_right s lt)

-- ---- memory spared beyond n places

pub spared_none : {X : Type 0} {n : ℕ} {xs : List X} → Spared n xs xs
spared_none = record { size = refl; beyond = refl }

pub spared_twice : {X : Type 0} {n : ℕ} {xs ys zs : List X} → Spared n xs ys → Spared n ys zs → Spared n xs zs
spared_twice p q = record { size = q.size ∙ p.size; beyond = q.beyond ∙ p.beyond }
