-- The lowest place of a byte that should be zero and is not.
use Rattle.std.proofs.Common.{◌≡◌, ℕ, zero, suc, ◌<◌, ◌≤◌, Bool, true, false, not, ◌&&◌, eqb, List, length, get_or, drop, Some, None, Option, refl, add-one, arith}
use Rattle.std.specs.Option.{MatchOption}
use Rattle.std.proofs.lemmas.List.{drop_more, drop_all}
use Rattle.std.proofs.lemmas.Bool.{cond-true, cond-false}
use Rattle.callfile.specs.Records.{unused, offending}

module _ (n : ℕ) (bytes : List ℕ) where
  -- the byte at the place should be zero and is not
  abbrev pub offends : ℕ → Bool
  offends place = unused n place && not (eqb (get_or bytes place 0) 0)

  passed_over : (place : ℕ) → place ≤ length bytes → ((k : ℕ) → k < place → offends k ≡ false) → offending n 0 bytes ≡ offending n place (drop place bytes)
  passed_over zero le none = refl
  passed_over (suc place) le none =
      let before = passed_over place (omega arith) (λ k lt. none k (omega arith)) in
      let step = drop_more bytes place 0 (omega arith) in
      let here = none place (omega arith) in
      rw (before, step, cond-false _ _ _ here, add-one)

  pub first_offending : (r : Option ℕ) → length bytes ≡ 16
      → MatchOption r ((k : ℕ) → 0 ≤ k → k < 16 → offends k ≡ false) (λ i. (0 ≤ i) × (i < 16) × (offends i ≡ true) × ((k : ℕ) → 0 ≤ k → k < i → offends k ≡ false))
      → r ≡ offending n 0 bytes
  first_offending None long none =
      let before = passed_over (length bytes) (omega arith) (λ k lt. none k (omega arith) (omega arith)) in
      rw (before, drop_all (length bytes) bytes (omega arith))
  first_offending (Some i) long h =
      let before = passed_over i (omega arith) (λ k lt. h.3 k (omega arith) lt) in
      rw (before, drop_more bytes i 0 (omega arith), cond-true _ _ _ h.2)
