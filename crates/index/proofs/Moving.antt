-- A stretch of a list that moves by one place.
use Rattle.std.proofs.Common.{◌≡◌, ℕ, suc, ◌+◌, ◌-◌, ◌<◌, ◌≤◌, List, [], ◌∷◌, ◌++◌, length, get_or, take, drop, set, sym, ap, ◌∙◌, add-one, arith}
use borrow.Rule.Slice.PartMut.{put_mid}
use Rattle.std.proofs.lemmas.List.{length-take-le, length-drop, length-append, append_assoc, drop-drop, drop_more, drop-take, take-take, set_at}
use Rattle.index.specs.Hubs.{moved_up, moved_down}

-- the part of xs from `at` to before `to`
abbrev part : {X : Type 0} → List X → ℕ → ℕ → List X
part xs at to = take (to - at) (drop at xs)

part_length : {X : Type 0} (xs : List X) (at to : ℕ) → at ≤ to → to ≤ length xs → length (part xs at to) ≡ to - at
part_length xs at to le in' = length-take-le (to - at) (drop at xs) (omega (arith, length-drop at xs))

rest_is : {X : Type 0} (xs : List X) (at to : ℕ) → at ≤ to → drop (to - at) (drop at xs) ≡ drop to xs
rest_is xs at to le = drop-drop (to - at) at xs ∙ ap (λ n. drop n xs) (omega arith)

module _ {X : Type 0} (xs : List X) (to at : ℕ) (y : X) (le : at ≤ to) (lt : to < length xs) where
  last_one : drop (to - at) (part xs at (to + 1)) ≡ get_or xs to y ∷ []
  last_one =
      ap (λ n. drop (to - at) (take n (drop at xs))) (omega arith) ∙ drop-take (to - at) 1 (drop at xs)
      ∙ ap (take 1) (rest_is xs at to le ∙ drop_more xs to y lt)

  others : take (to - at) (part xs at (to + 1)) ≡ part xs at to
  others = take-take (to - at) (to + 1 - at) (drop at xs) (omega arith)

  -- the part turned right by one place, and its first place overwritten
  pub moved_up_is : (ys : List X)
      → ys ≡ drop (length (part xs at (to + 1)) - 1) (part xs at (to + 1)) ++ take (length (part xs at (to + 1)) - 1) (part xs at (to + 1))
      → set (put_mid at (to + 1 - at) xs ys) at y ≡ moved_up to at y xs
  moved_up_is ys e =
      let n : length (part xs at (to + 1)) - 1 ≡ to - at = omega (arith, part_length xs at (to + 1) (omega arith) (omega arith)) in
      let turned : ys ≡ get_or xs to y ∷ part xs at to =
      e ∙ ap (λ m. drop m (part xs at (to + 1)) ++ take m (part xs at (to + 1))) n ∙ ap (λ r. r ++ take (to - at) (part xs at (to + 1))) last_one ∙ ap (λ r. get_or xs to y ∷ r) others in
      ap (λ r. set (put_mid at (to + 1 - at) xs r) at y) turned
      ∙ set_at (take at xs) (get_or xs to y) (part xs at to ++ drop (to + 1 - at) (drop at xs)) y at (length-take-le at xs (omega arith))
      ∙ ap (λ r. take at xs ++ (y ∷ (part xs at to ++ r))) (rest_is xs at (to + 1) (omega arith) ∙ ap (λ m. drop m xs) (add-one to))

module _ {X : Type 0} (xs : List X) (to at : ℕ) (y : X) (lt : at < to) (le : to ≤ length xs) where
  first_on : part xs at to ≡ get_or xs at y ∷ part xs (suc at) to
  first_on =
      ap (take (to - at)) (drop_more xs at y (omega arith)) ∙ ap (λ n. take n (get_or xs at y ∷ drop (at + 1) xs)) (n_is) ∙ ap (λ n. get_or xs at y ∷ take (to - suc at) (drop n xs)) (add-one at)
    where
      n_is : to - at ≡ suc (to - suc at)
      n_is = omega arith

  -- the part turned left by one place, and its last place overwritten
  pub moved_down_is : (ys : List X) → ys ≡ drop 1 (part xs at to) ++ take 1 (part xs at to) → set (put_mid at (to - at) xs ys) (to - 1) y ≡ moved_down to at y xs
  moved_down_is ys e =
      let turned : ys ≡ part xs (suc at) to ++ get_or xs at y ∷ [] = e ∙ ap (λ r. drop 1 r ++ take 1 r) first_on in
      let front = take at xs ++ part xs (suc at) to in
      let apart : put_mid at (to - at) xs ys ≡ front ++ (get_or xs at y ∷ drop to xs) =
      ap (λ r. take at xs ++ (r ++ drop (to - at) (drop at xs))) turned
      ∙ ap (λ r. take at xs ++ ((part xs (suc at) to ++ get_or xs at y ∷ []) ++ r)) (rest_is xs at to (omega arith))
      ∙ ap (λ r. take at xs ++ r) (append_assoc (part xs (suc at) to) (get_or xs at y ∷ []) (drop to xs))
      ∙ sym (append_assoc (take at xs) (part xs (suc at) to) (get_or xs at y ∷ drop to xs)) in
      let long : length front ≡ to - 1 =
      length-append (take at xs) (part xs (suc at) to) ∙ omega (arith, length-take-le at xs (omega arith), part_length xs (suc at) to (omega arith) le) in
      ap (λ r. set r (to - 1) y) apart ∙ set_at front (get_or xs at y) (drop to xs) y (to - 1) long ∙ append_assoc (take at xs) (part xs (suc at) to) (y ∷ drop to xs)
