-- The settled labels of a queue: one for each settled place, and none twice.
use Rattle.std.proofs.Common.{◌≡◌, ℕ, zero, suc, ◌-◌, ◌<◌, ◌≤◌, List, [], ◌∷◌, ◌++◌, length, get_or, Some, sym, refl, ap, ◌∙◌, inl, inr, ⊎_elim, arith}
use mathlib.Core.List.Memᴰ
use mathlib.Core.List.{Memᴰ}
use Rattle.std.proofs.lemmas.List.{length_push, get_or_append_left, get_or_push}
use Rattle.std.proofs.lemmas.Bool.{cases_lt}
use Rattle.weight.specs.Algebra.{Algebra}
use Rattle.shortest.specs.Places.{label_at, place_of}
use Rattle.shortest.specs.Queues.{InUse, WaitsIn, listed, settled_labels}
use Rattle.shortest.proofs.Sound.{Queued}
use Rattle.shortest.specs.declared.waiting.Label.{Label}
use Rattle.shortest.specs.declared.waiting.Waiting.{Waiting}
use Rattle.shortest.proofs.Edits.{some_inside}
use Rattle.shortest.proofs.Links.{held, one_place}

-- a member stands at some place
pub mem_place : {X : Type 0} (x : X) (xs : List X) → Memᴰ x xs → (i : ℕ) × (i < length xs) × ((d : X) → get_or xs i d ≡ x)
mem_place x [] m = absurd (Memᴰ.not-nil m)
mem_place x (y ∷ ys) (Memᴰ.head e) = (0, omega arith, λ d. sym e)
mem_place x (y ∷ ys) (Memᴰ.tail m) = let r = mem_place x ys m in (suc r.0, omega (arith, r.1), r.2)

module _ {V : Type 0} {a : Algebra V} {ws : List (Waiting V)} {sites count done : ℕ} (q : Queued a ws sites count done) where
  pub settled_used : (i : ℕ) → i < done → InUse sites count done (sites - 1 - i)
  settled_used i lt = inr (omega (arith, q.room), omega (arith, q.room))

  -- the label at the place of the i-th settled one
  pub settled_place : (i : ℕ) → i < done → (x : Label V) × ((label_at ws (sites - 1 - i) ≡ Some x) × (x.site < sites) × (place_of ws x.site ≡ Some (sites - 1 - i)))
  settled_place i lt = held ws sites (InUse sites count done) q.linked (sites - 1 - i) (settled_used i lt)

  more : (n : ℕ) (lt : n < done) → settled_labels ws sites (suc n) ≡ settled_labels ws sites n ++ (settled_place n lt).0 ∷ []
  more n lt = ap (λ o. settled_labels ws sites n ++ listed o) (settled_place n lt).1.0

  count_labels : (n : ℕ) → n ≤ done → length (settled_labels ws sites n) ≡ n
  count_labels zero le = refl
  count_labels (suc n) le = ap length (more n le) ∙ length_push (settled_labels ws sites n) (settled_place n le).0 ∙ omega (arith, count_labels n (omega arith))

  pub settled_count : length (settled_labels ws sites done) ≡ done
  settled_count = count_labels done (omega arith)

  labels_at : (n i : ℕ) → n ≤ done → i < n → (d : Label V) → label_at ws (sites - 1 - i) ≡ Some (get_or (settled_labels ws sites n) i d)
  labels_at zero i le lt d = absurd (omega arith)
  labels_at (suc n) i le lt d =
      let old = settled_labels ws sites n in
      let x = (settled_place n le).0 in
      ⊎_elim
      (λ (low : i < n).
      labels_at n i (omega arith) low d ∙ ap (λ y. Some y) (sym (ap (λ xs. get_or xs i d) (more n le) ∙ get_or_append_left old (x ∷ []) d i (omega (arith, count_labels n (omega arith))))))
      (λ (high : n ≤ i).
      let same : n ≡ i = omega arith in
      ap (λ m. label_at ws (sites - 1 - m)) (sym same) ∙ (settled_place n le).1.0
      ∙ ap (λ y. Some y) (sym (ap (λ xs. get_or xs i d) (more n le) ∙ get_or_push old x d i (count_labels n (omega arith) ∙ same))))
      (cases_lt i n)

  pub settled_at : (i : ℕ) → i < done → (d : Label V) → label_at ws (sites - 1 - i) ≡ Some (get_or (settled_labels ws sites done) i d)
  settled_at i lt d = labels_at done i (omega arith) lt d

  pub settled_once : (i j : ℕ) (d : Label V) → i < j → j < length (settled_labels ws sites done) → (get_or (settled_labels ws sites done) i d).site ≡ (get_or (settled_labels ws sites done) j d).site → ⊥
  settled_once i j d lt inside e =
      let top : j < done = omega (arith, settled_count) in
      let same : sites - 1 - i ≡ sites - 1 - j =
      one_place ws sites (InUse sites count done) q.linked _ _ _ _ (settled_used i (omega arith)) (settled_used j top) (settled_at i (omega arith) d) (settled_at j top d) e in
      omega (arith, q.room)

  -- one label for a site
  one_label : (k m : ℕ) (x y : Label V) → InUse sites count done k → InUse sites count done m → label_at ws k ≡ Some x → label_at ws m ≡ Some y → x.site ≡ y.site → x ≡ y
  one_label k m x y uk um ex ey e = some_inside x y (sym ex ∙ ap (label_at ws) (one_place ws sites (InUse sites count done) q.linked k m x y uk um ex ey e) ∙ ey)

  settled_mem : (x : Label V) → Memᴰ x (settled_labels ws sites done) → (i : ℕ) × (i < done) × (label_at ws (sites - 1 - i) ≡ Some x)
  settled_mem x m =
      let r = mem_place x (settled_labels ws sites done) m in
      let lt : r.0 < done = omega (arith, r.1, settled_count) in
      (r.0, lt, settled_at r.0 lt x ∙ ap (λ y. Some y) (r.2 x))

  pub settled_one : (x y : Label V) → Memᴰ x (settled_labels ws sites done) → Memᴰ y (settled_labels ws sites done) → x.site ≡ y.site → x ≡ y
  settled_one x y m n e =
      let r = settled_mem x m in
      let s = settled_mem y n in
      one_label _ _ x y (settled_used r.0 r.1) (settled_used s.0 s.1) r.2 s.2 e

  pub waiting_one : (x y : Label V) → WaitsIn ws count x → WaitsIn ws count y → x.site ≡ y.site → x ≡ y
  waiting_one x y v w e = one_label v.0 w.0 x y (inl v.1.0) (inl w.1.0) v.1.1 w.1.1 e
