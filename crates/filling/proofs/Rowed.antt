-- A row that took labels, each at the place of its site.
use Rattle.std.proofs.Common.{◌≡◌, ℕ, ◌+◌, ◌-◌, ◌<◌, ltb, ◌⊎◌, List, [], ◌∷◌, ◌++◌, length, get_or, set, replicate, None, Option, sym, refl, ap, ◌∙◌, subst, inl, inr, ⊎_elim, add-one, arith}
use mathlib.Core.List.Memᴰ
use mathlib.Core.List.{Memᴰ}
use Rattle.std.proofs.lemmas.List.{length-set, get_or-set_same, get_or-set_other, get_or-replicate, length-replicate}
use Rattle.std.proofs.lemmas.Bool.{cases_eq, cond-true, lt-ltb}
use Rattle.weight.specs.Algebra.{Algebra}
use Rattle.network.specs.Graph.{Graph}
use Rattle.shortest.specs.Finding.{Found}
use Rattle.shortest.specs.Places.{label_at}
use Rattle.shortest.specs.Queues.{settled_labels, listed}
use Rattle.shortest.specs.Searches.{label_in_order}
use Rattle.shortest.specs.declared.waiting.Label.{Label}
use Rattle.shortest.specs.declared.waiting.Waiting.{Waiting}
use Rattle.filling.specs.Places.{blank_row}
use Rattle.filling.specs.Rows.{rowed, row_place}
use Rattle.filling.specs.Standing.{HubStands}
use Rattle.filling.specs.declared.places.RowPlace.{RowPlace}

module _ {V : Type 0} where
  pub length-rowed : (xs : List (Label V)) (row : List (RowPlace V)) → length (rowed xs row) ≡ length row
  length-rowed [] row = refl
  length-rowed (x ∷ xs) row = length-rowed xs (set row x.site (row_place x)) ∙ length-set row x.site (row_place x)

  rowed_append : (xs ys : List (Label V)) (row : List (RowPlace V)) → rowed (xs ++ ys) row ≡ rowed ys (rowed xs row)
  rowed_append [] ys row = refl
  rowed_append (x ∷ xs) ys row = rowed_append xs ys (set row x.site (row_place x))

  -- one more settled label, where there is one
  module _ (ws : List (Waiting V)) (sites i : ℕ) (inside : i < sites) {o : Option (Label V)} (is : o ≡ label_in_order ws sites i) where
    pub label_there : label_at ws (sites - 1 - i) ≡ o
    label_there = sym (is ∙ cond-true (ltb i sites) (label_at ws (sites - 1 - i)) None (lt-ltb i sites inside))

    pub rowed_more : (start : List (RowPlace V)) {row : List (RowPlace V)} → row ≡ rowed (settled_labels ws sites i) start → rowed (listed o) row ≡ rowed (settled_labels ws sites (i + 1)) start
    rowed_more start so_far =
        ap (rowed (listed o)) so_far ∙ sym (rowed_append (settled_labels ws sites i) (listed o) start)
        ∙ ap (λ p. rowed (settled_labels ws sites i ++ listed p) start) (sym label_there) ∙ ap (λ n. rowed (settled_labels ws sites n) start) (sym (add-one i))

  -- a site has what the label of it says, or it has no label and what it had
  pub rowed_at : (xs : List (Label V)) (row : List (RowPlace V)) (v : ℕ) (d : RowPlace V) → v < length row
      → ((x : Label V) × Memᴰ x xs × (x.site ≡ v) × (get_or (rowed xs row) v d ≡ row_place x))
      ⊎ (((x : Label V) → Memᴰ x xs → x.site ≡ v → ⊥) × (get_or (rowed xs row) v d ≡ get_or row v d))
  rowed_at [] row v d lt = inr ((λ x m e. Memᴰ.not-nil m), refl)
  rowed_at (y ∷ ys) row v d lt =
      let row' = set row y.site (row_place y) in
      ⊎_elim
      (λ (h : (x : Label V) × Memᴰ x ys × (x.site ≡ v) × (get_or (rowed ys row') v d ≡ row_place x)). inl (h.0, Memᴰ.tail h.1, h.2, h.3))
      (λ (h : ((x : Label V) → Memᴰ x ys → x.site ≡ v → ⊥) × (get_or (rowed ys row') v d ≡ get_or row' v d)).
      ⊎_elim
      (λ (e : y.site ≡ v). inl (y, Memᴰ.head refl, e, h.1 ∙ subst (λ (u : ℕ). get_or (set row u (row_place y)) v d ≡ row_place y) (sym e) (get_or-set_same row v (row_place y) d lt)))
      (λ (ne : y.site ≡ v → ⊥).
      inr ((λ x m e. ⊎_elim (λ (same : x ≡ y). ne (ap (λ (z : Label V). z.site) (sym same) ∙ e)) (λ (a : Memᴰ x ys). h.0 x a e) (Memᴰ.cases_cons m)), h.1 ∙ get_or-set_other row y.site v (row_place y) d (λ e. ne (sym e))))
      (cases_eq y.site v))
      (rowed_at ys row' v d (omega (arith, length-set row y.site (row_place y))))

  -- a blank row that took what a search from the hub found is the row of the hub
  pub row_of_hub : (k : Algebra V) (g : Graph V) (h : ℕ) (xs : List (Label V)) (row : List (RowPlace V)) → Found k g h None xs → row ≡ rowed xs (replicate g.sites blank_row) → HubStands k g row 0 h
  row_of_hub k g h xs row found is = record {
    labels = xs;
    found = found;
    row = λ v d lt.
        ⊎_elim
        (λ (a : (x : Label V) × Memᴰ x xs × (x.site ≡ v) × (get_or (rowed xs (replicate g.sites blank_row)) v d ≡ row_place x)). inl (a.0, a.1, a.2, at_row v d ∙ a.3))
        (λ (a : ((x : Label V) → Memᴰ x xs → x.site ≡ v → ⊥) × (get_or (rowed xs (replicate g.sites blank_row)) v d ≡ get_or (replicate g.sites blank_row) v d)).
        inr ((λ ls w. let x = found.whole v ls w tt in a.0 x.0 x.1 x.2), at_row v d ∙ a.1 ∙ get_or-replicate g.sites v blank_row d lt))
        (rowed_at xs (replicate g.sites blank_row) v d (omega (arith, lt, length-replicate g.sites (blank_row {V = V}))));
  }
    where
      at_row : (v : ℕ) (d : RowPlace V) → get_or row (0 + v) d ≡ get_or (rowed xs (replicate g.sites blank_row)) v d
      at_row v d = ap (λ r. get_or r (0 + v) d) is ∙ ap (λ n. get_or (rowed xs (replicate g.sites blank_row)) n d) (omega arith)
