-- The place of a hub in the hub list, and what is read in its row.
use Rattle.std.proofs.Common.{◌≡◌, ℕ, ◌+◌, ◌*◌, ◌<◌, ◌≤◌, List, [], ◌∷◌, length, get_or, Some, None, Option, Bor, MatchOption, sym, ap, subst, arith}
use denote.Param.Members.{Mut}
use Rattle.std.specs.Fn.{Called}
use Rattle.std.specs.Iterator.Adapters.{map_while_source, map_while_callee, map_while_steps}
use Rattle.std.specs.List.{AllWithin, HoldsAt}
use Rattle.std.specs.Slice.Iter.{iter_rest}
use Rattle.std.proofs.iter.Yields.{fronts}
use Rattle.std.proofs.lemmas.Iterator.{YieldsList}
use Rattle.std.proofs.lemmas.Iterator.Consumers.{YieldsList-from_shown}
use Rattle.std.proofs.lemmas.List.{get_or_default}
use Rattle.std.proofs.lemmas.Nat.{mul-add-lt}
use Rattle.shortest.proofs.Settled.{mem_place}
use Rattle.filling.specs.Places.{listed, blank_row}
use Rattle.filling.specs.declared.places.RowPlace.{RowPlace}
use Rattle.query.specs.Hubs.{Placed}

-- no more hubs are listed than there are places
few_listed : (xs : List (Option ℕ)) → length (listed xs) ≤ length xs
few_listed [] = omega arith
few_listed (None ∷ xs) = omega arith
few_listed (Some h ∷ xs) = omega (arith, few_listed xs)

-- what a list with this first place lists
listed_front : (place : Option ℕ) (xs ys : List (Option ℕ)) → xs ≡ place ∷ ys → MatchOption place (length (listed xs) ≡ 0) (λ h. listed xs ≡ h ∷ listed ys)
listed_front None xs ys e = ap (λ zs. length (listed zs)) e
listed_front (Some h) xs ys e = ap listed e

module _ {F : Type 0} (g : Mut F (Bor (Option ℕ) × Unit {0}) (Option ℕ)) (same : (f : F) (x : Bor (Option ℕ)) (r : Option ℕ) (q : F) → Called g f (x, tt) r q → r ≡ x.now) where
  -- one turn of a chain that maps hub places to themselves while they have a hub
  turn : (P Q : Type 0) (o : Option (Bor (Option ℕ))) (xs ys : List (Option ℕ)) (f q : F) (r : Option ℕ) → MatchOption o ((length xs ≡ 0) × P) (λ x. xs ≡ x.now ∷ ys) → MatchOption o ((r ≡ None) × Q) (λ x. Called g f (x, tt) r q)
      → MatchOption r (length (listed xs) ≡ 0) (λ h. listed xs ≡ h ∷ listed ys)
  turn P Q None xs ys f q r none is = subst (λ r. MatchOption r (length (listed xs) ≡ 0) (λ h. listed xs ≡ h ∷ listed ys)) (sym is.0) (omega (arith, few_listed xs, none.0))
  turn P Q (Some x) xs ys f q r front call = subst (λ r. MatchOption r (length (listed xs) ≡ 0) (λ h. listed xs ≡ h ∷ listed ys)) (sym (same f x r q call)) (listed_front x.now xs ys front)

  -- it yields the hubs of the list
  pub yields_listed : {s : _} (xs : List (Option ℕ)) → iter_rest (map_while_source s) ≡ xs → YieldsList (map_while_steps fronts g) (λ (h : ℕ). h) s (listed xs)
  yields_listed {s} xs e =
      subst (λ zs. YieldsList (map_while_steps fronts g) (λ (h : ℕ). h) s (listed zs)) e
      (YieldsList-from_shown (map_while_steps fronts g) (λ h. h) (λ u. listed (iter_rest (map_while_source u)))
      (λ u t h. turn _ _ h.0 (iter_rest (map_while_source u)) (iter_rest (map_while_source t)) (map_while_callee u) (map_while_callee t) None h.1 h.2)
      (λ u x t h. turn _ _ h.0 (iter_rest (map_while_source u)) (iter_rest (map_while_source t)) (map_while_callee u) (map_while_callee t) (Some x) h.1 h.2) s)

-- the first place of the hub in the list, or that it is at none
pub placed : (xs : List (Option ℕ)) (hub : ℕ) (r : Option ℕ)
    → MatchOption r (AllWithin (λ h. h ≡ hub → ⊥) (listed xs) 0 (length (listed xs))) (λ at. (at < length (listed xs)) × HoldsAt (λ h. h ≡ hub) (listed xs) at × AllWithin (λ h. h ≡ hub → ⊥) (listed xs) 0 at)
    → Placed xs hub r
placed xs hub None absent = λ m. let at = mem_place hub (listed xs) m in absent at.0 hub (omega arith) at.1 (at.2 hub)
placed xs hub (Some at) h = (omega (arith, few_listed xs, h.0), h.0, h.1)

-- the place of a site in the row of a hub
pub row_fits : (at hubs sites to rows : ℕ) → at < hubs → to < sites → rows ≡ hubs * sites → at * sites + to < rows
row_fits at hubs sites to rows lt there all = omega (arith, mul-add-lt at sites to hubs lt there)

-- the distance in a row place, with any default
pub row_distance : {V : Type 0} (rows : List (RowPlace V)) (i : ℕ) (p : RowPlace V) → i < length rows → (get_or rows i blank_row).distance ≡ (get_or rows i p).distance
row_distance rows i p lt = ap (λ (x : RowPlace _). x.distance) (get_or_default rows i blank_row p lt)
