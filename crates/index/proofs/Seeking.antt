-- The place of a site among the hubs.
use Rattle.std.proofs.Common.{◌≡◌, ℕ, zero, suc, ◌<◌, ◌≤◌, true, false, List, [], ◌∷◌, length, get_or, Some, Ok, Err, Option, Result, sym, refl, ap, ◌∙◌, subst, arith}
use Rattle.std.specs.List.Sorted.{IsBinarySearchResult}
use Rattle.std.specs.Option.{option_cmp}
use Rattle.std.specs.Ordering.{nat_cmp}
use Rattle.std.specs.declared.cmp.Ordering.TheVariants.{Less, Equal, Greater}
use Rattle.std.proofs.lemmas.Grind.{common_steps}
use Rattle.std.proofs.lemmas.List.{length-map}
use Rattle.std.proofs.lemmas.List.{get_or-map as element_map}
use Rattle.std.proofs.Math.ListN.{get_or-map}
use Rattle.std.proofs.lemmas.List.Sorted.{searched}
use Rattle.index.specs.Hubs.{has, rank, sought}
use Rattle.index.proofs.Listing.{Climbs, somes}

-- ---- ascending hubs

-- each is at least the lowest
above_least : (low sites : ℕ) (hs : List ℕ) (i : ℕ) → Climbs low sites hs → i < length hs → low ≤ get_or hs i 0
above_least low sites [] i c lt = absurd (omega arith)
above_least low sites (h ∷ hs) zero c lt = c.0
above_least low sites (h ∷ hs) (suc i) c lt = omega (arith, c.0, above_least (suc h) sites hs i c.2 (omega arith))

rising : (low sites : ℕ) (hs : List ℕ) → Climbs low sites hs → (i j : ℕ) → i ≤ j → j < length hs → get_or hs i 0 ≤ get_or hs j 0
rising low sites [] c i j le lt = absurd (omega arith)
rising low sites (h ∷ hs) c zero zero le lt = omega arith
rising low sites (h ∷ hs) c zero (suc j) le lt = omega (arith, above_least (suc h) sites hs j c.2 (omega arith))
rising low sites (h ∷ hs) c (suc i) zero le lt = absurd (omega arith)
rising low sites (h ∷ hs) c (suc i) (suc j) le lt = rising (suc h) sites hs c.2 i j (omega arith) (omega arith)

-- ---- the place of a site

-- a place in the rest of a list, counted from the list's start
abbrev pub onward : Result ℕ ℕ → Result ℕ ℕ
onward (Ok i) = Ok (suc i)
onward (Err i) = Err (suc i)

module _ (s x : ℕ) (hs : List ℕ) where
  sought_passes : x < s → sought s (x ∷ hs) ≡ onward (sought s hs)
  sought_passes lt = grind (arith, common_steps)

module _ (s : ℕ) where
  has_above : (hs : List ℕ) → ((k : ℕ) → k < length hs → s < get_or hs k 0) → has s hs ≡ false
  has_above [] above = refl
  has_above (h ∷ hs) above = grind (arith, common_steps, above 0, has_above hs (λ k lt. above (suc k) (omega arith)))

  found : (low sites : ℕ) (hs : List ℕ) (i : ℕ) → Climbs low sites hs → i < length hs → get_or hs i 0 ≡ s → sought s hs ≡ Ok i
  found low sites [] i c lt e = absurd (omega arith)
  found low sites (h ∷ hs) zero c lt e = grind (arith, common_steps)
  found low sites (h ∷ hs) (suc i) c lt e =
      sought_passes s h hs (omega (arith, e, above_least (suc h) sites hs i c.2 (omega arith))) ∙ ap onward (found (suc h) sites hs i c.2 (omega arith) e)

  missed : (hs : List ℕ) (i : ℕ) → i ≤ length hs → ((k : ℕ) → k < i → get_or hs k 0 < s) → ((k : ℕ) → i ≤ k → k < length hs → s < get_or hs k 0) → sought s hs ≡ Err i
  missed [] i le below above = ap (λ n. Err n) (omega arith)
  missed (h ∷ hs) zero le below above = grind (arith, common_steps, above 0, has_above hs (λ k lt. above (suc k) (omega arith) (omega arith)))
  missed (h ∷ hs) (suc i) le below above =
      sought_passes s h hs (below 0 (omega arith))
      ∙ ap onward (missed hs i (omega arith) (λ k lt. below (suc k) (omega arith)) (λ k le' lt. above (suc k) (omega arith) (omega arith)))

  -- the order of the places is that of the hubs
  among_hubs : (hs : List ℕ) (r : Result ℕ ℕ) → IsBinarySearchResult (λ y. option_cmp nat_cmp y (Some s)) (somes hs) r → IsBinarySearchResult (λ y. nat_cmp y s) hs r
  among_hubs hs (Ok i) h = λ d. subst (λ o. option_cmp nat_cmp o (Some s) ≡ Equal) (get_or-map (λ x. Some x) hs i d) (h (Some d))
  among_hubs hs (Err i) h = λ up.
      let p = h (λ a b d le lt. rw (at a d (omega arith), at b d (omega arith)) (up a b 0 le (omega (arith, length-map hs (λ x. Some x))))) in (
        (λ k d le lt. subst (λ o. option_cmp nat_cmp o (Some s) ≡ Less) (get_or-map (λ x. Some x) hs k d) (p.0 k (Some d) le lt)),
        λ k d le lt. subst (λ o. option_cmp nat_cmp o (Some s) ≡ Greater) (get_or-map (λ x. Some x) hs k d) (p.1 k (Some d) le (omega (arith, length-map hs (λ x. Some x)))),
      )
    where
      at : (k : ℕ) (d : Option ℕ) → k < length (somes hs) → get_or (somes hs) k d ≡ Some (get_or hs k 0)
      at k d lt = element_map (λ x. Some x) hs k 0 d (omega (arith, length-map hs (λ x. Some x)))

  -- what a binary search of the hubs answers
  pub search_is : (low sites : ℕ) (hs : List ℕ) (r : Result ℕ ℕ) → Climbs low sites hs → IsBinarySearchResult (λ y. option_cmp nat_cmp y (Some s)) (somes hs) r → r ≡ sought s hs
  search_is low sites hs (Ok i) c h =
      let p = searched hs s (Ok i) (among_hubs hs (Ok i) h) (rising low sites hs c) in
      sym (found low sites hs i c p.0 p.1)
  search_is low sites hs (Err i) c h =
      let p = searched hs s (Err i) (among_hubs hs (Err i) h) (rising low sites hs c) in
      sym (missed hs i p.0 p.1 p.2)

-- what the place that was sought tells
module _ (s : ℕ) (hs : List ℕ) (i : ℕ) where
  pub sought_there : Ok i ≡ sought s hs → (has s hs ≡ true) × (i ≡ rank s hs)
  sought_there e = (grind (arith, common_steps), grind (arith, common_steps))

  pub sought_not_there : Err i ≡ sought s hs → (has s hs ≡ false) × (i ≡ rank s hs)
  sought_not_there e = (grind (arith, common_steps), grind (arith, common_steps))
