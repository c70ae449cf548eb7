-- The hub of a site after one more hub was looked at.
use Rattle.std.proofs.Common.{◌≡◌, ℕ, ◌≤◌, ◌⊎◌, List, [], ◌∷◌, ◌++◌, Some, None, Option, sym, refl, subst, inl, inr, ⊎_elim, arith}
use mathlib.Core.List.Memᴰ
use mathlib.Core.List.{Memᴰ}
use Rattle.weight.specs.Algebra.{Algebra, AtMost}
use Rattle.network.specs.Graph.{Graph}
use Rattle.network.specs.Walks.{Walk, total, Distance, Unjoined}
use Rattle.network.specs.declared.link.Link.{Link}
use Rattle.network.proofs.Orders.{at_most_both, at_most_trans}
use Rattle.oracle.specs.Radius.{Nearest, Radius}
use Rattle.oracle.proofs.Distances.{one_distance}

-- without a hub there is none
pub no_hub : {V : Type 0} (k : Algebra V) (g : Graph V) (v : ℕ) → Radius k g [] v None
no_hub k g v h m = absurd (Memᴰ.not-nil m)

module _ {V : Type 0} (k : Algebra V) (g : Graph V) (hs : List ℕ) (v h : ℕ) where
  abbrev more : List ℕ
  more = hs ++ h ∷ []

  last : Memᴰ h more
  last = Memᴰ.append_right hs (Memᴰ.head refl)

  among : (h' : ℕ) → Memᴰ h' more → Memᴰ h' hs ⊎ (h' ≡ h)
  among h' m = ⊎_elim (λ (a : Memᴰ h' hs). inl a) (λ (a : Memᴰ h' (h ∷ [])). inr (Memᴰ.eq_of_singleton a)) (Memᴰ.append_cases hs m)

  -- a hub that no walk leads to
  pub unreached_hub : Unjoined g v h → (near : Option (ℕ × V)) → Radius k g hs v near → Radius k g more v near
  unreached_hub none None r = λ h' m. ⊎_elim (λ (a : Memᴰ h' hs). r h' a) (λ (e : h' ≡ h). subst (Unjoined g v) (sym e) none) (among h' m)
  unreached_hub none (Some near) r = record {
    is_hub = Memᴰ.append_left (h ∷ []) r.is_hub;
    at = r.at;
    no_nearer = λ h' ls m w. ⊎_elim (λ (a : Memᴰ h' hs). r.no_nearer h' ls a w) (λ (e : h' ≡ h). absurd (none ls (subst (Walk g v ls) e w))) (among h' m);
    lowest = λ h' m p. ⊎_elim (λ (a : Memᴰ h' hs). r.lowest h' a p) (λ (e : h' ≡ h). absurd (none p.walk (subst (Walk g v p.walk) e p.joins))) (among h' m);
  }

  module _ (d : V) (p : Distance k g v h d) where
    least_to : (h' : ℕ) (ls : List (Link V)) → h' ≡ h → Walk g v ls h' → AtMost k d (total k ls)
    least_to h' ls e w = p.least ls (subst (Walk g v ls) e w)

    -- the first hub that a walk leads to
    pub first_hub : Radius k g hs v None → Nearest k g more v h d
    first_hub r = record {
      is_hub = last;
      at = p;
      no_nearer = λ h' ls m w. ⊎_elim (λ (a : Memᴰ h' hs). absurd (r h' a ls w)) (λ (e : h' ≡ h). least_to h' ls e w) (among h' m);
      lowest = λ h' m q. ⊎_elim (λ (a : Memᴰ h' hs). absurd (r h' a q.walk q.joins)) (λ (e : h' ≡ h). omega arith) (among h' m);
    }

    module _ (old : ℕ) (r : V) (near : Nearest k g hs v old r) where
      -- it is farther than the hub so far, or as far and of no lower number
      pub hub_stays : AtMost k r d → (d ≡ r → old ≤ h) → Nearest k g more v old r
      hub_stays far tie = record {
        is_hub = Memᴰ.append_left (h ∷ []) near.is_hub;
        at = near.at;
        no_nearer = λ h' ls m w. ⊎_elim (λ (a : Memᴰ h' hs). near.no_nearer h' ls a w) (λ (e : h' ≡ h). at_most_trans k r d (total k ls) far (least_to h' ls e w)) (among h' m);
        lowest = λ h' m q.
            ⊎_elim (λ (a : Memᴰ h' hs). near.lowest h' a q)
            (λ (e : h' ≡ h). subst (λ (x : ℕ). old ≤ x) (sym e) (tie (one_distance k g v h d r p (subst (λ x. Distance k g v x r) e q)))) (among h' m);
      }

      -- it is nearer, or as near and of no greater number
      pub hub_comes : AtMost k d r → (d ≡ r → h ≤ old) → Nearest k g more v h d
      hub_comes nearer tie = record {
        is_hub = last;
        at = p;
        no_nearer = λ h' ls m w. ⊎_elim (λ (a : Memᴰ h' hs). at_most_trans k d r (total k ls) nearer (near.no_nearer h' ls a w)) (λ (e : h' ≡ h). least_to h' ls e w) (among h' m);
        lowest = λ h' m q. ⊎_elim (λ (a : Memᴰ h' hs). lower h' a q) (λ (e : h' ≡ h). omega arith) (among h' m);
      }
        where
          lower : (h' : ℕ) → Memᴰ h' hs → Distance k g v h' d → h ≤ h'
          lower h' a q =
              let same : d ≡ r = at_most_both k d r nearer (subst (AtMost k r) q.totals (near.no_nearer h' q.walk a q.joins)) in
              let low : old ≤ h' = near.lowest h' a (subst (Distance k g v h') same q) in
              let le : h ≤ old = tie same in
              omega arith
