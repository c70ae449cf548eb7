-- Sites that are told of a hub one after the other, and what this makes of their hubs.
use Rattle.std.proofs.Common.{◌≡◌, ℕ, ◌+◌, ◌<◌, ◌≤◌, Bool, true, false, cond, ltb, List, [], ◌∷◌, ◌++◌, length, get_or, set, Some, None, Option, sym, refl, ap, ◌∙◌, subst, ⊎_elim, arith}
use mathlib.Core.List.{Memᴰ}
use Rattle.std.proofs.lemmas.List.{length-set, get_or-set_same, get_or-set_other, get_or_default}
use Rattle.std.proofs.lemmas.Bool.{cases_eq, cond-true, cond-false}
use Rattle.std.proofs.lemmas.Bool.Decides.{nat_tests}
use Rattle.weight.specs.Algebra.{Algebra}
use Rattle.network.specs.Graph.{Graph, Sound}
use Rattle.network.specs.Walks.{Distance, Unjoined}
use Rattle.network.proofs.Orders.{at_most_from_less}
use Rattle.oracle.specs.Radius.{Radius, Nearest, radius_of, hub_of}
use Rattle.oracle.proofs.Distances.{distance_turned, unjoined_turned}
use Rattle.oracle.proofs.Nearer.{unreached_hub, first_hub, hub_stays, hub_comes}
use Rattle.filling.specs.Rows.{closer, nearer}
use Rattle.shortest.specs.Finding.{Found}
use Rattle.shortest.specs.declared.waiting.Label.{Label}
use Rattle.filling.specs.Places.{blank_row}
use Rattle.filling.specs.Standing.{Told, RowStands}
use Rattle.filling.specs.declared.places.RowPlace.{RowPlace}
use Rattle.filling.specs.declared.places.SitePlace.{SitePlace}

-- ---- the loop

-- the sites below i were told
pub record Noting {V : Type 0} (k : Algebra V) (h : ℕ) (row : List (RowPlace V)) (places : List (SitePlace V)) (i : ℕ) (now : List (SitePlace V)) : Type 0 where
  pub size : length now ≡ length places
  pub done : (v : ℕ) (d : SitePlace V) (e : RowPlace V) → v < i → v < length places → get_or now v d ≡ nearer k h (get_or row v e).distance (get_or places v d)
  pub ahead : (v : ℕ) (d : SitePlace V) → i ≤ v → get_or now v d ≡ get_or places v d

module _ {V : Type 0} {k : Algebra V} {h : ℕ} {row : List (RowPlace V)} {places : List (SitePlace V)} where
  -- one more site was told, by what was read of its place and of the row
  pub noted_more : {i : ℕ} {now : List (SitePlace V)} → Noting k h row places i now → i < length row → i < length now → {p : SitePlace V} (c : SitePlace V) (b : RowPlace V) → p ≡ nearer k h (get_or row i b).distance (get_or now i c) → Noting k h row places (i + 1) (set now i p)
  noted_more {i = i} {now = now} so_far in_row lt {p = p} c b told = record {
    size = length-set now i p ∙ so_far.size;
    done = λ v d e below inside.
        ⊎_elim
        (λ (same : v ≡ i).
        subst (λ (u : ℕ). get_or (set now i p) u d ≡ nearer k h (get_or row u e).distance (get_or places u d)) (sym same)
        (get_or-set_same now i p d lt ∙ read d e ∙ ap (nearer k h (get_or row i e).distance) (so_far.ahead i d (omega arith))))
        (λ (ne : v ≡ i → ⊥). get_or-set_other now i v p d ne ∙ so_far.done v d e (omega (arith, below, ne)) inside)
        (cases_eq v i);
    ahead = λ v d le. get_or-set_other now i v p d (λ same. omega arith) ∙ so_far.ahead v d (omega arith);
  }
    where
      read : (d : SitePlace V) (e : RowPlace V) → p ≡ nearer k h (get_or row i e).distance (get_or now i d)
      read d e =
          told ∙ ap (λ (x : RowPlace V). nearer k h x.distance (get_or now i c)) (get_or_default row i b e in_row)
          ∙ ap (nearer k h (get_or row i e).distance) (get_or_default now i c d lt)

-- ---- the hub of a site

module _ {V : Type 0} (k : Algebra V) (g : Graph V) (hs : List ℕ) (v h : ℕ) (p : SitePlace V) where
  abbrev more : List ℕ
  more = hs ++ h ∷ []

  module _ (d : V) (at : Distance k g v h d) where
    abbrev new : SitePlace V
    new = record { radius = Some d; hub = Some h; first = p.first; count = p.count }

    comes : closer k d h p.radius p.hub ≡ true → Nearest k g more v h d → Told k g more v (nearer k h (Some d) p)
    comes t n = subst (Told k g more v) (sym (cond-true (closer k d h p.radius p.hub) new p t)) (record { near = Some (h, d); is = n; radius = refl; hub = refl })

    module _ (old : ℕ) (r : V) (near : Nearest k g hs v old r) (radius : p.radius ≡ Some r) (hub : p.hub ≡ Some old) where
      tested : closer k d h p.radius p.hub ≡ cond (k.less d r) true (cond (k.less r d) false (ltb h old))
      tested = rw (radius, hub) refl

      stays : closer k d h p.radius p.hub ≡ false → Nearest k g more v old r → Told k g more v (nearer k h (Some d) p)
      stays f n = subst (Told k g more v) (sym (cond-false (closer k d h p.radius p.hub) new p f)) (record { near = Some (old, r); is = n; radius = radius; hub = hub })

      tied : (a b c : Bool) → k.less d r ≡ a → k.less r d ≡ b → ltb h old ≡ c → Told k g more v (nearer k h (Some d) p)
      tied true b c da rb hc = comes (tested ∙ grind (arith, nat_tests)) (hub_comes k g hs v h d at old r near (at_most_from_less k d r da) (λ same. grind (arith, k.irrefl)))
      tied false true c da rb hc = stays (tested ∙ grind (arith, nat_tests)) (hub_stays k g hs v h d at old r near da (λ same. grind (arith, k.irrefl)))
      tied false false true da rb hc = comes (tested ∙ grind (arith, nat_tests)) (hub_comes k g hs v h d at old r near rb (λ same. grind (arith, nat_tests)))
      tied false false false da rb hc = stays (tested ∙ grind (arith, nat_tests)) (hub_stays k g hs v h d at old r near da (λ same. grind (arith, nat_tests)))

    reached : (near : Option (ℕ × V)) → Radius k g hs v near → p.radius ≡ radius_of near → p.hub ≡ hub_of near → Told k g more v (nearer k h (Some d) p)
    reached None is radius hub = comes (ap (λ o. closer k d h o p.hub) radius) (first_hub k g hs v h d at is)
    reached (Some near) is radius hub = tied near.0 near.1 is radius hub (k.less d near.1) (k.less near.1 d) (ltb h near.0) refl refl refl

  -- a place that knows the hub of v and is told of h, by its row, knows the hub among these and h
  pub told_more : Sound g → Told k g hs v p → (xs : List (Label V)) → Found k g h None xs → (e : RowPlace V) → RowStands g h xs v e → Told k g more v (nearer k h e.distance p)
  told_more sound told xs found e stands =
      ⊎_elim
      (λ (a : (x : Label V) × Memᴰ x xs × (x.site ≡ v) × (e ≡ record { distance = Some x.distance; before = x.before; mark = x.mark })).
      let there : Distance k g h v a.0.distance = subst (λ u. Distance k g h u a.0.distance) a.2 (found.distances a.0 a.1).0 in
      subst (λ (o : Option V). Told k g more v (nearer k h o p)) (sym (ap (λ (z : RowPlace V). z.distance) a.3))
      (reached a.0.distance (distance_turned k g sound h v a.0.distance there) told.near told.is told.radius told.hub))
      (λ (a : Unjoined g h v × (e ≡ blank_row)).
      subst (λ (o : Option V). Told k g more v (nearer k h o p)) (sym (ap (λ (z : RowPlace V). z.distance) a.1))
      (record { near = told.near; is = unreached_hub k g hs v h (unjoined_turned k g sound h v a.0) told.near told.is; radius = told.radius; hub = told.hub }))
      stands
