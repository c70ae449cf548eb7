-- A figure is the total of a walk, at most every walk's total added to itself, and exact below the two radii together.
use Rattle.std.proofs.Common.{◌≡◌, ℕ, ◌<◌, Bool, true, false, not, ◌⊎◌, List, [], ◌∷◌, ◌++◌, Some, None, Option, sym, refl, ap, ◌∙◌, subst, inl, inr, ⊎_elim}
use Rattle.std.proofs.lemmas.Bool.{true≢false}
use Rattle.std.proofs.lemmas.Option.{none-some}
use Rattle.weight.specs.Algebra.{Algebra, AtMost}
use Rattle.network.specs.Graph.{Graph, Sound}
use Rattle.network.specs.Walks.{Walk, total, Unjoined, Below}
use Rattle.network.specs.declared.link.Link.{Link}
use Rattle.network.proofs.Closing.{joined, turned}
use Rattle.network.proofs.Orders.{at_most_refl, at_most_trans, at_most_from_less, at_most_plus, less_at_most, plus_at_most, total-append}
use Rattle.oracle.specs.Laws.{together}
use Rattle.oracle.specs.Radius.{Nearest, Radius, radius_of}
use Rattle.oracle.specs.Rule.{Meets, Meeting, Through, HubTotal, HubTotalBy, no_wider, lesser, Totals, Figure}
use Rattle.oracle.proofs.Crossing.{Far, crossing}
use Rattle.oracle.proofs.Lesser.{lesser_one, lesser_meeting, lesser_hub, lesser_some}
use Rattle.oracle.proofs.Unique.{one_radius}

not_false : (b : Bool) → not b ≡ true → b ≡ false
not_false true e = absurd (true≢false (sym e))
not_false false e = refl

pub not_true : (b : Bool) → not b ≡ false → b ≡ true
not_true true e = refl
not_true false e = absurd (true≢false e)

module _ {V : Type 0} (k : Algebra V) where
  -- a total below two radii together is below every total that is at least both
  pub below_far : (one other : Option V) (x y : V) → Below k x (together k one other) → Far k one other y → k.less x y ≡ true
  below_far None other x y b f = absurd f
  below_far (Some a) None x y b f = absurd f
  below_far (Some a) (Some c) x y b f = less_at_most k x (k.plus a c) y b f

  -- twice the smaller radius and x, which is at least both radii together, is at most x twice
  twice : (a b x y : V) → AtMost k a b → AtMost k (k.plus a b) x → AtMost k y (k.plus a (k.plus a x)) → AtMost k y (k.plus x x)
  twice a b x y smaller far bound =
      let low = at_most_trans k (k.plus a a) (k.plus a b) x (plus_at_most k a a a b (at_most_refl k a) smaller) far in
      at_most_trans k y (k.plus a (k.plus a x)) (k.plus x x) bound
      (subst (λ (z : V). AtMost k z (k.plus x x)) (k.assoc a a x) (plus_at_most k (k.plus a a) x x x low (at_most_refl k x)))

  module _ (g : Graph V) (sound : Sound g) where
    abbrev WalkOf : ℕ → ℕ → V → Type 0
    WalkOf s t x = (ls : List (Link V)) × Walk g s ls t × (total k ls ≡ x)

    -- a meeting's total is that of a walk
    met : (s t : ℕ) (rs rt : Option V) (x : V) → Meets k g s t rs rt x → WalkOf s t x
    met s t rs rt x m =
        let to = m.in_s.distance in
        let from = m.in_t.distance in
        let p = to.walk in
        let r = turned k g sound t m.link.far from.walk from.joins in
        let q = m.link ∷ r.0 in (
          p ++ q,
          joined k g s m.near t p q to.joins (m.there, r.1),
          total-append k p q
              ∙ ap (λ (y : V). k.plus y (k.plus m.link.weight (total k r.0))) to.totals
              ∙ ap (λ (y : V). k.plus m.from_s (k.plus m.link.weight y)) (r.2 ∙ from.totals)
              ∙ sym (k.assoc m.from_s m.link.weight m.from_t) ∙ sym m.sum,
        )

    -- so is a total through a hub
    through : (hubs : List ℕ) (s t : ℕ) (near : Option (ℕ × V)) (x : V) → Radius k g hubs s near → Through k g near t (Some x) → WalkOf s t x
    through hubs s t None x r h = absurd (none-some x (sym h))
    through hubs s t (Some n) x r h =
        let p = r.at.walk in
        let q = h.1.walk in (
          p ++ q,
          joined k g s n.0 t p q r.at.joins h.1.joins,
          total-append k p q ∙ ap (λ (y : V). k.plus y (total k q)) r.at.totals ∙ ap (k.plus n.1) h.1.totals ∙ sym h.2,
        )

    -- a walk turned round has the same total
    walk_turned : (s t : ℕ) (x : V) → WalkOf t s x → WalkOf s t x
    walk_turned s t x w = let r = turned k g sound t s w.0 w.1 in (r.0, r.1, r.2 ∙ w.2)

    through_either : (hubs : List ℕ) (s t : ℕ) (b : Bool) (near_s near_t : Option (ℕ × V)) (x : V) → Radius k g hubs s near_s → Radius k g hubs t near_t → HubTotalBy b k g s t near_s near_t (Some x) → WalkOf s t x
    through_either hubs s t true near_s near_t x rs rt h = through hubs s t near_s x rs h
    through_either hubs s t false near_s near_t x rs rt h = walk_turned s t x (through hubs t s near_t x rt h)

    -- where a walk joins the sites, the hub of one gives a total, at most its radius twice and that walk's total
    hub_bound : (hubs : List ℕ) (s t : ℕ) (n : ℕ × V) (o : Option V) → Nearest k g hubs s n.0 n.1 → Through k g (Some n) t o
        → (ls : List (Link V)) → Walk g s ls t → (x : V) × (o ≡ Some x) × AtMost k x (k.plus n.1 (k.plus n.1 (total k ls)))
    hub_bound hubs s t n None near h ls w =
        let r = turned k g sound s n.0 near.at.walk near.at.joins in
        absurd (h (r.0 ++ ls) (joined k g n.0 s t r.0 ls r.1 w))
    hub_bound hubs s t n (Some x) near h ls w =
        let r = turned k g sound s n.0 near.at.walk near.at.joins in
        let low = h.1.least (r.0 ++ ls) (joined k g n.0 s t r.0 ls r.1 w) in
        let e : total k (r.0 ++ ls) ≡ k.plus n.1 (total k ls) = total-append k r.0 ls ∙ ap (λ (y : V). k.plus y (total k ls)) (r.2 ∙ near.at.totals) in (
          x,
          refl,
          subst (λ (y : V). AtMost k y (k.plus n.1 (k.plus n.1 (total k ls)))) (sym h.2)
              (plus_at_most k n.1 n.1 h.0 (k.plus n.1 (total k ls)) (at_most_refl k n.1) (subst (λ (y : V). AtMost k h.0 y) e low)),
        )

    -- a walk that totals at least both radii together: the hub total is at most that total twice
    hub_twice : (hubs : List ℕ) (s t : ℕ) (near_s near_t : Option (ℕ × V)) (o : Option V) → Radius k g hubs s near_s → Radius k g hubs t near_t
        → (b : Bool) → no_wider k (radius_of near_s) (radius_of near_t) ≡ b → HubTotalBy b k g s t near_s near_t o
        → (ls : List (Link V)) → Walk g s ls t → Far k (radius_of near_s) (radius_of near_t) (total k ls)
        → (x : V) × (o ≡ Some x) × AtMost k x (k.plus (total k ls) (total k ls))
    hub_twice hubs s t None near_t o rs rt b e h ls w far = absurd far
    hub_twice hubs s t (Some m) None o rs rt b e h ls w far = absurd far
    hub_twice hubs s t (Some m) (Some n) o rs rt true e h ls w far =
        let r = hub_bound hubs s t m o rs h ls w in
        (r.0, r.1, twice m.1 n.1 (total k ls) r.0 (not_false (k.less n.1 m.1) e) far r.2)
    hub_twice hubs s t (Some m) (Some n) o rs rt false e h ls w far =
        let u = turned k g sound s t ls w in
        let r = hub_bound hubs t s n o rt h u.0 u.1 in (
          r.0,
          r.1,
          twice n.1 m.1 (total k ls) r.0 (at_most_from_less k n.1 m.1 (not_true (k.less n.1 m.1) e))
              (subst (λ (y : V). AtMost k y (total k ls)) (k.comm m.1 n.1) far)
              (subst (λ (y : V). AtMost k r.0 (k.plus n.1 (k.plus n.1 y))) u.2 r.2),
        )

    module _ (hubs : List ℕ) (s t : ℕ) (meeting hub : Option V) (two : Totals k g hubs s t meeting hub) where
      abbrev rs : Option V
      rs = radius_of two.near_s

      abbrev rt : Option V
      rt = radius_of two.near_t

      -- a meeting totals no more than the walk, or the walk is at least the radii together
      pub crossed : (ls : List (Link V)) → Walk g s ls t → ((m : V) × Meets k g s t rs rt m × AtMost k m (total k ls)) ⊎ Far k rs rt (total k ls)
      crossed ls w =
          crossing k g sound hubs s t two.near_s two.near_t two.radius_s two.radius_t two.ball_s two.ball_t two.is_ball_s two.is_ball_t two.apart ls w

      -- some total exists where a walk joins the sites
      pub some_total : lesser k meeting hub ≡ None → Unjoined g s t
      some_total none ls w =
          ⊎_elim
          (λ (a : (m : V) × Meets k g s t rs rt m × AtMost k m (total k ls)). no_meeting meeting two.is_meeting hub none a.0 a.1)
          (λ (far : Far k rs rt (total k ls)).
          let x = hub_twice hubs s t two.near_s two.near_t hub two.radius_s two.radius_t (no_wider k rs rt) refl two.is_hub ls w far in
          no_hub_total meeting x.0 (sym (ap (lesser k meeting) x.1) ∙ none))
          (crossed ls w)
        where
          no_meeting : (o : Option V) → Meeting k g s t rs rt o → (h : Option V) → lesser k o h ≡ None → (m : V) → Meets k g s t rs rt m → ⊥
          no_meeting None is h e m meets = is m meets
          no_meeting (Some x) is None e m meets = none-some (x, 1) (sym e)
          no_meeting (Some x) is (Some y) e m meets = lesser_some k x y e

          no_hub_total : (o : Option V) (x : V) → lesser k o (Some x) ≡ None → ⊥
          no_hub_total None x e = none-some (x, 2) (sym e)
          no_hub_total (Some y) x e = lesser_some k y x e

      module _ (d : V) (manner : ℕ) (is : lesser k meeting hub ≡ Some (d, manner)) where
        pub of_totals : WalkOf s t d
        of_totals =
            ⊎_elim
            (λ (e : meeting ≡ Some d). met s t rs rt d (subst (Meeting k g s t rs rt) e two.is_meeting).0)
            (λ (e : hub ≡ Some d). through_either hubs s t (no_wider k rs rt) two.near_s two.near_t d two.radius_s two.radius_t (subst (HubTotal k g s t two.near_s two.near_t) e two.is_hub))
            (lesser_one k d manner meeting hub is)

        -- the figure is at most the total, or the total is at least the radii together
        near_or_far : (ls : List (Link V)) → Walk g s ls t → AtMost k d (total k ls) ⊎ Far k rs rt (total k ls)
        near_or_far ls w =
            ⊎_elim
            (λ (a : (m : V) × Meets k g s t rs rt m × AtMost k m (total k ls)). inl (at_most_trans k d a.0 (total k ls) (least_meeting meeting two.is_meeting is a.0 a.1) a.2))
            (λ (far : Far k rs rt (total k ls)). inr far)
            (crossed ls w)
          where
            least_meeting : (o : Option V) → Meeting k g s t rs rt o → lesser k o hub ≡ Some (d, manner) → (m : V) → Meets k g s t rs rt m → AtMost k d m
            least_meeting None none e m meets = absurd (none m meets)
            least_meeting (Some x) least e m meets = at_most_trans k d x m (lesser_meeting k d manner x hub e) (least.1 m meets)

        pub totals_twice : (ls : List (Link V)) → Walk g s ls t → AtMost k d (k.plus (total k ls) (total k ls))
        totals_twice ls w =
            ⊎_elim
            (λ (le : AtMost k d (total k ls)). at_most_trans k d (total k ls) (k.plus (total k ls) (total k ls)) le (at_most_plus k (total k ls) (total k ls)))
            (λ (far : Far k rs rt (total k ls)).
            let x = hub_twice hubs s t two.near_s two.near_t hub two.radius_s two.radius_t (no_wider k rs rt) refl two.is_hub ls w far in
            at_most_trans k d x.0 (k.plus (total k ls) (total k ls)) (lesser_hub k d manner meeting x.0 (ap (lesser k meeting) (sym x.1) ∙ is)) x.2)
            (near_or_far ls w)

        pub totals_exact : (ls : List (Link V)) → Walk g s ls t → Below k (total k ls) (together k rs rt) → (ls' : List (Link V)) → Walk g s ls' t → AtMost k d (total k ls')
        totals_exact ls w below ls' w' =
            ⊎_elim
            (λ (le : AtMost k d (total k ls')). le)
            (λ (far : Far k rs rt (total k ls')).
            ⊎_elim
            (λ (le : AtMost k d (total k ls)). at_most_trans k d (total k ls) (total k ls') le (at_most_from_less k (total k ls) (total k ls') (below_far rs rt (total k ls) (total k ls') below far)))
            (λ (no' : Far k rs rt (total k ls)). absurd (true≢false (sym (below_far rs rt (total k ls) (total k ls) below no') ∙ k.irrefl (total k ls))))
            (near_or_far ls w))
            (near_or_far ls' w')

    -- ---- of a figure

    module _ (hubs : List ℕ) (s t : ℕ) (d : V) (manner : ℕ) (figure : Figure k g hubs s t d manner) where
      abbrev Same : Type 0
      Same = (s ≡ t) × (s < g.sites) × (d ≡ k.zero) × (manner ≡ 0)

      abbrev Lesser : Type 0
      Lesser = (meeting : Option V) × (hub : Option V) × Totals k g hubs s t meeting hub × (lesser k meeting hub ≡ Some (d, manner))

      -- zero is at most every value
      zero_least : Same → (x : V) → AtMost k d x
      zero_least a x = subst (λ (y : V). AtMost k y x) (sym a.2) (k.least x)

      pub of_a_walk : WalkOf s t d
      of_a_walk = ⊎_elim (λ (a : Same). ([], (a.0, a.1), sym a.2)) (λ (a : Lesser). of_totals hubs s t a.0 a.1 a.2 d manner a.3) figure

      pub at_most_twice : (ls : List (Link V)) → Walk g s ls t → AtMost k d (k.plus (total k ls) (total k ls))
      at_most_twice ls w = ⊎_elim (λ (a : Same). zero_least a (k.plus (total k ls) (total k ls))) (λ (a : Lesser). totals_twice hubs s t a.0 a.1 a.2 d manner a.3 ls w) figure

      pub exact_below : (near_s near_t : Option (ℕ × V)) → Radius k g hubs s near_s → Radius k g hubs t near_t
          → (ls : List (Link V)) → Walk g s ls t → Below k (total k ls) (together k (radius_of near_s) (radius_of near_t)) → (ls' : List (Link V)) → Walk g s ls' t → AtMost k d (total k ls')
      exact_below near_s near_t rs rt ls w below ls' w' =
          ⊎_elim (λ (a : Same). zero_least a (total k ls'))
          (λ (a : Lesser).
          let two = a.2 in
          let same_s : near_s ≡ two.near_s = one_radius k g hubs s near_s two.near_s rs two.radius_s in
          let same_t : near_t ≡ two.near_t = one_radius k g hubs t near_t two.near_t rt two.radius_t in
          totals_exact hubs s t a.0 a.1 two d manner a.3 ls w
          (subst (λ (x : Option (ℕ × V)). Below k (total k ls) (together k (radius_of x) (radius_of two.near_t))) same_s (subst (λ (x : Option (ℕ × V)). Below k (total k ls) (together k (radius_of near_s) (radius_of x))) same_t below)) ls' w')
          figure
