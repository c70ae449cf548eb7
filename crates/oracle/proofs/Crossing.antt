-- Every walk between two sites either has a meeting that totals no more, or totals at least the two radii together:
-- go along it to the first site outside the ball of its start.
use Rattle.std.proofs.Common.{◌≡◌, ℕ, true, false, ◌⊎◌, List, [], ◌∷◌, ◌++◌, Some, None, Option, sym, refl, ap, ◌∙◌, subst, inl, inr, ⊎_elim, append_assoc}
use mathlib.Core.List.Memᴰ
use mathlib.Core.List.{Memᴰ}
use Rattle.std.proofs.lemmas.Bool.{cases_eq, cases_Bool, true≢false}
use Rattle.weight.specs.Algebra.{Algebra, AtMost}
use Rattle.network.specs.Graph.{Graph, At, Sound}
use Rattle.network.specs.Walks.{Walk, total}
use Rattle.network.specs.declared.link.Link.{Link}
use Rattle.network.proofs.Closing.{joined, walked_on, turned, end_exists}
use Rattle.network.proofs.Orders.{at_most_refl, at_most_trans, plus_at_most, total-append}
use Rattle.oracle.specs.Radius.{Radius, radius_of}
use Rattle.oracle.specs.Rule.{Ball, Meets}

-- ---- in a ball, or not

abbrev Out : {V : Type 0} → List (ℕ × V) → ℕ → Type 0
Out {V} ws x = (d : V) → Memᴰ (x, d) ws → ⊥

in_or_out : {V : Type 0} (ws : List (ℕ × V)) (x : ℕ) → ((d : V) × Memᴰ (x, d) ws) ⊎ Out ws x
in_or_out [] x = inr (λ d m. Memᴰ.not-nil m)
in_or_out {V} (w ∷ ws) x =
    ⊎_elim
    (λ (e : x ≡ w.0). inl (w.1, Memᴰ.head (λ i. (e i, w.1))))
    (λ (n : x ≡ w.0 → ⊥).
    ⊎_elim
    (λ (a : (d : V) × Memᴰ (x, d) ws). inl (a.0, Memᴰ.tail a.1))
    (λ (o : Out ws x). inr (λ d m. ⊎_elim (λ (e : (x, d) ≡ w). n (ap (λ (p : ℕ × V). p.0) e)) (o d) (Memᴰ.cases_cons m)))
    (in_or_out ws x))
    (cases_eq x w.0)

-- x is at least the radius; nothing is at least an unbounded one
abbrev Beyond : {V : Type 0} → Algebra V → Option V → V → Type 0
Beyond k None x = ⊥
Beyond k (Some r) x = AtMost k r x

-- x is at least two radii together
abbrev pub Far : {V : Type 0} → Algebra V → Option V → Option V → V → Type 0
Far k None other x = ⊥
Far k (Some a) None x = ⊥
Far k (Some a) (Some b) x = AtMost k (k.plus a b) x

beyond_both : {V : Type 0} (k : Algebra V) (one other : Option V) (x y : V) → Beyond k one x → Beyond k other y → Far k one other (k.plus x y)
beyond_both k None other x y p q = p
beyond_both k (Some a) None x y p q = q
beyond_both k (Some a) (Some b) x y p q = plus_at_most k a x b y p q

module _ {V : Type 0} (k : Algebra V) (g : Graph V) (sound : Sound g) where
  -- a site outside the ball is no nearer than the radius
  outside : (v : ℕ) (radius : Option V) (ws : List (ℕ × V)) → Ball k g v radius ws → (x : ℕ) → Out ws x → (p : List (Link V)) → Walk g v p x → Beyond k radius (total k p)
  outside v None ws ball x out p w = let m = ball.whole x p w tt in out m.0 m.1
  outside v (Some r) ws ball x out p w =
      ⊎_elim (λ (t : k.less (total k p) r ≡ true). let m = ball.whole x p w t in absurd (out m.0 m.1)) (λ (f : k.less (total k p) r ≡ false). f) (cases_Bool (k.less (total k p) r))

  -- where a site is not even in its own ball, its hub lies at distance zero; so it lies in no other ball either
  in_no_ball : (hubs : List ℕ) (u v : ℕ) (near_u near_v : Option (ℕ × V)) → Radius k g hubs u near_u → Radius k g hubs v near_v
      → (bu bv : List (ℕ × V)) → Ball k g u (radius_of near_u) bu → Ball k g v (radius_of near_v) bv → Out bv v → Out bu v
  in_no_ball hubs u v near_u None ru rv bu bv ball_u ball_v out d m =
      let i = (ball_u.inside v d m).distance in
      outside v None bv ball_v v out [] (refl, end_exists k g u v i.walk i.joins)
  in_no_ball hubs u v None (Some n) ru rv bu bv ball_u ball_v out d m =
      let i = (ball_u.inside v d m).distance in
      ru n.0 rv.is_hub (i.walk ++ rv.at.walk) (joined k g u v n.0 i.walk rv.at.walk i.joins rv.at.joins)
  in_no_ball hubs u v (Some n') (Some n) ru rv bu bv ball_u ball_v out d m =
      let i = ball_u.inside v d m in
      let there = i.distance in
      let z : AtMost k n.1 k.zero = outside v (Some n.1) bv ball_v v out [] (refl, end_exists k g u v there.walk there.joins) in
      let nearer = ru.no_nearer n.0 (there.walk ++ rv.at.walk) rv.is_hub (joined k g u v n.0 there.walk rv.at.walk there.joins rv.at.joins) in
      let sum : total k (there.walk ++ rv.at.walk) ≡ k.plus d n.1 = total-append k there.walk rv.at.walk ∙ ap (λ (x : V). k.plus x (total k rv.at.walk)) there.totals ∙ ap (k.plus d) rv.at.totals in
      let small : AtMost k (k.plus d n.1) d = subst (λ (x : V). AtMost k (k.plus d n.1) x) (k.unit d) (plus_at_most k d d n.1 k.zero (at_most_refl k d) z) in
      true≢false (sym i.inside ∙ at_most_trans k n'.1 (k.plus d n.1) d (subst (λ (x : V). AtMost k n'.1 x) sum nearer) small)

  module _ (hubs : List ℕ) (s t : ℕ) (near_s near_t : Option (ℕ × V)) (rs : Radius k g hubs s near_s) (rt : Radius k g hubs t near_t)
      (bs bt : List (ℕ × V)) (ball_s : Ball k g s (radius_of near_s) bs) (ball_t : Ball k g t (radius_of near_t) bt) where
    -- a meeting totals no more than x, or x is at least the radii together
    abbrev Crossed : V → Type 0
    Crossed x = ((m : V) × Meets k g s t (radius_of near_s) (radius_of near_t) m × AtMost k m x) ⊎ Far k (radius_of near_s) (radius_of near_t) x

    -- a link from a site of the ball of s to one of the ball of t
    meeting : (u : ℕ) (p : List (Link V)) → Walk g s p u → (a : V) → Memᴰ (u, a) bs → (l : Link V) → At g u l
        → (b : V) → Memᴰ (l.far, b) bt → (q : List (Link V)) → Walk g l.far q t → Crossed (total k (p ++ (l ∷ q)))
    meeting u p pw a ma l al b mb q qw =
        let ia = ball_s.inside u a ma in
        let ib = ball_t.inside l.far b mb in
        let r = turned k g sound l.far t q qw in
        let bound : AtMost k (k.plus a (k.plus l.weight b)) (k.plus (total k p) (k.plus l.weight (total k q))) =
        plus_at_most k a (total k p) (k.plus l.weight b) (k.plus l.weight (total k q)) (ia.distance.least p pw)
        (plus_at_most k l.weight l.weight b (total k q) (at_most_refl k l.weight) (subst (λ (x : V). AtMost k b x) r.2 (ib.distance.least r.0 r.1))) in
        inl (
          k.plus (k.plus a l.weight) b,
          record { near = u; link = l; there = al; from_s = a; from_t = b; in_s = ia; in_t = ib; sum = refl },
          subst (λ (x : V). AtMost k (k.plus (k.plus a l.weight) b) x) (sym (total-append k p (l ∷ q))) (subst (λ (x : V). AtMost k x (k.plus (total k p) (k.plus l.weight (total k q)))) (sym (k.assoc a l.weight b)) bound),
        )

    -- a site of the walk that lies in neither ball
    in_neither : (x : ℕ) (p q : List (Link V)) → Walk g s p x → Walk g x q t → Out bs x → Out bt x → Crossed (total k (p ++ q))
    in_neither x p q pw qw os ot =
        let r = turned k g sound x t q qw in
        inr (subst (Far k (radius_of near_s) (radius_of near_t)) (sym (total-append k p q))
        (beyond_both k (radius_of near_s) (radius_of near_t) (total k p) (total k q) (outside s (radius_of near_s) bs ball_s x os p pw)
        (subst (Beyond k (radius_of near_t)) r.2 (outside t (radius_of near_t) bt ball_t x ot r.0 r.1))))

    longer : (u : ℕ) (p : List (Link V)) (l : Link V) → Walk g s p u → At g u l → Walk g s (p ++ l ∷ []) l.far
    longer u p l pw al = (walked_on k g s u p l pw al (sound.far_exists u l al)).0

    -- over one link from a site of the ball of s; `rest` goes on from the far site, where that lies in the ball of s and not in that of t
    onward : (u : ℕ) (p : List (Link V)) (l : Link V) (q : List (Link V)) → Walk g s p u → At g u l → Walk g l.far q t → (a : V) → Memᴰ (u, a) bs
        → ((b : V) → Memᴰ (l.far, b) bs → Out bt l.far → Crossed (total k (p ++ (l ∷ q)))) → Crossed (total k (p ++ (l ∷ q)))
    onward u p l q pw al qw a m rest =
        ⊎_elim
        (λ (b : (d : V) × Memᴰ (l.far, d) bt). meeting u p pw a m l al b.0 b.1 q qw)
        (λ (o : Out bt l.far).
        ⊎_elim
        (λ (b : (d : V) × Memᴰ (l.far, d) bs). rest b.0 b.1 o)
        (λ (o' : Out bs l.far). subst (λ (ls : List (Link V)). Crossed (total k ls)) (append_assoc p (l ∷ []) q) (in_neither l.far (p ++ (l ∷ [])) q (longer u p l pw al) qw o' o))
        (in_or_out bs l.far))
        (in_or_out bt l.far)

    -- on from a site that the walk has come to, in the ball of s and not in that of t
    along : (u : ℕ) (p q : List (Link V)) → Walk g s p u → Walk g u q t → (a : V) → Memᴰ (u, a) bs → Out bt u → Crossed (total k (p ++ q))
    along u p [] pw qw a m o =
        absurd (in_no_ball hubs s t near_s near_t rs rt bs bt ball_s ball_t (subst (Out bt) qw.0 o) a (subst (λ (x : ℕ). Memᴰ (x, a) bs) qw.0 m))
    along u p (l ∷ q) pw qw a m o =
        onward u p l q pw qw.0 qw.1 a m
        (λ b mb ob. subst (λ (ls : List (Link V)). Crossed (total k ls)) (append_assoc p (l ∷ []) q) (along l.far (p ++ (l ∷ [])) q (longer u p l pw qw.0) qw.1 b mb ob))

    pub crossing : (s ≡ t → ⊥) → (q : List (Link V)) → Walk g s q t → Crossed (total k q)
    crossing ne [] w = absurd (ne w.0)
    crossing ne (l ∷ q) w =
        let back = turned k g sound s t (l ∷ q) w in
        let here : Walk g s [] s = (refl, end_exists k g t s back.0 back.1) in
        ⊎_elim
        (λ (b : (d : V) × Memᴰ (s, d) bs). onward s [] l q here w.0 w.1 b.0 b.1 (λ c mc oc. along l.far (l ∷ []) q (longer s [] l here w.0) w.1 c mc oc))
        (λ (o : Out bs s). in_neither s [] (l ∷ q) here w o (in_no_ball hubs t s near_t near_s rt rs bt bs ball_t ball_s o))
        (in_or_out bs s)
