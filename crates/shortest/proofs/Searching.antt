-- How a search goes: what holds of its settled and its waiting labels, one step after another.
use Rattle.std.proofs.Common.{◌≡◌, ℕ, zero, suc, ◌<◌, ◌≤◌, true, false, ◌⊎◌, List, [], ◌∷◌, ◌++◌, length, get_or, take, Option, sym, refl, ap, ◌∙◌, subst, inl, inr, ⊎_elim, arith}
use mathlib.Core.List.Memᴰ
use mathlib.Core.List.{Memᴰ}
use Rattle.std.proofs.lemmas.List.{length_push, get_or_append_left, get_or_push, nil_from_length, take-append-le, take_at}
use Rattle.std.proofs.lemmas.Bool.{cases_Bool, cases_lt}
use Rattle.weight.specs.Algebra.{Algebra, AtMost}
use Rattle.network.specs.Graph.{Graph, At, Sound}
use Rattle.network.specs.Walks.{Walk, total, Below}
use Rattle.network.specs.declared.link.Link.{Link}
use Rattle.network.proofs.Closing.{labelled_on, walked_on}
use Rattle.network.proofs.Orders.{at_most_refl, at_most_trans, at_most_from_less, at_most_plus, at_most_both, below_lower, zero_plus}
use Rattle.shortest.specs.Finding.{source_label, GoesOn, Found}
use Rattle.shortest.specs.Progress.{Reached, Covered, Searching, nothing, links_of, led}
use Rattle.shortest.specs.declared.waiting.Label.{Label}

-- ---- lists of labels

pub at_place : {X : Type 0} (xs : List X) (i : ℕ) (d : X) → i < length xs → Memᴰ (get_or xs i d) xs
at_place [] i d lt = absurd (omega arith)
at_place (x ∷ xs) zero d lt = Memᴰ.head refl
at_place (x ∷ xs) (suc i) d lt = Memᴰ.tail (at_place xs i d (omega arith))

pub pushed_cases : {X : Type 0} (xs : List X) (y x : X) → Memᴰ x (xs ++ y ∷ []) → Memᴰ x xs ⊎ (x ≡ y)
pushed_cases xs y x m = ⊎_elim (λ (a : Memᴰ x xs). inl a) (λ (b : Memᴰ x (y ∷ [])). inr (Memᴰ.eq_of_singleton b)) (Memᴰ.append_cases xs m)

module _ {V : Type 0} (k : Algebra V) (g : Graph V) (source : ℕ) (cut : Option V) where
  -- ---- the end: nothing waits

  module _ (xs : List (Label V)) (W : Label V → Type 0) (s : Searching k g source cut xs W nothing) (none : (x : Label V) → W x → ⊥) where
    abbrev Labelled : ℕ → V → Type 0
    Labelled v d = (x : Label V) × Memᴰ x xs × (x.site ≡ v) × (x.distance ≡ d)

    covered_labelled : (v : ℕ) (d : V) → Covered k xs W v d → (e : V) × Labelled v e × AtMost k e d
    covered_labelled v d c =
        ⊎_elim (λ (m : Memᴰ c.label xs). (c.label.distance, (c.label, m, c.site, refl), c.bound)) (λ (w : W c.label). absurd (none c.label w)) c.known

    closed : (u : ℕ) (d : V) (l : Link V) → Labelled u d → At g u l → Below k (k.plus d l.weight) cut → (e : V) × Labelled l.far e × AtMost k e (k.plus d l.weight)
    closed u d l p there b =
        let x = p.0 in
        let at_x : At g x.site l = subst (λ v. At g v l) (sym p.2) there in
        let sum : k.plus x.distance l.weight ≡ k.plus d l.weight = ap (λ z. k.plus z l.weight) p.3 in
        let c : Covered k xs W l.far (k.plus x.distance l.weight) =
        ⊎_elim (λ (c : Covered k xs W l.far (k.plus x.distance l.weight)). c) (λ (z : ⊥). absurd z) (s.relaxed x l p.1 at_x (subst (λ z. Below k z cut) (sym sum) b)) in
        let r = covered_labelled l.far (k.plus x.distance l.weight) c in
        (r.0, r.1, subst (AtMost k r.0) sum r.2)

    -- every walk below the limit ends at a labelled site, whose label is at most its total
    bounded : (v : ℕ) (ls : List (Link V)) → Walk g source ls v → Below k (total k ls) cut → (e : V) × Labelled v e × AtMost k e (total k ls)
    bounded v ls a b =
        let z : Below k k.zero cut = below_lower k k.zero (total k ls) cut (k.least (total k ls)) b in
        let start = covered_labelled source k.zero (s.begun z) in
        let is_zero : start.0 ≡ k.zero = at_most_both k start.0 k.zero start.2 (k.least start.0) in
        let sum : k.plus start.0 (total k ls) ≡ total k ls = ap (λ x. k.plus x (total k ls)) is_zero ∙ zero_plus k (total k ls) in
        let r = labelled_on k g cut Labelled closed source v start.0 ls start.1 a (subst (λ x. Below k x cut) (sym sum) b) in
        (r.0, r.1, subst (AtMost k r.0) sum r.2)

    pub found : ((i j : ℕ) (d : Label V) → i < j → j < length xs → (get_or xs i d).site ≡ (get_or xs j d).site → ⊥)
        → ((x y : Label V) → Memᴰ x xs → Memᴰ y xs → x.site ≡ y.site → x ≡ y) → Found k g source cut xs
    found once one = record {
      distances = λ x m.
          let r = s.settled x m in (
            record {
              walk = r.walk;
              joins = r.joins;
              totals = r.totals;
              least = λ ls a. least x m ls a;
            },
            r.below,
          );
      whole = λ v ls a b. let r = bounded v ls a b in (r.1.0, r.1.1, r.1.2);
      once = once;
      rising = s.rising;
      first = s.first;
      others = s.others;
    }
      where
        least : (x : Label V) → Memᴰ x xs → (ls : List (Link V)) → Walk g source ls x.site → AtMost k x.distance (total k ls)
        least x m ls a =
            ⊎_elim
            (λ (less : k.less (total k ls) x.distance ≡ true).
            let r = bounded x.site ls a (below_lower k (total k ls) x.distance cut (at_most_from_less k (total k ls) x.distance less) (s.settled x m).below) in
            let same : r.0 ≡ x.distance = sym r.1.3 ∙ ap (λ y. y.distance) (one r.1.0 x r.1.1 m r.1.2) in
            subst (λ d. AtMost k d (total k ls)) same r.2)
            (λ (more : k.less (total k ls) x.distance ≡ false). more)
            (cases_Bool (k.less (total k ls) x.distance))

  -- ---- the start

  -- the source's own label waits, unless zero is not below the limit
  pub started : (W : Label V → Type 0) → source < g.sites → ((x : Label V) → W x → (x ≡ source_label k source) × Below k k.zero cut) → (Below k k.zero cut → W (source_label k source)) → Searching k g source cut [] W nothing
  started W there only here = record {
    settled = λ x m. absurd (Memᴰ.not-nil m);
    waiting = λ x w.
        let p = only x w in
        record {
          walk = [];
          joins = (ap (λ y. y.site) (sym p.0), there);
          totals = ap (λ y. y.distance) (sym p.0);
          below = subst (λ y. Below k y.distance cut) (sym p.0) p.1;
        };
    relaxed = λ x l m. absurd (Memᴰ.not-nil m);
    later = λ x y m. absurd (Memᴰ.not-nil m);
    rising = λ i j d lt inside. absurd (omega arith);
    begun = λ b. record { label = source_label k source; known = inr (here b); site = refl; bound = at_most_refl k k.zero };
    first = λ d lt. absurd (omega arith);
    others = λ j d lt inside. absurd (omega arith);
    coming = λ x w. inr (refl, (only x w).0);
  }

  -- ---- one label is settled

  module _ (xs : List (Label V)) (W W' : Label V → Type 0) (x : Label V) (s : Searching k g source cut xs W nothing) (waits : W x)
      (others : (y : Label V) → W' y → W y) (left : (y : Label V) → W y → W' y ⊎ (y ≡ x)) (least : (y : Label V) → W y → AtMost k x.distance y.distance)
      (apart : (y : Label V) → W' y → y.site ≡ x.site → ⊥) where
    covered_on : (v : ℕ) (d : V) → Covered k xs W v d → Covered k (xs ++ x ∷ []) W' v d
    covered_on v d c = record {
      label = c.label;
      known =
          ⊎_elim
          (λ (m : Memᴰ c.label xs). inl (Memᴰ.append_left (x ∷ []) m))
          (λ (w : W c.label). ⊎_elim (λ (w' : W' c.label). inr w') (λ (e : c.label ≡ x). inl (Memᴰ.append_right xs (Memᴰ.head e))) (left c.label w))
          c.known;
      site = c.site;
      bound = c.bound;
    }

    at_end : (d : Label V) (j : ℕ) → j < length (xs ++ x ∷ []) → ((j < length xs) × (get_or (xs ++ x ∷ []) j d ≡ get_or xs j d)) ⊎ ((j ≡ length xs) × (get_or (xs ++ x ∷ []) j d ≡ x))
    at_end d j inside =
        ⊎_elim
        (λ (lt : j < length xs). inl (lt, get_or_append_left xs (x ∷ []) d j lt))
        (λ (ge : length xs ≤ j). let e : length xs ≡ j = omega (arith, length_push xs x) in inr (sym e, get_or_push xs x d j e))
        (cases_lt j (length xs))

    pub settled_more : Searching k g source cut (xs ++ x ∷ []) W' (links_of x (g.links x.site))
    settled_more = record {
      settled = λ y m. ⊎_elim (λ (a : Memᴰ y xs). s.settled y a) (λ (e : y ≡ x). subst (Reached k g source cut) (sym e) (s.waiting x waits)) (pushed_cases xs x y m);
      waiting = λ y w. s.waiting y (others y w);
      relaxed = λ y l m there b.
          ⊎_elim
          (λ (a : Memᴰ y xs). ⊎_elim (λ (c : Covered k xs W l.far (k.plus y.distance l.weight)). inl (covered_on l.far _ c)) (λ (z : ⊥). absurd z) (s.relaxed y l a there b))
          (λ (e : y ≡ x). inr (e, subst (λ z. At g z.site l) e there))
          (pushed_cases xs x y m);
      later = λ y z m w. ⊎_elim (λ (a : Memᴰ y xs). s.later y z a (others z w)) (λ (e : y ≡ x). subst (λ t. AtMost k t.distance z.distance) (sym e) (least z (others z w))) (pushed_cases xs x y m);
      rising = λ i j d lt inside.
          ⊎_elim
          (λ (p : (j < length xs) × (get_or (xs ++ x ∷ []) j d ≡ get_or xs j d)).
          subst (λ t. AtMost k (get_or (xs ++ x ∷ []) i d).distance t.distance) (sym p.1)
          (subst (λ t. AtMost k t.distance (get_or xs j d).distance) (sym (get_or_append_left xs (x ∷ []) d i (omega (arith, p.0)))) (s.rising i j d lt p.0)))
          (λ (p : (j ≡ length xs) × (get_or (xs ++ x ∷ []) j d ≡ x)).
          let low : i < length xs = omega (arith, p.0) in
          subst (λ t. AtMost k (get_or (xs ++ x ∷ []) i d).distance t.distance) (sym p.1)
          (subst (λ t. AtMost k t.distance x.distance) (sym (get_or_append_left xs (x ∷ []) d i low)) (s.later (get_or xs i d) x (at_place xs i d low) waits)))
          (at_end d j inside);
      begun = λ b. covered_on source k.zero (s.begun b);
      first = λ d lt.
          ⊎_elim
          (λ (p : (0 < length xs) × (get_or (xs ++ x ∷ []) 0 d ≡ get_or xs 0 d)). p.1 ∙ s.first d p.0)
          (λ (p : (0 ≡ length xs) × (get_or (xs ++ x ∷ []) 0 d ≡ x)).
          p.1 ∙ ⊎_elim (λ (c : GoesOn k g xs x). absurd (nowhere p.0 c)) (λ (e : (xs ≡ []) × (x ≡ source_label k source)). e.1) (s.coming x waits))
          (at_end d 0 lt);
      others = λ j d pos inside.
          ⊎_elim
          (λ (p : (j < length xs) × (get_or (xs ++ x ∷ []) j d ≡ get_or xs j d)).
          subst (λ t. GoesOn k g (take j (xs ++ x ∷ [])) t) (sym p.1) (subst (λ t. GoesOn k g t (get_or xs j d)) (sym (take-append-le j xs (x ∷ []) (omega (arith, p.0)))) (s.others j d pos p.0)))
          (λ (p : (j ≡ length xs) × (get_or (xs ++ x ∷ []) j d ≡ x)).
          subst (λ t. GoesOn k g (take j (xs ++ x ∷ [])) t) (sym p.1) (subst (λ t. GoesOn k g t x) (sym (take_at xs (x ∷ []) j (sym p.0)))
          (⊎_elim (λ (c : GoesOn k g xs x). c) (λ (e : (xs ≡ []) × (x ≡ source_label k source)). absurd (empty_too j pos p.0 e.0)) (s.coming x waits))))
          (at_end d j inside);
      coming = λ y w.
          ⊎_elim
          (λ (c : GoesOn k g xs y). inl (goes_on_later c))
          (λ (e : (xs ≡ []) × (y ≡ source_label k source)).
          ⊎_elim
          (λ (c : GoesOn k g xs x). absurd (nowhere (sym (ap length e.0)) c))
          (λ (f : (xs ≡ []) × (x ≡ source_label k source)). absurd (apart y w (ap (λ t. t.site) (e.1 ∙ sym f.1))))
          (s.coming x waits))
          (s.coming y (others y w));
    }
      where
        nowhere : {y : Label V} → 0 ≡ length xs → GoesOn k g xs y → ⊥
        nowhere e c = Memᴰ.not-nil (subst (Memᴰ c.from) (nil_from_length xs (sym e)) c.among)

        empty_too : (j : ℕ) → 0 < j → j ≡ length xs → xs ≡ [] → ⊥
        empty_too j pos e none = omega (arith, ap length none)

        goes_on_later : {y : Label V} → GoesOn k g xs y → GoesOn k g (xs ++ x ∷ []) y
        goes_on_later c = record { from = c.from; among = Memᴰ.append_left (x ∷ []) c.among; is_before = c.is_before; link = c.link; there = c.there; mark = c.mark; far = c.far; sum = c.sum }

  -- ---- one link is looked at

  -- what an offered label does to the waiting ones
  pub record Taken (xs : List (Label V)) (W : Label V → Type 0) (x : Label V) (W' : Label V → Type 0) : Type 0 where
    -- what waits then waited before, or is the offered label
    pub after : (y : Label V) → W' y → W y ⊎ (y ≡ x)
    -- what waited before still waits, or the offered label, which is nearer, waits for its site
    pub before : (y : Label V) → W y → W' y ⊎ ((y.site ≡ x.site) × AtMost k x.distance y.distance × W' x)
    -- the site then has a label, which is settled or at most the offered one
    pub known : (y : Label V) × (y.site ≡ x.site) × (Memᴰ y xs ⊎ (W' y × AtMost k y.distance x.distance))

  module _ (sound : Sound g) (xs : List (Label V)) (x : Label V) (among : Memᴰ x xs) (last : (y : Label V) → Memᴰ y xs → AtMost k y.distance x.distance) where
    module _ (W W' : Label V → Type 0) (l : Link V) (ls : List (Link V)) (s : Searching k g source cut xs W (links_of x (l ∷ ls))) where
      -- the link leads past the limit
      pub link_passed : (Below k (k.plus x.distance l.weight) cut → ⊥) → Searching k g source cut xs W (links_of x ls)
      link_passed beyond = record {
        settled = s.settled;
        waiting = s.waiting;
        later = s.later;
        rising = s.rising;
        begun = s.begun;
        first = s.first;
        others = s.others;
        coming = s.coming;
        relaxed = λ y m a there b.
            ⊎_elim
            (λ (c : Covered k xs W m.far (k.plus y.distance m.weight)). inl c)
            (λ (t : links_of x (l ∷ ls) y m).
            ⊎_elim
            (λ (e : m ≡ l). absurd (beyond (subst (λ n. Below k (k.plus x.distance n.weight) cut) e (subst (λ z. Below k (k.plus z.distance m.weight) cut) t.0 b))))
            (λ (r : Memᴰ m ls). inr (t.0, r))
            (Memᴰ.cases_cons t.1))
            (s.relaxed y m a there b);
      }

      -- its label is offered
      pub link_offered : At g x.site l → Below k (k.plus x.distance l.weight) cut → Taken xs W (led k x l) W' → Searching k g source cut xs W' (links_of x ls)
      link_offered there below t = record {
        settled = s.settled;
        waiting = λ y w. ⊎_elim (λ (a : W y). s.waiting y a) (λ (e : y ≡ led k x l). subst (Reached k g source cut) (sym e) led_reached) (t.after y w);
        relaxed = λ y m a at b.
            ⊎_elim
            (λ (c : Covered k xs W m.far (k.plus y.distance m.weight)). inl (covered_then m.far _ c))
            (λ (u : links_of x (l ∷ ls) y m).
            ⊎_elim
            (λ (e : m ≡ l). inl (subst (λ n. Covered k xs W' n.far (k.plus y.distance n.weight)) (sym e) (subst (λ z. Covered k xs W' l.far (k.plus z.distance l.weight)) (sym u.0) led_covered)))
            (λ (r : Memᴰ m ls). inr (u.0, r))
            (Memᴰ.cases_cons u.1))
            (s.relaxed y m a at b);
        later = λ y z a w.
            ⊎_elim
            (λ (o : W z). s.later y z a o)
            (λ (e : z ≡ led k x l). subst (λ n. AtMost k y.distance n.distance) (sym e) (at_most_trans k y.distance x.distance _ (last y a) (at_most_plus k x.distance l.weight)))
            (t.after z w);
        rising = s.rising;
        begun = λ b. covered_then source k.zero (s.begun b);
        first = s.first;
        others = s.others;
        coming = λ y w.
            ⊎_elim
            (λ (o : W y). s.coming y o)
            (λ (e : y ≡ led k x l). inl (subst (GoesOn k g xs) (sym e) led_comes))
            (t.after y w);
      }
        where
          led_reached : Reached k g source cut (led k x l)
          led_reached =
              let r = s.settled x among in
              let on = walked_on k g source x.site r.walk l r.joins there (sound.far_exists x.site l there) in
              record { walk = r.walk ++ l ∷ []; joins = on.0; totals = on.1 ∙ ap (λ d. k.plus d l.weight) r.totals; below = below }

          led_comes : GoesOn k g xs (led k x l)
          led_comes = record { from = x; among = among; is_before = refl; link = l; there = there; mark = refl; far = refl; sum = refl }

          led_covered : Covered k xs W' l.far (k.plus x.distance l.weight)
          led_covered =
              let y = t.known.0 in
              ⊎_elim
              (λ (a : Memᴰ y xs). record {
                label = y;
                known = inl a;
                site = t.known.1;
                bound = at_most_trans k y.distance x.distance _ (last y a) (at_most_plus k x.distance l.weight);
              })
              (λ (w : W' y × AtMost k y.distance (k.plus x.distance l.weight)). record { label = y; known = inr w.0; site = t.known.1; bound = w.1 })
              t.known.2

          covered_then : (v : ℕ) (d : V) → Covered k xs W v d → Covered k xs W' v d
          covered_then v d c =
              ⊎_elim
              (λ (a : Memᴰ c.label xs). record { label = c.label; known = inl a; site = c.site; bound = c.bound })
              (λ (w : W c.label).
              ⊎_elim
              (λ (w' : W' c.label). record { label = c.label; known = inr w'; site = c.site; bound = c.bound })
              (λ (n : (c.label.site ≡ l.far) × AtMost k (k.plus x.distance l.weight) c.label.distance × W' (led k x l)).
              record { label = led k x l; known = inr n.2; site = sym n.0 ∙ c.site; bound = at_most_trans k _ c.label.distance d n.1 c.bound })
              (t.before c.label w))
              c.known

    -- all links were looked at
    pub links_done : (W : Label V → Type 0) → Searching k g source cut xs W (links_of x []) → Searching k g source cut xs W nothing
    links_done W s = record {
      settled = s.settled;
      waiting = s.waiting;
      later = s.later;
      rising = s.rising;
      begun = s.begun;
      first = s.first;
      others = s.others;
      coming = s.coming;
      relaxed = λ y m a there b.
          ⊎_elim (λ (c : Covered k xs W m.far (k.plus y.distance m.weight)). inl c) (λ (t : links_of x [] y m). absurd (Memᴰ.not-nil t.1)) (s.relaxed y m a there b);
    }
