-- Links looked at one after the other: the best total counts them all.
use Rattle.std.proofs.Common.{◌≡◌, ℕ, ◌+◌, ◌<◌, ◌≤◌, true, false, ◌⊎◌, List, ◌∷◌, length, get_or, Some, None, Option, sym, refl, ap, ◌∙◌, subst, inl, inr, ⊎_elim, arith}
use mathlib.Core.List.Memᴰ
use mathlib.Core.List.{Memᴰ}
use Rattle.std.proofs.lemmas.List.{get_or_default}
use Rattle.std.proofs.lemmas.Bool.{cases_Bool, cases_lt, cond-true, cond-false}
use Rattle.std.proofs.lemmas.Option.{same_Some}
use Rattle.weight.specs.Algebra.{Algebra, AtMost}
use Rattle.network.specs.Graph.{Graph, At}
use Rattle.network.specs.declared.link.Link.{Link}
use Rattle.network.proofs.Orders.{at_most_refl, at_most_trans, at_most_from_less}
use Rattle.shortest.proofs.Searching.{at_place}
use Rattle.shortest.proofs.Settled.{mem_place}
use Rattle.filling.specs.declared.places.Entry.{Entry}
use Rattle.query.specs.Lookup.{FoundIn}
use Rattle.query.specs.Meeting.{least_of, Crossing, Bounded, NoWorse, MetOver, Met}

module _ {V : Type 0} (k : Algebra V) where
  -- ---- the lesser of two

  least_either : (best : Option V) (x : V) → (least_of k best x ≡ Some x) ⊎ (least_of k best x ≡ best)
  least_either None x = inl refl
  least_either (Some m) x =
      ⊎_elim (λ (t : k.less x m ≡ true). inl (cond-true (k.less x m) (Some x) (Some m) t)) (λ (f : k.less x m ≡ false). inr (cond-false (k.less x m) (Some x) (Some m) f)) (cases_Bool (k.less x m))

  least_bound : (best : Option V) (x : V) → (m : V) × (least_of k best x ≡ Some m) × AtMost k m x
  least_bound None x = (x, refl, at_most_refl k x)
  least_bound (Some m) x =
      ⊎_elim (λ (t : k.less x m ≡ true). (x, cond-true (k.less x m) (Some x) (Some m) t, at_most_refl k x)) (λ (f : k.less x m ≡ false). (m, cond-false (k.less x m) (Some x) (Some m) f, f)) (cases_Bool (k.less x m))

  least_no_worse : (best : Option V) (x : V) → NoWorse k best (least_of k best x)
  least_no_worse best x m e =
      subst (λ (o : Option V). (m' : V) × (least_of k o x ≡ Some m') × AtMost k m' m) (sym e)
      (⊎_elim
      (λ (t : k.less x m ≡ true). (x, cond-true (k.less x m) (Some x) (Some m) t, at_most_from_less k x m t))
      (λ (f : k.less x m ≡ false). (m, cond-false (k.less x m) (Some x) (Some m) f, at_most_refl k m)) (cases_Bool (k.less x m)))

  then_no_worse : (a b c : Option V) → NoWorse k a b → NoWorse k b c → NoWorse k a c
  then_no_worse a b c p q m e =
      let one = p m e in
      let two = q one.0 one.1 in
      (two.0, two.1, at_most_trans k two.0 one.0 m two.2 one.2)

  -- what bounds still bounds when the best total gets no worse
  bounded_on : (ball : List (Entry V)) (distance : V) (l : Link V) (a b : Option V) → NoWorse k a b → Bounded k ball distance l a → Bounded k ball distance l b
  bounded_on ball distance l a b p (inl none) = inl none
  bounded_on ball distance l a b p (inr h) = let m = p h.0 h.1 in inr (m.0, m.1, h.2, h.3, at_most_trans k m.0 h.0 h.2 m.2 h.4)

  -- ---- one link

  module _ (ball : List (Entry V)) (distance : V) (l : Link V) (best : Option V) where
    pub met_one : (rest x : V) → FoundIn ball l.far (Some rest) → x ≡ k.plus (k.plus distance l.weight) rest → (r : Option V) → r ≡ least_of k best x → MetOver k ball distance (λ m. m ≡ l) best r
    met_one rest x found is r e =
        let over : Crossing k ball distance l x = (found.0, found.1, found.2, is ∙ ap (k.plus (k.plus distance l.weight)) (sym found.3)) in
        subst (MetOver k ball distance (λ m. m ≡ l) best) (sym e) (record {
          no_worse = least_no_worse best x;
          bounded = λ m same. subst (λ (z : Link V). Bounded k ball distance z (least_of k best x)) (sym same) (let b = least_bound best x in inr (b.0, b.1, x, over, b.2));
          comes = λ y f.
              ⊎_elim
              (λ (new : least_of k best x ≡ Some x). inr (l, refl, subst (Crossing k ball distance l) (same_Some x y (sym new ∙ f)) over))
              (λ (old : least_of k best x ≡ best). inl (sym old ∙ f))
              (least_either best x);
        })

  -- ---- the links at a site

  -- those that are not left were looked at
  pub record MeetingAt (ball : List (Entry V)) (distance : V) (ls left : List (Link V)) (best r : Option V) : Type 0 where
    pub no_worse : NoWorse k best r
    pub bounded : (l : Link V) → Memᴰ l ls → Memᴰ l left ⊎ Bounded k ball distance l r
    pub comes : (x : V) → r ≡ Some x → (best ≡ Some x) ⊎ ((l : Link V) × Memᴰ l ls × Crossing k ball distance l x)

  module _ (ball : List (Entry V)) (distance : V) (ls : List (Link V)) (best : Option V) where
    pub one_met : (l : Link V) (left left' : List (Link V)) (r r' : Option V) → left ≡ l ∷ left' → Memᴰ l ls → MeetingAt ball distance ls left best r
        → MetOver k ball distance (λ m. m ≡ l) r r' → MeetingAt ball distance ls left' best r'
    one_met l left left' r r' e there so_far now = record {
      no_worse = then_no_worse best r r' so_far.no_worse now.no_worse;
      bounded = λ m among.
          ⊎_elim
          (λ (a : Memᴰ m left).
          ⊎_elim (λ (same : m ≡ l). inr (now.bounded m same)) (λ (rest : Memᴰ m left'). inl rest) (Memᴰ.cases_cons (subst (Memᴰ m) e a)))
          (λ (b : Bounded k ball distance m r). inr (bounded_on ball distance m r r' now.no_worse b))
          (so_far.bounded m among);
      comes = λ x is.
          ⊎_elim
          (λ (old : r ≡ Some x). so_far.comes x old)
          (λ (new : (m : Link V) × (m ≡ l) × Crossing k ball distance m x). inr (l, there, subst (λ (z : Link V). Crossing k ball distance z x) new.1 new.2))
          (now.comes x is);
    }

  -- ---- the sites of a ball

  module _ (g : Graph V) (ball other : List (Entry V)) where
    -- the first n entries were looked at
    pub record MeetingOver (n : ℕ) (r : Option V) : Type 0 where
      pub bounded : (i : ℕ) (d : Entry V) (l : Link V) → i < n → At g (get_or ball i d).site l → Bounded k other (get_or ball i d).distance l r
      pub comes : (x : V) → r ≡ Some x → (e : Entry V) × (l : Link V) × Memᴰ e ball × At g e.site l × Crossing k other e.distance l x

    pub one_site : (n : ℕ) (e : Entry V) (r r' : Option V) → n < length ball → e ≡ get_or ball n e → MeetingOver n r → MetOver k other e.distance (At g e.site) r r' → MeetingOver (n + 1) r'
    one_site n e r r' inside read so_far now = record {
      bounded = λ i d l lt there.
          ⊎_elim
          (λ (less : i < n). bounded_on other (get_or ball i d).distance l r r' now.no_worse (so_far.bounded i d l less there))
          (λ (ge : n ≤ i).
          let same : e ≡ get_or ball i d = read ∙ get_or_default ball n e d inside ∙ ap (λ j. get_or ball j d) (omega arith) in
          subst (λ (z : Entry V). Bounded k other z.distance l r') same (now.bounded l (subst (λ (z : Entry V). At g z.site l) (sym same) there)))
          (cases_lt i n);
      comes = λ x is.
          ⊎_elim
          (λ (old : r ≡ Some x). so_far.comes x old)
          (λ (new : (l : Link V) × At g e.site l × Crossing k other e.distance l x). (e, new.0, subst (λ (z : Entry V). Memᴰ z ball) (sym read) (at_place ball n e inside), new.1, new.2))
          (now.comes x is);
    }

    pub all_sites : (n : ℕ) (r : Option V) → length ball ≤ n → MeetingOver n r → Met k g ball other r
    all_sites n r all so_far = record {
      bounded = λ e l among there.
          let at = mem_place e ball among in
          subst (λ (z : Entry V). Bounded k other z.distance l r) (at.2 e) (so_far.bounded at.0 e l (omega (arith, at.1)) (subst (λ (z : Entry V). At g z.site l) (sym (at.2 e)) there));
      comes = so_far.comes;
    }
