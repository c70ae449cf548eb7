-- The order of labels: of two, not both come before the other, and "not before" goes on.
use Rattle.std.proofs.Common.{◌≡◌, ◌≤◌, Bool, true, false, cond, ltb, ◌⊎◌, Some, None, Option, sym, refl, ◌∙◌, subst, inl, inr, ⊎_elim, arith}
use Rattle.std.proofs.lemmas.Bool.{cases_Bool, both_ways, true≢false, false≢true, ltb-true, ltb-false, le-ltb}
use Rattle.weight.specs.Algebra.{Algebra}
use Rattle.shortest.specs.declared.waiting.Label.{Label}
use Rattle.shortest.specs.Order.{sooner, earlier}

chosen_true : (p q r : Bool) → cond p true (cond q false r) ≡ true → (p ≡ true) ⊎ ((p ≡ false) × (q ≡ false) × (r ≡ true))
chosen_true true q r e = inl refl
chosen_true false true r e = absurd (false≢true e)
chosen_true false false r e = inr (refl, refl, e)

chosen_false : (p q r : Bool) → cond p true (cond q false r) ≡ false → (q ≡ true) ⊎ ((p ≡ false) × (q ≡ false) × (r ≡ false))
chosen_false true q r e = absurd (true≢false e)
chosen_false false true r e = inl refl
chosen_false false false r e = inr (refl, refl, e)

chosen_first : (p q r : Bool) → p ≡ true → cond p true (cond q false r) ≡ true
chosen_first true q r e = refl
chosen_first false q r e = absurd (false≢true e)

chosen_second : (p q r : Bool) → p ≡ false → q ≡ true → cond p true (cond q false r) ≡ false
chosen_second true q r e f = absurd (true≢false e)
chosen_second false true r e f = refl
chosen_second false false r e f = absurd (false≢true f)

chosen_last : (p q r : Bool) → p ≡ false → r ≡ false → cond p true (cond q false r) ≡ false
chosen_last true q r e f = absurd (true≢false e)
chosen_last false true r e f = refl
chosen_last false false r e f = f

module _ {V : Type 0} (a : Algebra V) where
  pub less_asym : (x y : V) → a.less x y ≡ true → a.less y x ≡ false
  less_asym x y h = ⊎_elim (λ e. absurd (both_ways (a.less x x) (a.irrefl x) (a.trans x y x h e))) (λ e. e) (cases_Bool (a.less y x))

  -- y is at a smaller distance, or at the same one with no larger site
  abbrev Behind : Label V → Label V → Type 0
  Behind x y = (a.less y.distance x.distance ≡ true) ⊎ ((x.distance ≡ y.distance) × (y.site ≤ x.site))

  behind_of : (x y : Label V) → sooner a x y ≡ false → Behind x y
  behind_of x y e =
      ⊎_elim inl (λ p. inr (a.same x.distance y.distance p.0 p.1, ltb-false x.site y.site p.2))
      (chosen_false (a.less x.distance y.distance) (a.less y.distance x.distance) (ltb x.site y.site) e)

  of_behind : (x y : Label V) → Behind x y → sooner a x y ≡ false
  of_behind x y =
      ⊎_elim
      (λ h. chosen_second (a.less x.distance y.distance) (a.less y.distance x.distance) (ltb x.site y.site) (less_asym y.distance x.distance h) h)
      (λ p. chosen_last (a.less x.distance y.distance) (a.less y.distance x.distance) (ltb x.site y.site)
      (subst (λ (v : V). a.less x.distance v ≡ false) p.0 (a.irrefl x.distance)) (le-ltb x.site y.site p.1))

  behind_trans : (x y z : Label V) → Behind x y → Behind y z → Behind x z
  behind_trans x y z =
      ⊎_elim
      (λ h. ⊎_elim (λ k. inl (a.trans z.distance y.distance x.distance k h)) (λ k. inl (subst (λ (v : V). a.less v x.distance ≡ true) k.0 h)))
      (λ h. ⊎_elim (λ k. inl (subst (λ (v : V). a.less z.distance v ≡ true) (sym h.0) k)) (λ k. inr (h.0 ∙ k.0, omega (arith, h.1, k.1))))

  sooner_asym : (x y : Label V) → sooner a x y ≡ true → sooner a y x ≡ false
  sooner_asym x y e =
      of_behind y x
      (⊎_elim inl (λ p. inr (sym (a.same x.distance y.distance p.0 p.1), omega (arith, ltb-true x.site y.site p.2)))
      (chosen_true (a.less x.distance y.distance) (a.less y.distance x.distance) (ltb x.site y.site) e))

  -- a smaller distance comes first
  pub nearer_sooner : (x y : Label V) → a.less x.distance y.distance ≡ true → sooner a x y ≡ true
  nearer_sooner x y h = chosen_first (a.less x.distance y.distance) (a.less y.distance x.distance) (ltb x.site y.site) h

  pub earlier_asym : (x y : Option (Label V)) → earlier a x y ≡ true → earlier a y x ≡ false
  earlier_asym None y e = absurd (false≢true e)
  earlier_asym (Some x) None e = refl
  earlier_asym (Some x) (Some y) e = sooner_asym x y e

  pub earlier_irrefl : (x : Option (Label V)) → earlier a x x ≡ false
  earlier_irrefl None = refl
  earlier_irrefl (Some x) = of_behind x x (inr (refl, omega arith))

  pub not_trans : (x y z : Option (Label V)) → earlier a x y ≡ false → earlier a y z ≡ false → earlier a x z ≡ false
  not_trans None y z p q = refl
  not_trans (Some x) None z p q = absurd (true≢false p)
  not_trans (Some x) (Some y) None p q = absurd (true≢false q)
  not_trans (Some x) (Some y) (Some z) p q = of_behind x z (behind_trans x y z (behind_of x y p) (behind_of y z q))

  pub not_below : (x y z : Option (Label V)) → earlier a x y ≡ true → earlier a z y ≡ false → earlier a z x ≡ false
  not_below x y z p q = not_trans z y x q (earlier_asym x y p)
