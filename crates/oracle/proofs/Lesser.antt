-- The lesser of two totals is one of them, and at most each.
use Rattle.std.proofs.Common.{◌≡◌, ℕ, true, false, ◌⊎◌, Some, None, Option, sym, ap, ◌∙◌, subst, inl, inr, ⊎_elim}
use Rattle.std.proofs.lemmas.Bool.{cases_Bool, cond-true, cond-false}
use Rattle.std.proofs.lemmas.Option.{none-some}
use Rattle.weight.specs.Algebra.{Algebra, AtMost}
use Rattle.network.proofs.Orders.{at_most_refl, at_most_from_less}
use Rattle.oracle.specs.Rule.{lesser}

value_in : {V : Type 0} (p q : V × ℕ) → ◌≡◌ {A = Option (V × ℕ)} (Some p) (Some q) → p.0 ≡ q.0
value_in p q e = let same : p ≡ q = cc in ap (λ r. r.0) same

module _ {V : Type 0} (k : Algebra V) (d : V) (manner : ℕ) where
  pub lesser_one : (meeting hub : Option V) → lesser k meeting hub ≡ Some (d, manner) → (meeting ≡ Some d) ⊎ (hub ≡ Some d)
  lesser_one None None e = absurd (none-some (d, manner) e)
  lesser_one None (Some h) e = inr (ap (λ x. Some x) (value_in (h, 2) (d, manner) e))
  lesser_one (Some m) None e = inl (ap (λ x. Some x) (value_in (m, 1) (d, manner) e))
  lesser_one (Some m) (Some h) e =
      ⊎_elim
      (λ (t : k.less h m ≡ true). inr (ap (λ x. Some x) (value_in (h, 2) (d, manner) (sym (cond-true (k.less h m) (Some (h, 2)) (Some (m, 1)) t) ∙ e))))
      (λ (f : k.less h m ≡ false). inl (ap (λ x. Some x) (value_in (m, 1) (d, manner) (sym (cond-false (k.less h m) (Some (h, 2)) (Some (m, 1)) f) ∙ e))))
      (cases_Bool (k.less h m))

  pub lesser_meeting : (m : V) (hub : Option V) → lesser k (Some m) hub ≡ Some (d, manner) → AtMost k d m
  lesser_meeting m None e = subst (λ (x : V). AtMost k x m) (value_in (m, 1) (d, manner) e) (at_most_refl k m)
  lesser_meeting m (Some h) e =
      ⊎_elim
      (λ (t : k.less h m ≡ true).
      subst (λ (x : V). AtMost k x m) (value_in (h, 2) (d, manner) (sym (cond-true (k.less h m) (Some (h, 2)) (Some (m, 1)) t) ∙ e)) (at_most_from_less k h m t))
      (λ (f : k.less h m ≡ false).
      subst (λ (x : V). AtMost k x m) (value_in (m, 1) (d, manner) (sym (cond-false (k.less h m) (Some (h, 2)) (Some (m, 1)) f) ∙ e)) (at_most_refl k m))
      (cases_Bool (k.less h m))

  pub lesser_hub : (meeting : Option V) (h : V) → lesser k meeting (Some h) ≡ Some (d, manner) → AtMost k d h
  lesser_hub None h e = subst (λ (x : V). AtMost k x h) (value_in (h, 2) (d, manner) e) (at_most_refl k h)
  lesser_hub (Some m) h e =
      ⊎_elim
      (λ (t : k.less h m ≡ true).
      subst (λ (x : V). AtMost k x h) (value_in (h, 2) (d, manner) (sym (cond-true (k.less h m) (Some (h, 2)) (Some (m, 1)) t) ∙ e)) (at_most_refl k h))
      (λ (f : k.less h m ≡ false). subst (λ (x : V). AtMost k x h) (value_in (m, 1) (d, manner) (sym (cond-false (k.less h m) (Some (h, 2)) (Some (m, 1)) f) ∙ e)) f)
      (cases_Bool (k.less h m))

-- two totals have a lesser
pub lesser_some : {V : Type 0} (k : Algebra V) (m h : V) → lesser k (Some m) (Some h) ≡ None → ⊥
lesser_some k m h e =
    ⊎_elim
    (λ (t : k.less h m ≡ true). none-some (h, 2) (sym e ∙ cond-true (k.less h m) (Some (h, 2)) (Some (m, 1)) t))
    (λ (f : k.less h m ≡ false). none-some (m, 1) (sym e ∙ cond-false (k.less h m) (Some (h, 2)) (Some (m, 1)) f))
    (cases_Bool (k.less h m))
