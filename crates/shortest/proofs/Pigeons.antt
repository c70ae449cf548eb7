-- A site without a label leaves a place free.
use Rattle.std.proofs.Common.{◌≡◌, ℕ, zero, suc, ◌+◌, ◌<◌, ◌≤◌, cond, eqb, List, Some, None, Option, sym, refl, ap, ◌∙◌, subst, inl, inr, ⊎_elim, arith}
use Rattle.std.proofs.lemmas.Bool.{cases_eq, cases_lt, cond-true, cond-false, eq-eqb, ne_eqb}
use Rattle.shortest.specs.declared.waiting.Label.{Label}
use Rattle.shortest.specs.declared.waiting.Waiting.{Waiting}
use Rattle.shortest.specs.Places.{label_at, place_of}
use Rattle.shortest.specs.Queues.{Linked, InUse, Unlabelled}
use Rattle.shortest.proofs.Edits.{some_inside}
use Rattle.shortest.proofs.Links.{held}

-- f without the value m, in whose place the last value comes
abbrev shrunk : (ℕ → ℕ) → ℕ → ℕ → ℕ
shrunk f m k = cond (eqb (f k) m) (f (suc m)) (f k)

hit : (f : ℕ → ℕ) (m k : ℕ) → f k ≡ m → shrunk f m k ≡ f (suc m)
hit f m k e = cond-true (eqb (f k) m) (f (suc m)) (f k) (eq-eqb (f k) m e)

miss : (f : ℕ → ℕ) (m k : ℕ) → (f k ≡ m → ⊥) → shrunk f m k ≡ f k
miss f m k ne = cond-false (eqb (f k) m) (f (suc m)) (f k) (ne_eqb (f k) m ne)

-- n + 1 numbers below n are not all different
pub crowded : (n : ℕ) (f : ℕ → ℕ) → ((k : ℕ) → k ≤ n → f k < n) → ((i j : ℕ) → i ≤ n → j ≤ n → f i ≡ f j → i ≡ j) → ⊥
crowded zero f below apart = let h : f 0 < 0 = below 0 (omega arith) in omega arith
crowded (suc m) f below apart =
    crowded m (shrunk f m)
    (λ k le.
    ⊎_elim
    (λ (e : f k ≡ m).
    let ne : f (suc m) ≡ m → ⊥ = λ z. let same : suc m ≡ k = apart (suc m) k (omega arith) (omega arith) (z ∙ sym e) in omega arith in
    let lt : f (suc m) < suc m = below (suc m) (omega arith) in
    let small : f (suc m) < m = ⊎_elim (λ (s : f (suc m) < m). s) (λ (s : m ≤ f (suc m)). absurd (ne (omega arith))) (cases_lt (f (suc m)) m) in
    subst (λ (v : ℕ). v < m) (sym (hit f m k e)) small)
    (λ (ne : f k ≡ m → ⊥).
    let lt : f k < suc m = below k (omega arith) in
    let small : f k < m = ⊎_elim (λ (s : f k < m). s) (λ (s : m ≤ f k). absurd (ne (omega arith))) (cases_lt (f k) m) in
    subst (λ (v : ℕ). v < m) (sym (miss f m k ne)) small)
    (cases_eq (f k) m))
    (λ i j li lj e.
    ⊎_elim
    (λ (ei : f i ≡ m).
    ⊎_elim
    (λ (ej : f j ≡ m). apart i j (omega arith) (omega arith) (ei ∙ sym ej))
    (λ (nj : f j ≡ m → ⊥).
    let same : suc m ≡ j = apart (suc m) j (omega arith) (omega arith) (sym (hit f m i ei) ∙ e ∙ miss f m j nj) in
    absurd (omega arith))
    (cases_eq (f j) m))
    (λ (ni : f i ≡ m → ⊥).
    ⊎_elim
    (λ (ej : f j ≡ m).
    let same : i ≡ suc m = apart i (suc m) (omega arith) (omega arith) (sym (miss f m i ni) ∙ e ∙ hit f m j ej) in
    absurd (omega arith))
    (λ (nj : f j ≡ m → ⊥). apart i j (omega arith) (omega arith) (sym (miss f m i ni) ∙ e ∙ miss f m j nj))
    (cases_eq (f j) m))
    (cases_eq (f i) m))

site_of : {V : Type 0} → Option (Label V) → ℕ
site_of None = 0
site_of (Some x) = x.site

site_of_some : {V : Type 0} (o : Option (Label V)) (x : Label V) → o ≡ Some x → site_of o ≡ x.site
unfolding site_of
site_of_some o x e = ap site_of e

module _ {V : Type 0} (ws : List (Waiting V)) (sites count done : ℕ) (linked : Linked ws sites (InUse sites count done)) (s : ℕ) (lt : s < sites)
    (none : Unlabelled ws (InUse sites count done) s) (full : sites ≤ count + done) where
  -- the sites of all labels, and then s
  abbrev named : ℕ → ℕ
  named k = cond (eqb k sites) s (site_of (label_at ws k))

  all_used : (k : ℕ) → k < sites → InUse sites count done k
  all_used k lk = ⊎_elim inl (λ le. inr (omega arith, lk)) (cases_lt k count)

  named_last : named sites ≡ s
  named_last = cond-true (eqb sites sites) s (site_of (label_at ws sites)) (eq-eqb sites sites refl)

  named_site : (k : ℕ) (lk : k < sites) → named k ≡ (held ws sites (InUse sites count done) linked k (all_used k lk)).0.site
  named_site k lk =
      let h = held ws sites (InUse sites count done) linked k (all_used k lk) in
      cond-false (eqb k sites) s (site_of (label_at ws k)) (ne_eqb k sites (λ z. omega arith)) ∙ site_of_some (label_at ws k) h.0 h.1.0

  named_here : (k : ℕ) → k < sites → (named k < sites) × (place_of ws (named k) ≡ Some k)
  named_here k lk =
      let h = held ws sites (InUse sites count done) linked k (all_used k lk) in
      let e = named_site k lk in
      (subst (λ (v : ℕ). v < sites) (sym e) h.1.1, ap (place_of ws) e ∙ h.1.2)

  never : (k : ℕ) → k < sites → named k ≡ named sites → ⊥
  never k lk e =
      let h = held ws sites (InUse sites count done) linked k (all_used k lk) in
      none k h.0 (all_used k lk) h.1.0 (sym (named_site k lk) ∙ e ∙ named_last)

  pub not_full : ⊥
  not_full =
      crowded sites named
      (λ k le. ⊎_elim (λ (lk : k < sites). (named_here k lk).0) (λ (ge : sites ≤ k). let z : k ≡ sites = omega arith in subst (λ (m : ℕ). named m < sites) (sym z) (subst (λ (v : ℕ). v < sites) (sym named_last) lt)) (cases_lt k sites))
      (λ i j li lj e.
      ⊎_elim
      (λ (ki : i < sites).
      ⊎_elim
      (λ (kj : j < sites). some_inside i j (sym (named_here i ki).1 ∙ ap (place_of ws) e ∙ (named_here j kj).1))
      (λ (gj : sites ≤ j). let z : j ≡ sites = omega arith in absurd (never i ki (e ∙ ap named z)))
      (cases_lt j sites))
      (λ (gi : sites ≤ i).
      let y : i ≡ sites = omega arith in
      ⊎_elim
      (λ (kj : j < sites). absurd (never j kj (sym e ∙ ap named y)))
      (λ (gj : sites ≤ j). omega arith)
      (cases_lt j sites))
      (cases_lt i sites))

pub free_place : {V : Type 0} (ws : List (Waiting V)) (sites count done : ℕ) → Linked ws sites (InUse sites count done) → (s : ℕ) → s < sites → Unlabelled ws (InUse sites count done) s → count + done < sites
free_place ws sites count done linked s lt none =
    ⊎_elim (λ h. h) (λ full. absurd (not_full ws sites count done linked s lt none full)) (cases_lt (count + done) sites)
