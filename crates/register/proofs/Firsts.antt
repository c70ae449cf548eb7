-- The lowest and the highest number at a site.
use Rattle.std.proofs.Common.{◌≡◌, ℕ, zero, suc, ◌+◌, ◌<◌, Bool, true, false, cond, ◌⊎◌, List, [], ◌∷◌, ◌++◌, length, get_or, drop, Some, None, Option, sym, refl, ap, ◌∙◌, inl, inr, ⊎_elim, le_of_suc-le-suc, not-suc-le-zero, arith}
use Rattle.std.proofs.lemmas.Bool.{cond-true, cond-false}
use Rattle.register.specs.Chains.{meets, first_from, last_from, or_else}

-- what is left of a list from place j on begins with the element at j
pub record Cut {X : Type 0} (ws : List X) (j : ℕ) (x : X) (xs : List X) : Type 0 where
  pub below : j < length ws
  pub here : (d : X) → get_or ws j d ≡ x
  pub more : drop (suc j) ws ≡ xs

pub cut : {X : Type 0} (ws : List X) (j : ℕ) (x : X) (xs : List X) → drop j ws ≡ x ∷ xs → Cut ws j x xs
cut [] zero x xs e = let z : ◌≡◌ {A = ℕ} 0 1 = cc in absurd (omega arith)
cut [] (suc j) x xs e = let z : ◌≡◌ {A = ℕ} 0 1 = cc in absurd (omega arith)
cut (w ∷ ws) zero x xs e = record { below = omega arith; here = λ d. cc; more = cc }
cut (w ∷ ws) (suc j) x xs e = let c = cut ws j x xs e in record { below = omega (arith, c.below); here = c.here; more = c.more }

-- ---- the parts of a choice among optional numbers

pub or_else_some : (a b : Option ℕ) (k : ℕ) → or_else a b ≡ Some k → (a ≡ Some k) ⊎ ((a ≡ None) × (b ≡ Some k))
or_else_some None b k e = inr (refl, e)
or_else_some (Some i) b k e = inl e

pub or_else_none : (a b : Option ℕ) → or_else a b ≡ None → (a ≡ None) × (b ≡ None)
or_else_none None b e = (refl, e)
or_else_none (Some i) b e = let z : ◌≡◌ {A = ℕ} 0 1 = cc in absurd (omega arith)

pub or_else_empty : (a : Option ℕ) → or_else a None ≡ a
or_else_empty None = refl
or_else_empty (Some i) = refl

-- an optional number that is there stays
pub or_else_there : (a b : Option ℕ) → (a ≡ None → ⊥) → or_else a b ≡ a
or_else_there None b h = absurd (h refl)
or_else_there (Some i) b h = refl

pub cond_some : (t : Bool) (j k : ℕ) (a : Option ℕ) → cond t (Some j) a ≡ Some k → ((t ≡ true) × (j ≡ k)) ⊎ ((t ≡ false) × (a ≡ Some k))
cond_some true j k a e = inl (refl, cc)
cond_some false j k a e = inr (refl, e)

pub cond_none : (t : Bool) (j : ℕ) (a : Option ℕ) → cond t (Some j) a ≡ None → (t ≡ false) × (a ≡ None)
cond_none true j a e = let z : ◌≡◌ {A = ℕ} 0 1 = cc in absurd (omega arith)
cond_none false j a e = (refl, e)

-- ---- one more link at the end, with the number n

pub first_push : (u j n : ℕ) (es : List (ℕ × ℕ)) (e : ℕ × ℕ) → n ≡ j + length es → first_from u j (es ++ e ∷ []) ≡ or_else (first_from u j es) (cond (meets u e) (Some n) None)
first_push u j n [] e h = let s : j ≡ n = omega arith in ap (λ k. cond (meets u e) (Some k) None) s
first_push u j n (x ∷ es) e h =
    let more = first_push u (suc j) n es e (omega arith) in
    elim (meets u x) as (λ t. cond t (Some j) (first_from u (suc j) (es ++ e ∷ [])) ≡ or_else (cond t (Some j) (first_from u (suc j) es)) (cond (meets u e) (Some n) None))
    [ true ↦ refl | false ↦ more ]

pub last_push : (u j n : ℕ) (es : List (ℕ × ℕ)) (e : ℕ × ℕ) → n ≡ j + length es → last_from u j (es ++ e ∷ []) ≡ cond (meets u e) (Some n) (last_from u j es)
last_push u j n [] e h = let s : j ≡ n = omega arith in ap (λ k. cond (meets u e) (Some k) None) s
last_push u j n (x ∷ es) e h =
    let here = cond (meets u x) (Some j) None in
    ap (λ o. or_else o here) (last_push u (suc j) n es e (omega arith))
    ∙ elim (meets u e) as (λ t. or_else (cond t (Some n) (last_from u (suc j) es)) here ≡ cond t (Some n) (or_else (last_from u (suc j) es) here)) [ true ↦ refl | false ↦ refl ]

-- ---- the last number at a site is the one that none follows

pub first_none : (u j : ℕ) (es : List (ℕ × ℕ)) → last_from u j es ≡ None → first_from u j es ≡ None
first_none u j [] h = refl
first_none u j (x ∷ es) h =
    let parts = or_else_none (last_from u (suc j) es) (cond (meets u x) (Some j) None) h in
    cond-false (meets u x) _ _ (cond_none (meets u x) j None parts.1).0 ∙ first_none u (suc j) es parts.0

pub last_none : (u j : ℕ) (es : List (ℕ × ℕ)) → first_from u j es ≡ None → last_from u j es ≡ None
last_none u j [] h = refl
last_none u j (x ∷ es) h =
    let parts = cond_none (meets u x) j (first_from u (suc j) es) h in
    ap (λ o. or_else o (cond (meets u x) (Some j) None)) (last_none u (suc j) es parts.1) ∙ cond-false (meets u x) _ _ parts.0

pub record Last (u j : ℕ) (es : List (ℕ × ℕ)) (k : ℕ) : Type 0 where
  pub place : ℕ
  pub number : k ≡ j + place
  pub below : place < length es
  pub none_follows : first_from u (suc k) (drop (suc place) es) ≡ None

pub last_found : (u j k : ℕ) (es : List (ℕ × ℕ)) → last_from u j es ≡ Some k → Last u j es k
last_found u j k [] h = let z : ◌≡◌ {A = ℕ} 0 1 = cc in absurd (omega arith)
last_found u j k (x ∷ es) h =
    ⊎_elim
    (λ later.
    let l = last_found u (suc j) k es later in
    record { place = suc l.place; number = omega (arith, l.number); below = omega (arith, l.below); none_follows = l.none_follows })
    (λ parts.
    ⊎_elim
    (λ here. record {
      place = 0;
      number = omega (arith, here.1);
      below = omega arith;
      none_follows = ap (λ i. first_from u (suc i) es) (sym here.1) ∙ first_none u (suc j) es parts.0;
    })
    (λ no. let e = no.1 in let z : ◌≡◌ {A = ℕ} 0 1 = cc in absurd (omega arith))
    (cond_some (meets u x) j k None parts.1))
    (or_else_some (last_from u (suc j) es) (cond (meets u x) (Some j) None) k h)

pub last_is : (u j i k : ℕ) (es : List (ℕ × ℕ)) (d : ℕ × ℕ) → k ≡ j + i → i < length es → meets u (get_or es i d) ≡ true → first_from u (suc k) (drop (suc i) es) ≡ None → last_from u j es ≡ Some k
last_is u j i k [] d n h m f = absurd (not-suc-le-zero h)
last_is u j zero k (x ∷ es) d n h m f =
    let s : k ≡ j = omega arith in
    ap (λ o. or_else o (cond (meets u x) (Some j) None)) (last_none u (suc j) es (ap (λ i. first_from u (suc i) es) (sym s) ∙ f))
    ∙ cond-true (meets u x) _ _ m ∙ ap Some (sym s)
last_is u j (suc i) k (x ∷ es) d n h m f =
    ap (λ o. or_else o (cond (meets u x) (Some j) None)) (last_is u (suc j) i k es d (omega arith) (le_of_suc-le-suc h) m f)
