-- What calls that all answer one value leave.
use Rattle.std.proofs.Common.{◌≡◌, List, [], ◌∷◌, length, replicate, refl, ap, ◌∙◌, subst}
use Rattle.std.specs.List.{FoldsTo}

-- each step from f gives v and leaves f
pub one_value : {P A : Type 0} (R : P → A → P → Type 0) (f : P) (v : A) → ((x : A) (q : P) → R f x q → (x ≡ v) × (q ≡ f)) → (xs : List A) (last : P) → FoldsTo R f xs last → xs ≡ replicate (length xs) v
one_value R f v step [] last h = refl
one_value {P} {A} R f v step (x ∷ xs) last h =
    let s = step x h.0 h.1 in
    let rest : FoldsTo R f xs last = subst (λ p. FoldsTo R p xs last) s.1 h.2 in
    ap (λ y. y ∷ xs) s.0 ∙ ap (λ ys. v ∷ ys) (one_value R f v step xs last rest)
