-- Single steps of sifting, over the labels by place.
use Rattle.std.proofs.Common.{◌≡◌, ℕ, zero, suc, ◌<◌, ◌≤◌, true, false, List, Option, sym, refl, ap, ◌∙◌, subst, ⊎_elim, arith}
use Rattle.std.proofs.lemmas.Bool.{cases_eq}
use Rattle.weight.specs.Algebra.{Algebra}
use Rattle.shortest.specs.declared.waiting.Label.{Label}
use Rattle.shortest.specs.declared.waiting.Waiting.{Waiting}
use Rattle.shortest.specs.Places.{label_at}
use Rattle.shortest.specs.Order.{earlier, parent, NotBefore, Ordered, OrderedBut, OrderedUnder, LeastChild}
use Rattle.shortest.proofs.Rank.{earlier_asym, earlier_irrefl, not_trans, not_below}

-- two places have traded their labels
pub record Traded {V : Type 0} (ws us : List (Waiting V)) (i j : ℕ) : Type 0 where
  pub one : label_at us i ≡ label_at ws j
  pub other : label_at us j ≡ label_at ws i
  pub rest : (k : ℕ) → (k ≡ i → ⊥) → (k ≡ j → ⊥) → label_at us k ≡ label_at ws k

module _ {V : Type 0} (a : Algebra V) where
  -- what is not before stays so where the labels are the same
  pub carried : (p q r s : Option (Label V)) → p ≡ r → q ≡ s → earlier a r s ≡ false → earlier a p q ≡ false
  carried p q r s e f h = ap (λ o. earlier a o q) e ∙ ap (earlier a r) f ∙ h

  module _ (ws us : List (Waiting V)) (n i : ℕ) (pos : 0 < i) (lt : i < n) (traded : Traded ws us i (parent i))
      (under : earlier a (label_at ws i) (label_at ws (parent i)) ≡ true) (but : OrderedBut a ws n i) where
    abbrev f : ℕ → Option (Label V)
    f k = label_at ws k

    up_others : (k : ℕ) → 0 < k → k < n → (k ≡ parent i → ⊥) → NotBefore a us k (parent k)
    up_others k k0 kn ne =
        ⊎_elim
        (λ (e : k ≡ i).
        carried _ _ (f (parent i)) (f i) (ap (label_at us) e ∙ traded.one) (ap (λ m. label_at us (parent m)) e ∙ traded.other) (earlier_asym a (f i) (f (parent i)) under))
        (λ (ki : k ≡ i → ⊥).
        let hk : label_at us k ≡ f k = traded.rest k ki ne in
        ⊎_elim
        (λ (e : parent k ≡ i). carried _ _ (f k) (f (parent i)) hk (ap (label_at us) e ∙ traded.one) (but.children k k0 kn e pos))
        (λ (pi : parent k ≡ i → ⊥).
        ⊎_elim
        (λ (e : parent k ≡ parent i).
        carried _ _ (f k) (f i) hk (ap (label_at us) e ∙ traded.other)
        (not_below a (f i) (f (parent i)) (f k) under (carried _ _ (f k) (f (parent k)) refl (ap f (sym e)) (but.others k k0 kn ki))))
        (λ (pp : parent k ≡ parent i → ⊥). carried _ _ (f k) (f (parent k)) hk (traded.rest (parent k) pi pp) (but.others k k0 kn ki))
        (cases_eq (parent k) (parent i)))
        (cases_eq (parent k) i))
        (cases_eq k i)

    up_children : (k : ℕ) → 0 < k → k < n → parent k ≡ parent i → 0 < parent i → NotBefore a us k (parent (parent i))
    up_children k k0 kn e p0 =
        let top : label_at us (parent (parent i)) ≡ f (parent (parent i)) = traded.rest (parent (parent i)) (λ z. omega arith) (λ z. omega arith) in
        let above : earlier a (f (parent i)) (f (parent (parent i))) ≡ false = but.others (parent i) p0 (omega arith) (λ z. omega arith) in
        ⊎_elim
        (λ (ki : k ≡ i). carried _ _ (f (parent i)) (f (parent (parent i))) (ap (label_at us) ki ∙ traded.one) top above)
        (λ (ki : k ≡ i → ⊥).
        carried _ _ (f k) (f (parent (parent i))) (traded.rest k ki (λ z. omega arith)) top
        (not_trans a (f k) (f (parent i)) (f (parent (parent i))) (carried _ _ (f k) (f (parent k)) refl (ap f (sym e)) (but.others k k0 kn ki)) above))
        (cases_eq k i)

    pub up_step : OrderedBut a us n (parent i)
    up_step = record { others = up_others; children = up_children }

  -- nothing under i is before it
  pub sunk : (ws : List (Waiting V)) (n i c : ℕ) → false ≡ earlier a (label_at ws c) (label_at ws i) → LeastChild a ws n i c → OrderedUnder a ws n i → Ordered a ws n
  sunk ws n i c over child under k k0 kn =
      ⊎_elim
      (λ (e : parent k ≡ i).
      carried _ _ (label_at ws k) (label_at ws i) refl (ap (label_at ws) e) (not_trans a (label_at ws k) (label_at ws c) (label_at ws i) (child.least k k0 kn e) (sym over)))
      (λ (ne : parent k ≡ i → ⊥). under.others k k0 kn ne)
      (cases_eq (parent k) i)

  module _ (ws us : List (Waiting V)) (n i c : ℕ) (traded : Traded ws us i c)
      (lower : earlier a (label_at ws c) (label_at ws i) ≡ true) (child : LeastChild a ws n i c) (under : OrderedUnder a ws n i) where
    down_others : (k : ℕ) → 0 < k → k < n → (parent k ≡ c → ⊥) → NotBefore a us k (parent k)
    down_others k k0 kn ne =
        let up : parent c ≡ i = child.up in
        let after : i < c = child.after in
        ⊎_elim
        (λ (e : k ≡ c).
        carried _ _ (label_at ws i) (label_at ws c) (ap (label_at us) e ∙ traded.other) (ap (λ m. label_at us (parent m)) e ∙ ap (label_at us) up ∙ traded.one)
        (earlier_asym a (label_at ws c) (label_at ws i) lower))
        (λ (kc : k ≡ c → ⊥).
        ⊎_elim
        (λ (e : k ≡ i).
        let pos : 0 < i = omega arith in
        carried _ _ (label_at ws c) (label_at ws (parent i)) (ap (label_at us) e ∙ traded.one)
        (ap (λ m. label_at us (parent m)) e ∙ traded.rest (parent i) (λ z. omega arith) (λ z. omega arith)) (under.grand c (omega arith) child.inside up pos))
        (λ (ki : k ≡ i → ⊥).
        ⊎_elim
        (λ (e : parent k ≡ i). carried _ _ (label_at ws k) (label_at ws c) (traded.rest k ki kc) (ap (label_at us) e ∙ traded.one) (child.least k k0 kn e))
        (λ (pi : parent k ≡ i → ⊥). carried _ _ (label_at ws k) (label_at ws (parent k)) (traded.rest k ki kc) (traded.rest (parent k) pi ne) (under.others k k0 kn pi))
        (cases_eq (parent k) i))
        (cases_eq k i))
        (cases_eq k c)

    down_grand : (k : ℕ) → 0 < k → k < n → parent k ≡ c → 0 < c → NotBefore a us k (parent c)
    down_grand k k0 kn e pos =
        let up : parent c ≡ i = child.up in
        let after : i < c = child.after in
        carried _ _ (label_at ws k) (label_at ws c) (traded.rest k (λ z. omega arith) (λ z. omega arith)) (ap (label_at us) up ∙ traded.one)
        (carried _ _ (label_at ws k) (label_at ws (parent k)) refl (ap (label_at ws) (sym e)) (under.others k k0 kn (λ z. omega arith)))

    pub down_step : OrderedUnder a us n c
    down_step = record { others = down_others; grand = down_grand }

  -- no label is before the first one
  front_least : (ws : List (Waiting V)) (n : ℕ) → Ordered a ws n → (b k : ℕ) → k ≤ b → k < n → NotBefore a ws k 0
  front_least ws n ordered zero k le lt = let z : k ≡ 0 = omega arith in subst (λ (m : ℕ). NotBefore a ws m 0) (sym z) (earlier_irrefl a (label_at ws 0))
  front_least ws n ordered (suc b) k le lt =
      ⊎_elim
      (λ (z : k ≡ 0). subst (λ (m : ℕ). NotBefore a ws m 0) (sym z) (earlier_irrefl a (label_at ws 0)))
      (λ (ne : k ≡ 0 → ⊥).
      not_trans a (label_at ws k) (label_at ws (parent k)) (label_at ws 0) (ordered k (omega arith) lt) (front_least ws n ordered b (parent k) (omega arith) (omega arith)))
      (cases_eq k 0)

  pub none_before_front : (ws : List (Waiting V)) (n : ℕ) → Ordered a ws n → (k : ℕ) → k < n → NotBefore a ws k 0
  none_before_front ws n ordered k lt = front_least ws n ordered k k (omega arith) lt
