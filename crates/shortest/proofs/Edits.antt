-- What the steps on waiting places leave at each place.
use Rattle.std.proofs.Common.{◌≡◌, ℕ, ◌<◌, ◌≤◌, cond, eqb, List, length, get_or, drop, Some, None, Option, sym, refl, ap, ◌∙◌, subst, ⊎_elim, arith, length-set, drop-set-lt}
use Rattle.std.proofs.lemmas.List.{get_or-set_same, get_or-set_other, set_past}
use Rattle.std.proofs.lemmas.Bool.{cases_eq, cases_lt, cond-true, cond-false, eq-eqb, ne_eqb}
use Rattle.shortest.specs.declared.waiting.Label.{Label}
use Rattle.shortest.specs.declared.waiting.Waiting.{Waiting}
use Rattle.shortest.specs.Places.{blank_place, label_at, place_of, relabelled, repointed, put_label, put_at, pointed, swapped, Inside}
use Rattle.shortest.proofs.Heaps.{Traded}

-- ---- options

pub some_inside : {A : Type 0} (x y : A) → ◌≡◌ {A = Option A} (Some x) (Some y) → x ≡ y
some_inside x y e = cc

pub none_some : {A : Type 0} (x : A) → ◌≡◌ {A = Option A} None (Some x) → ⊥
none_some x e = let z : ◌≡◌ {A = ℕ} 0 1 = cc in omega arith

-- ---- two numbers trade places

abbrev pub trade : ℕ → ℕ → ℕ → ℕ
trade i j k = cond (eqb k j) i (cond (eqb k i) j k)

pub trade_right : (i j : ℕ) → trade i j j ≡ i
trade_right i j = cond-true (eqb j j) i (cond (eqb j i) j j) (eq-eqb j j refl)

pub trade_rest : (i j k : ℕ) → (k ≡ i → ⊥) → (k ≡ j → ⊥) → trade i j k ≡ k
trade_rest i j k ni nj = cond-false (eqb k j) i (cond (eqb k i) j k) (ne_eqb k j nj) ∙ cond-false (eqb k i) j k (ne_eqb k i ni)

pub trade_left : (i j : ℕ) → trade i j i ≡ j
trade_left i j =
    ⊎_elim
    (λ (e : i ≡ j). cond-true (eqb i j) i (cond (eqb i i) j i) (eq-eqb i j e) ∙ e)
    (λ (ne : i ≡ j → ⊥). cond-false (eqb i j) i (cond (eqb i i) j i) (ne_eqb i j ne) ∙ cond-true (eqb i i) j i (eq-eqb i i refl))
    (cases_eq i j)

pub data Spot (i j k : ℕ) : Type 0 where
  is_left : k ≡ i → trade i j k ≡ j → Spot i j k
  is_right : k ≡ j → trade i j k ≡ i → Spot i j k
  is_rest : (k ≡ i → ⊥) → (k ≡ j → ⊥) → trade i j k ≡ k → Spot i j k

pub spot : (i j k : ℕ) → Spot i j k
spot i j k =
    ⊎_elim
    (λ (e : k ≡ i). is_left e (ap (trade i j) e ∙ trade_left i j))
    (λ (ni : k ≡ i → ⊥). ⊎_elim (λ (e : k ≡ j). is_right e (ap (trade i j) e ∙ trade_right i j)) (λ (nj : k ≡ j → ⊥). is_rest ni nj (trade_rest i j k ni nj)) (cases_eq k j))
    (cases_eq k i)

pub trade_trade : (i j k : ℕ) → trade i j (trade i j k) ≡ k
trade_trade i j k = elim (spot i j k) [
  | is_left e t ↦ ap (trade i j) t ∙ trade_right i j ∙ sym e
  | is_right e t ↦ ap (trade i j) t ∙ trade_left i j ∙ sym e
  | is_rest ni nj t ↦ ap (trade i j) t ∙ t
]

pub trade_below : (i j k n : ℕ) → i < n → j < n → k < n → trade i j k < n
trade_below i j k n li lj lk = elim (spot i j k) [
  | is_left e t ↦ omega (arith, t)
  | is_right e t ↦ omega (arith, t)
  | is_rest ni nj t ↦ omega (arith, t)
]

-- ---- single writes

module _ {V : Type 0} (ws : List (Waiting V)) (k : ℕ) where
  pub label_put_same : (o : Option (Label V)) → k < length ws → label_at (put_label ws k o) k ≡ o
  label_put_same o lt = ap (λ w. w.label) (get_or-set_same ws k (relabelled o (get_or ws k blank_place)) blank_place lt)

  pub label_put_other : (o : Option (Label V)) (m : ℕ) → (m ≡ k → ⊥) → label_at (put_label ws k o) m ≡ label_at ws m
  label_put_other o m ne = ap (λ w. w.label) (get_or-set_other ws k m (relabelled o (get_or ws k blank_place)) blank_place ne)

  pub at_put_label : (o : Option (Label V)) (m : ℕ) → place_of (put_label ws k o) m ≡ place_of ws m
  at_put_label o m =
      ⊎_elim
      (λ (e : m ≡ k).
      ⊎_elim
      (λ (lt : k < length ws). ap (place_of (put_label ws k o)) e ∙ ap (λ w. w.at) (get_or-set_same ws k (relabelled o (get_or ws k blank_place)) blank_place lt) ∙ ap (place_of ws) (sym e))
      (λ (le : length ws ≤ k). ap (λ us. place_of us m) (set_past ws k (relabelled o (get_or ws k blank_place)) le))
      (cases_lt k (length ws)))
      (λ (ne : m ≡ k → ⊥). ap (λ w. w.at) (get_or-set_other ws k m (relabelled o (get_or ws k blank_place)) blank_place ne))
      (cases_eq m k)

  pub at_put_same : (o : Option ℕ) → k < length ws → place_of (put_at ws k o) k ≡ o
  at_put_same o lt = ap (λ w. w.at) (get_or-set_same ws k (repointed o (get_or ws k blank_place)) blank_place lt)

  pub at_put_other : (o : Option ℕ) (m : ℕ) → (m ≡ k → ⊥) → place_of (put_at ws k o) m ≡ place_of ws m
  at_put_other o m ne = ap (λ w. w.at) (get_or-set_other ws k m (repointed o (get_or ws k blank_place)) blank_place ne)

  pub label_put_at : (o : Option ℕ) (m : ℕ) → label_at (put_at ws k o) m ≡ label_at ws m
  label_put_at o m =
      ⊎_elim
      (λ (e : m ≡ k).
      ⊎_elim
      (λ (lt : k < length ws). ap (label_at (put_at ws k o)) e ∙ ap (λ w. w.label) (get_or-set_same ws k (repointed o (get_or ws k blank_place)) blank_place lt) ∙ ap (label_at ws) (sym e))
      (λ (le : length ws ≤ k). ap (λ us. label_at us m) (set_past ws k (repointed o (get_or ws k blank_place)) le))
      (cases_lt k (length ws)))
      (λ (ne : m ≡ k → ⊥). ap (λ w. w.label) (get_or-set_other ws k m (repointed o (get_or ws k blank_place)) blank_place ne))
      (cases_eq m k)

-- ---- pointing at a label

pub label_pointed : {V : Type 0} (o : Option (Label V)) (p : Option ℕ) (ws : List (Waiting V)) (m : ℕ) → label_at (pointed o p ws) m ≡ label_at ws m
label_pointed None p ws m = refl
label_pointed (Some x) p ws m = label_put_at ws x.site p m

pub length-pointed : {V : Type 0} (o : Option (Label V)) (p : Option ℕ) (ws : List (Waiting V)) → length (pointed o p ws) ≡ length ws
length-pointed None p ws = refl
length-pointed (Some x) p ws = length-set ws x.site (repointed p (get_or ws x.site blank_place))

pub drop-pointed : {V : Type 0} (o : Option (Label V)) (p : Option ℕ) (ws : List (Waiting V)) (n : ℕ) → ((x : Label V) → o ≡ Some x → x.site < n) → drop n (pointed o p ws) ≡ drop n ws
drop-pointed None p ws n lt = refl
drop-pointed (Some x) p ws n lt = drop-set-lt n ws x.site (repointed p (get_or ws x.site blank_place)) (lt x refl)

-- the site of the label, or another one
pub data Pointing {V : Type 0} (o : Option (Label V)) (p : Option ℕ) (ws : List (Waiting V)) (s : ℕ) : Type 0 where
  here : (x : Label V) → o ≡ Some x → x.site ≡ s → place_of (pointed o p ws) s ≡ p → Pointing o p ws s
  elsewhere : ((x : Label V) → o ≡ Some x → x.site ≡ s → ⊥) → place_of (pointed o p ws) s ≡ place_of ws s → Pointing o p ws s

pub pointing : {V : Type 0} (o : Option (Label V)) (p : Option ℕ) (ws : List (Waiting V)) (s : ℕ) → s < length ws → Pointing o p ws s
pointing None p ws s lt = elsewhere (λ x e. absurd (none_some x e)) refl
pointing (Some y) p ws s lt =
    ⊎_elim
    (λ (e : s ≡ y.site).
    here y refl (sym e) (ap (place_of (put_at ws y.site p)) e ∙ at_put_same ws y.site p (subst (λ (m : ℕ). m < length ws) e lt)))
    (λ (ne : s ≡ y.site → ⊥). elsewhere (λ x f e. ne (sym e ∙ ap (λ z. z.site) (sym (some_inside y x f)))) (at_put_other ws y.site p s ne))
    (cases_eq s y.site)

-- ---- a trade of labels

module _ {V : Type 0} (ws : List (Waiting V)) (i j : ℕ) where
  abbrev first : List (Waiting V)
  first = put_label ws i (label_at ws j)

  abbrev pub relaid : List (Waiting V)
  relaid = put_label first j (label_at ws i)

  abbrev second : List (Waiting V)
  second = pointed (label_at ws j) (Some i) relaid

  pub length-relaid : length relaid ≡ length ws
  length-relaid = length-set first j (relabelled (label_at ws i) (get_or first j blank_place)) ∙ length-set ws i (relabelled (label_at ws j) (get_or ws i blank_place))

  pub length-swapped : length (swapped ws i j) ≡ length ws
  length-swapped = length-pointed (label_at ws i) (Some j) second ∙ length-pointed (label_at ws j) (Some i) relaid ∙ length-relaid

  label_through : (k : ℕ) → label_at (swapped ws i j) k ≡ label_at relaid k
  label_through k = label_pointed (label_at ws i) (Some j) second k ∙ label_pointed (label_at ws j) (Some i) relaid k

  pub at_relaid : (s : ℕ) → place_of relaid s ≡ place_of ws s
  at_relaid s = at_put_label first j (label_at ws i) s ∙ at_put_label ws i (label_at ws j) s

  module _ (li : i < length ws) (lj : j < length ws) where
    label_relaid : (k : ℕ) → label_at relaid k ≡ label_at ws (trade i j k)
    label_relaid k =
        ⊎_elim
        (λ (e : k ≡ j).
        ap (label_at relaid) e ∙ label_put_same first j (label_at ws i) (subst (λ (m : ℕ). j < m) (sym (length-set ws i (relabelled (label_at ws j) (get_or ws i blank_place)))) lj)
        ∙ ap (label_at ws) (sym (trade_right i j)) ∙ ap (λ m. label_at ws (trade i j m)) (sym e))
        (λ (nj : k ≡ j → ⊥).
        label_put_other first j (label_at ws i) k nj
        ∙ ⊎_elim
        (λ (e : k ≡ i). ap (label_at first) e ∙ label_put_same ws i (label_at ws j) li ∙ ap (label_at ws) (sym (trade_left i j)) ∙ ap (λ m. label_at ws (trade i j m)) (sym e))
        (λ (ni : k ≡ i → ⊥). label_put_other ws i (label_at ws j) k ni ∙ ap (label_at ws) (sym (trade_rest i j k ni nj)))
        (cases_eq k i))
        (cases_eq k j)

    pub label_swapped : (k : ℕ) → label_at (swapped ws i j) k ≡ label_at ws (trade i j k)
    label_swapped k = label_through k ∙ label_relaid k

    pub swapped_traded : Traded ws (swapped ws i j) i j
    swapped_traded = record {
      one = label_swapped i ∙ ap (label_at ws) (trade_left i j);
      other = label_swapped j ∙ ap (label_at ws) (trade_right i j);
      rest = λ k ni nj. label_swapped k ∙ ap (label_at ws) (trade_rest i j k ni nj);
    }

    pub swapped_inside : (n : ℕ) → i < n → j < n → Inside ws n → Inside (swapped ws i j) n
    swapped_inside n ni nj inside k x lt e =
        subst (λ (m : ℕ). x.site < m) (sym length-swapped) (inside (trade i j k) x (trade_below i j k n ni nj lt) (sym (label_swapped k) ∙ e))
