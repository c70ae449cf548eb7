-- What a trade of labels keeps of the links between places and sites.
use Rattle.std.proofs.Common.{◌≡◌, ℕ, ◌<◌, ◌≤◌, List, length, get_or, drop, Option, Some, None, sym, refl, ap, ◌∙◌, subst, inl, ⊎_elim, arith, length-set, drop-set-lt}
use Rattle.std.specs.Option.{IsSomeAnd}
use Rattle.std.proofs.lemmas.Bool.{cases_eq}
use Rattle.shortest.specs.declared.waiting.Label.{Label}
use Rattle.shortest.specs.declared.waiting.Waiting.{Waiting}
use Rattle.shortest.specs.Places.{blank_place, label_at, place_of, relabelled, repointed, put_label, put_at, pointed, swapped, Inside, Moves}
use Rattle.shortest.specs.Places as places
use Rattle.shortest.specs.Queues.{Linked, InUse, WaitsIn}
use Rattle.shortest.proofs.Edits.{some_inside, label_put_same, label_put_other, at_put_label, at_put_same, at_put_other, label_put_at, trade, trade_left, trade_right, trade_rest, trade_trade, trade_below, is_left, is_right, is_rest, spot, here, elsewhere, pointing, relaid, length-relaid, length-swapped, length-pointed, at_relaid, label_swapped, drop-pointed}

-- a label laid at a place, which its site names
abbrev pub laid_in : {V : Type 0} → List (Waiting V) → ℕ → Label V → List (Waiting V)
laid_in ws p x = put_at (put_label ws p (Some x)) x.site (Some p)

-- a place is linked that has the label of a site which names it
pub links_on : {V : Type 0} (ws : List (Waiting V)) (sites k : ℕ) (x : Label V) → label_at ws k ≡ Some x → x.site < sites → place_of ws x.site ≡ Some k
    → IsSomeAnd (label_at ws k) (λ y. (y.site < sites) × (place_of ws y.site ≡ Some k))
links_on ws sites k x e there named = subst (λ o. IsSomeAnd o (λ y. (y.site < sites) × (place_of ws y.site ≡ Some k))) (sym e) (there, named)

module _ {V : Type 0} (ws : List (Waiting V)) (sites : ℕ) (Used : ℕ → Type 0) (linked : Linked ws sites Used) where
  -- the label at a place in use
  pub held : (k : ℕ) → Used k → (x : Label V) × ((label_at ws k ≡ Some x) × (x.site < sites) × (place_of ws x.site ≡ Some k))
  held k u = by (label_at ws k) refl (linked k u)
    where
      by : (o : Option (Label V)) → label_at ws k ≡ o → IsSomeAnd o (λ x. (x.site < sites) × (place_of ws x.site ≡ Some k))
          → (x : Label V) × ((label_at ws k ≡ Some x) × (x.site < sites) × (place_of ws x.site ≡ Some k))
      by None e h = absurd h
      by (Some x) e h = (x, (e, h.0, h.1))

  -- the site of a label names its place
  pub of_label : (k : ℕ) (x : Label V) → Used k → label_at ws k ≡ Some x → (x.site < sites) × (place_of ws x.site ≡ Some k)
  of_label k x u e =
      let h = held k u in
      let same : h.0 ≡ x = some_inside h.0 x (sym h.1.0 ∙ e) in
      (subst (λ (y : Label V). y.site < sites) same h.1.1, subst (λ (y : Label V). place_of ws y.site ≡ Some k) same h.1.2)

  -- a site has one place
  pub one_place : (k m : ℕ) (x y : Label V) → Used k → Used m → label_at ws k ≡ Some x → label_at ws m ≡ Some y → x.site ≡ y.site → k ≡ m
  one_place k m x y uk um e f s =
      some_inside k m (sym (of_label k x uk e).1 ∙ ap (place_of ws) s ∙ (of_label m y um f).1)

  pub linked_inside : (n : ℕ) → ((k : ℕ) → k < n → Used k) → sites ≤ length ws → Inside ws n
  linked_inside n used fits k x lt e = let h = (of_label k x (used k lt) e).0 in omega arith

  module _ (fits : sites ≤ length ws) (i j : ℕ) (li : i < sites) (lj : j < sites) (ui : Used i) (uj : Used j) where
    at_swapped : (k : ℕ) (x : Label V) → Used k → label_at ws k ≡ Some x → place_of (swapped ws i j) x.site ≡ Some (trade i j k)
    at_swapped k x u e =
        let named = of_label k x u e in
        let second : List (Waiting V) = pointed (label_at ws j) (Some i) (relaid ws i j) in
        let long : x.site < length (relaid ws i j) = omega (arith, length-relaid ws i j, named.0) in
        elim (pointing (label_at ws i) (Some j) second x.site (omega (arith, long, length-pointed (label_at ws j) (Some i) (relaid ws i j)))) [
          | here y f z p ↦ p ∙ ap Some (sym (trade_left i j) ∙ ap (trade i j) (one_place i k y x ui u f e z))
          | elsewhere ni p ↦
              p ∙ elim (pointing (label_at ws j) (Some i) (relaid ws i j) x.site long) [
                | here y f z r ↦ r ∙ ap Some (sym (trade_right i j) ∙ ap (trade i j) (one_place j k y x uj u f e z))
                | elsewhere nj r ↦
                    r ∙ at_relaid ws i j x.site ∙ named.1
                    ∙ ap Some (sym (trade_rest i j k (λ z. ni x (ap (label_at ws) (sym z) ∙ e) refl) (λ z. nj x (ap (label_at ws) (sym z) ∙ e) refl)))
              ]
        ]

    -- a trade renames places
    pub swapped_linked : ((k : ℕ) → Used k → Used (trade i j k)) → Linked (swapped ws i j) sites Used
    swapped_linked to k u =
        let h = held (trade i j k) (to k u) in
        links_on (swapped ws i j) sites k h.0 (label_swapped ws i j (omega arith) (omega arith) k ∙ h.1.0) h.1.1 (at_swapped (trade i j k) h.0 (to k u) h.1.0 ∙ ap Some (trade_trade i j k))

    pub drop-swapped : drop sites (swapped ws i j) ≡ drop sites ws
    drop-swapped =
        drop-pointed (label_at ws i) (Some j) (pointed (label_at ws j) (Some i) (relaid ws i j)) sites (λ x e. (of_label i x ui e).0)
        ∙ drop-pointed (label_at ws j) (Some i) (relaid ws i j) sites (λ x e. (of_label j x uj e).0)
        ∙ drop-set-lt sites (put_label ws i (label_at ws j)) j _ lj ∙ drop-set-lt sites ws i _ li

  -- A label x is laid at the place p, and its site names p. The places in use afterwards are p and such as
  -- were in use before, without a label of that site.
  module _ (x : Label V) (p : ℕ) (there : x.site < sites) (fits : sites ≤ length ws) (inside : p < sites) (Used' : ℕ → Type 0)
      (others : (k : ℕ) → Used' k → (k ≡ p → ⊥) → Used k × ((y : Label V) → label_at ws k ≡ Some y → y.site ≡ x.site → ⊥)) where
    pub laid_long : length (laid_in ws p x) ≡ length ws
    laid_long = length-set (put_label ws p (Some x)) x.site (repointed (Some p) (get_or (put_label ws p (Some x)) x.site blank_place)) ∙ length-set ws p (relabelled (Some x) (get_or ws p blank_place))

    pub laid_new : label_at (laid_in ws p x) p ≡ Some x
    laid_new = label_put_at (put_label ws p (Some x)) x.site (Some p) p ∙ label_put_same ws p (Some x) (omega arith)

    pub laid_old : (k : ℕ) → (k ≡ p → ⊥) → label_at (laid_in ws p x) k ≡ label_at ws k
    laid_old k ne = label_put_at (put_label ws p (Some x)) x.site (Some p) k ∙ label_put_other ws p (Some x) k ne

    pub laid_drop : drop sites (laid_in ws p x) ≡ drop sites ws
    laid_drop =
        drop-set-lt sites (put_label ws p (Some x)) x.site (repointed (Some p) (get_or (put_label ws p (Some x)) x.site blank_place)) there
        ∙ drop-set-lt sites ws p (relabelled (Some x) (get_or ws p blank_place)) inside

    pub laid_linked : Linked (laid_in ws p x) sites Used'
    laid_linked k u =
        ⊎_elim
        (λ (e : k ≡ p).
        links_on (laid_in ws p x) sites k x (ap (label_at (laid_in ws p x)) e ∙ laid_new) there
        (at_put_same (put_label ws p (Some x)) x.site (Some p) (omega (arith, length-set ws p (relabelled (Some x) (get_or ws p blank_place)))) ∙ ap Some (sym e)))
        (λ (ne : k ≡ p → ⊥).
        let o = others k u ne in
        let h = held k o.0 in
        links_on (laid_in ws p x) sites k h.0 (laid_old k ne ∙ h.1.0) h.1.1
        (at_put_other (put_label ws p (Some x)) x.site (Some p) h.0.site (o.1 h.0 h.1.0) ∙ at_put_label ws p (Some x) h.0.site ∙ h.1.2))
        (cases_eq k p)

-- ---- labels below count trade places

trade_used : (sites count done i j k : ℕ) → i < count → j < count → count ≤ sites → InUse sites count done k → InUse sites count done (trade i j k)
trade_used sites count done i j k li lj le u = elim (spot i j k) [
  | is_left e t ↦ inl (omega (arith, t))
  | is_right e t ↦ inl (omega (arith, t))
  | is_rest ni nj t ↦ subst (InUse sites count done) (sym t) u
]

-- what trades below n keep
pub record Moved {V : Type 0} (n sites count done : ℕ) (ws us : List (Waiting V)) : Type 0 where
  pub linked : Linked us sites (InUse sites count done)
  pub size : length us ≡ length ws
  pub beyond : drop sites us ≡ drop sites ws
  pub above : (k : ℕ) → n ≤ k → label_at us k ≡ label_at ws k
  pub kept : (x : Label V) → WaitsIn ws count x → WaitsIn us count x
  pub came : (x : Label V) → WaitsIn us count x → WaitsIn ws count x

pub moved : {V : Type 0} (n sites count done : ℕ) (ws us : List (Waiting V)) → n ≤ count → count ≤ sites → sites ≤ length ws → Linked ws sites (InUse sites count done) → Moves n ws us → Moved n sites count done ws us
moved n sites count done ws _ nc cs fits linked places.stay =
    record { linked = linked; size = refl; beyond = refl; above = λ k h. refl; kept = λ x h. h; came = λ x h. h }
moved n sites count done ws _ nc cs fits linked (places.trade vs us i j li lj e moves) =
    let m = moved n sites count done ws vs nc cs fits linked moves in
    let fv : sites ≤ length vs = omega (arith, m.size) in
    let labels : (k : ℕ) → label_at us k ≡ label_at vs (trade i j k) = λ k. ap (λ z. label_at z k) e ∙ label_swapped vs i j (omega arith) (omega arith) k in
    record {
      linked = subst (λ (z : List (Waiting _)). Linked z sites (InUse sites count done)) (sym e)
          (swapped_linked vs sites (InUse sites count done) m.linked fv i j (omega arith) (omega arith) (inl (omega arith)) (inl (omega arith))
          (λ k u. trade_used sites count done i j k (omega arith) (omega arith) cs u));
      size = ap length e ∙ length-swapped vs i j ∙ m.size;
      beyond = ap (drop sites) e ∙ drop-swapped vs sites (InUse sites count done) m.linked fv i j (omega arith) (omega arith) (inl (omega arith)) (inl (omega arith)) ∙ m.beyond;
      above = λ k h. labels k ∙ ap (label_at vs) (trade_rest i j k (λ z. omega arith) (λ z. omega arith)) ∙ m.above k h;
      kept = λ x w.
          let v = m.kept x w in
          (trade i j v.0, (trade_below i j v.0 count (omega arith) (omega arith) v.1.0, labels (trade i j v.0) ∙ ap (label_at vs) (trade_trade i j v.0) ∙ v.1.1));
      came = λ x w. m.came x (trade i j w.0, (trade_below i j w.0 count (omega arith) (omega arith) w.1.0, sym (labels w.0) ∙ w.1.1));
    }
