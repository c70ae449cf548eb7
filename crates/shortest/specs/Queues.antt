-- A queue of labels: what its type says of it, and what its calls do.
use Rattle.std.specs.Prelude.{◌≡◌, ℕ, zero, suc, ◌+◌, ◌-◌, ◌<◌, ◌≤◌, Bool, true, false, ◌⊎◌, List, [], ◌∷◌, ◌++◌, length, drop, Some, None, Option, ◌==◌, ◌≢◌}
use Rattle.std.specs.List.{ContainsAt as Has}
use Rattle.std.specs.Option.{IsSomeAnd}
use Rattle.weight.specs.Algebra.{Algebra, AtMost}
use Rattle.shortest.specs.declared.waiting.Label.{Label}
use Rattle.shortest.specs.declared.waiting.Waiting.{Waiting}
use Rattle.shortest.specs.Places.{label_at, place_of}
use Rattle.shortest.specs.Order.{sooner}

-- ---- what its type says

-- the places in use: those below count, and the last ones below sites
abbrev pub InUse : ℕ → ℕ → ℕ → ℕ → Type 0
InUse sites count done k = (k < count) ⊎ ((sites ≤ k + done) × (k < sites))

-- Each place in use has the label of a site, and that site names the place. What the other places hold does not matter,
-- nor what a site without a label names.
abbrev pub Linked : {V : Type 0} → List (Waiting V) → ℕ → (ℕ → Type 0) → Type 0
Linked ws sites Used = (k : ℕ) → Used k → IsSomeAnd (label_at ws k) (λ x. (x.site < sites) × (place_of ws x.site ≡ Some k))

-- a queue as it stands
pub record State (V : Type 0) : Type 0 where
  pub places : List (Waiting V)
  pub sites : ℕ
  pub count : ℕ
  pub settled : ℕ

-- ---- what a queue shows

-- the label x waits: some place below count has it
abbrev pub WaitsIn : {V : Type 0} → List (Waiting V) → ℕ → Label V → Type 0
WaitsIn ws count x = (k : ℕ) × ((k < count) × (label_at ws k ≡ Some x))

abbrev pub Waits : {V : Type 0} → State V → Label V → Type 0
Waits q x = WaitsIn q.places q.count x

abbrev pub listed : {V : Type 0} → Option (Label V) → List (Label V)
listed None = []
listed (Some x) = x ∷ []

-- the first so many settled labels, in the order of settling
abbrev pub settled_labels : {V : Type 0} → List (Waiting V) → ℕ → ℕ → List (Label V)
settled_labels ws sites zero = []
settled_labels ws sites (suc n) = settled_labels ws sites n ++ listed (label_at ws (sites - 1 - n))

abbrev pub settled_of : {V : Type 0} → State V → List (Label V)
settled_of q = settled_labels q.places q.sites q.settled

-- the sites are the same ones, the memory is as long, and beyond the sites it is as it was
pub record Spared {V : Type 0} (q q' : State V) : Type 0 where
  pub sites : q'.sites ≡ q.sites
  pub size : length q'.places ≡ length q.places
  pub beyond : drop q.sites q'.places ≡ drop q.sites q.places

-- no label in use is of the site s
abbrev pub Unlabelled : {V : Type 0} → List (Waiting V) → (ℕ → Type 0) → ℕ → Type 0
Unlabelled {V} ws Used s = (k : ℕ) (y : Label V) → Used k → label_at ws k ≡ Some y → y.site ≢ s

-- the place that is named, if it is in use
abbrev pub NamedUsed : ℕ → ℕ → ℕ → Option ℕ → Option ℕ → Type 0
NamedUsed sites count done named None = (i : ℕ) → named ≡ Some i → InUse sites count done i → ⊥
NamedUsed sites count done named (Some i) = (named ≡ Some i) × InUse sites count done i

-- there is a label, and it is of the site s
abbrev pub of_site : {V : Type 0} → ℕ → Option (Label V) → Bool
of_site s None = false
of_site s (Some x) = x.site == s

-- ---- what its calls do

-- x waits now, and else the labels that waited, without the one of its site
pub record Taken {V : Type 0} (q : State V) (x : Label V) (q' : State V) : Type 0 where
  pub new : Waits q' x
  pub kept : (y : Label V) → Waits q y → (y.site ≢ x.site) → Waits q' y
  pub came : (y : Label V) → Waits q' y → (y ≡ x) ⊎ (Waits q y × (y.site ≢ x.site))

-- the label at a place is of the site of x, at a larger distance
pub record Farther {V : Type 0} (a : Algebra V) (ws : List (Waiting V)) (at : ℕ) (x : Label V) : Type 0 where
  pub old : Label V
  pub here : label_at ws at ≡ Some old
  pub site : old.site ≡ x.site
  pub farther : a.less x.distance old.distance ≡ true

-- a distance is below that of a label, if there is one
abbrev pub beats : {V : Type 0} → Algebra V → V → Option (Label V) → Bool
beats a d None = false
beats a d (Some x) = a.less d x.distance

-- What comes of a label that is offered. Its site had no label, and the label is put into the queue;
-- or a label of that site waited at a larger distance, and is replaced; or else nothing changes.
pub data Outcome {V : Type 0} (a : Algebra V) (q : State V) (x : Label V) (q' : State V) : Type 0 where
  entered : ((y : Label V) → Waits q y → y.site ≢ x.site) → ((y : Label V) → Has (settled_of q) y → y.site ≢ x.site) → Taken q x q' → Outcome a q x q'
  lowered : (old : Label V) → Waits q old → old.site ≡ x.site → a.less x.distance old.distance ≡ true → Taken q x q' → Outcome a q x q'
  left_waiting : (old : Label V) → Waits q old → old.site ≡ x.site → AtMost a old.distance x.distance → q' ≡ q → Outcome a q x q'
  left_settled : (old : Label V) → Has (settled_of q) old → old.site ≡ x.site → q' ≡ q → Outcome a q x q'

pub record Offering {V : Type 0} (a : Algebra V) (q : State V) (x : Label V) (q' : State V) : Type 0 where
  pub spared : Spared q q'
  pub number : q'.settled ≡ q.settled
  pub settled : settled_of q' ≡ settled_of q
  pub outcome : Outcome a q x q'

-- The label x is settled: it waited, none that waited comes before it, and the others still wait.
pub record Settling {V : Type 0} (a : Algebra V) (q : State V) (x : Label V) (q' : State V) : Type 0 where
  pub waited : Waits q x
  pub least : (y : Label V) → Waits q y → sooner a y x ≡ false
  pub number : q'.settled ≡ q.settled + 1
  pub settled : settled_of q' ≡ settled_of q ++ x ∷ []
  pub kept : (y : Label V) → Waits q y → (y.site ≢ x.site) → Waits q' y
  pub came : (y : Label V) → Waits q' y → Waits q y × (y.site ≢ x.site)

-- the least label is settled; none where none waits, and then nothing changes
abbrev pub SettledOne : {V : Type 0} → Algebra V → State V → Option (Label V) → State V → Type 0
SettledOne a q None q' = (q.count ≡ 0) × (q' ≡ q)
SettledOne a q (Some x) q' = Settling a q x q'
