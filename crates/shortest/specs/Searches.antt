-- What the functions of a search do to its queue.
use Rattle.std.specs.Prelude.{◌≡◌, ℕ, ◌-◌, ◌<◌, ◌≤◌, cond, List, length, get_or, drop, Some, None, Option, nat_lt, slice_index_or}
use mathlib.Core.List.{Memᴰ}
use Rattle.weight.specs.Algebra.{Algebra, AtMost}
use Rattle.network.specs.Graph.{Graph}
use Rattle.network.specs.Walks.{Below}
use Rattle.shortest.specs.Finding.{Found}
use Rattle.shortest.specs.Places.{label_at, place_of}
use Rattle.shortest.specs.Progress.{Searching, nothing, links_of}
use Rattle.shortest.specs.Queues.{State, Spared, Waits, Offering, settled_of, settled_labels}
use Rattle.shortest.specs.declared.waiting.Label.{Label}
use Rattle.shortest.specs.declared.waiting.Waiting.{Waiting}

-- a label is offered where its distance is below the limit, and else nothing changes
pub data OfferedBelow {V : Type 0} (k : Algebra V) (cut : Option V) (q : State V) (x : Label V) (q' : State V) : Type 0 where
  offered : Below k x.distance cut → Offering k q x q' → OfferedBelow k cut q x q'
  not_below : (Below k x.distance cut → ⊥) → q' ≡ q → OfferedBelow k cut q x q'

-- all links at the site of the settled label x were looked at
pub record Relaxed {V : Type 0} (k : Algebra V) (g : Graph V) (cut : Option V) (q : State V) (x : Label V) (q' : State V) : Type 0 where
  pub spared : Spared q q'
  pub settled : settled_of q' ≡ settled_of q
  pub goes : (source : ℕ) → Memᴰ x (settled_of q) → ((y : Label V) → Memᴰ y (settled_of q) → AtMost k y.distance x.distance)
      → Searching k g source cut (settled_of q) (Waits q) (links_of x (g.links x.site)) → Searching k g source cut (settled_of q) (Waits q') nothing

-- nothing waits any more, and the settled labels are those that a search finds
pub record Searched {V : Type 0} (k : Algebra V) (g : Graph V) (source : ℕ) (cut : Option V) (before after : State V) : Type 0 where
  pub spared : Spared before after
  pub none : after.count ≡ 0
  pub found : Found k g source cut (settled_of after)

-- What a search leaves in the lent places: n labels, as it finds them, and for each of their sites the place of its label.
pub record SearchedIn {V : Type 0} (k : Algebra V) (g : Graph V) (source : ℕ) (cut : Option V) (before : List (Waiting V)) (n : ℕ) (after : List (Waiting V)) : Type 0 where
  pub there : source < g.sites
  pub room : g.sites ≤ length before
  pub size : length after ≡ length before
  pub beyond : drop g.sites after ≡ drop g.sites before
  pub few : n ≤ g.sites
  pub count : length (settled_labels after g.sites n) ≡ n
  pub found : Found k g source cut (settled_labels after g.sites n)
  pub labels : (i : ℕ) → i < n → (d : Label V) → label_at after (g.sites - 1 - i) ≡ Some (slice_index_or (settled_labels after g.sites n) i d)
  pub placed : (i : ℕ) → i < n → (d : Label V) → place_of after (get_or (settled_labels after g.sites n) i d).site ≡ Some (g.sites - 1 - i)

-- A search is refused where the source does not exist or there is not a place for each site, and then nothing changes.
abbrev pub SearchDone : {V : Type 0} → Algebra V → Graph V → ℕ → Option V → List (Waiting V) → Option ℕ → List (Waiting V) → Type 0
SearchDone k g source cut before (Some n) after = SearchedIn k g source cut before n after
SearchDone k g source cut before None after = (source < g.sites → g.sites ≤ length before → ⊥) × (after ≡ before)

-- ---- what can be read after a search

-- the label that was settled after so many others
abbrev pub label_in_order : {V : Type 0} → List (Waiting V) → ℕ → ℕ → Option (Label V)
label_in_order ws sites i = cond (nat_lt i sites) (label_at ws (sites - 1 - i)) None

-- after how many others a place was filled
abbrev pub place_order : ℕ → Option ℕ → Option ℕ
place_order sites None = None
place_order sites (Some p) = cond (nat_lt p sites) (Some (sites - 1 - p)) None

-- after how many others the label of a site was settled
abbrev pub order_of : {V : Type 0} → List (Waiting V) → ℕ → ℕ → Option ℕ
order_of ws sites s = place_order sites (place_of ws s)
