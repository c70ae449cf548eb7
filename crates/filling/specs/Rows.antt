-- What the functions do that fill hub rows and find each site's hub.
use Rattle.std.specs.Prelude.{◌≡◌, ℕ, ◌-◌, ◌*◌, ◌<◌, ◌≤◌, Bool, true, false, cond, List, [], ◌∷◌, ◌++◌, length, get_or, drop, Some, None, Option, nat_lt, slice_index_or, slice_set}
use Rattle.weight.specs.Algebra.{Algebra}
use Rattle.network.specs.Graph.{Graph}
use Rattle.shortest.specs.Places.{label_at}
use Rattle.shortest.specs.declared.waiting.Label.{Label}
use Rattle.shortest.specs.declared.waiting.Waiting.{Waiting}
use Rattle.filling.specs.Standing.{Told, HubStands}
use Rattle.filling.specs.declared.places.RowPlace.{RowPlace}
use Rattle.filling.specs.declared.places.SitePlace.{SitePlace}

-- memory as long as it was, and beyond n places as it was
pub record Spared {X : Type 0} (n : ℕ) (xs ys : List X) : Type 0 where
  pub size : length ys ≡ length xs
  pub beyond : drop n ys ≡ drop n xs

-- ---- one row

-- what a row tells of the site of a label
abbrev pub row_place : {V : Type 0} → Label V → RowPlace V
row_place x = record { distance = Some x.distance; before = x.before; mark = x.mark }

-- the row with the labels in it, each at the place of its site
abbrev pub rowed : {V : Type 0} → List (Label V) → List (RowPlace V) → List (RowPlace V)
rowed [] row = row
rowed (x ∷ xs) row = rowed xs (slice_set row x.site (row_place x))

-- the first so many settled labels are of sites below n
abbrev pub Within : {V : Type 0} → List (Waiting V) → ℕ → ℕ → ℕ → Type 0
Within {V} ws sites found n = (found ≤ sites) × ((i : ℕ) (x : Label V) → i < found → label_at ws (sites - 1 - i) ≡ Some x → x.site < n)

-- whether a hub h at the distance d is nearer than the nearest so far, or as near and lower
abbrev pub closer : {V : Type 0} → Algebra V → V → ℕ → Option V → Option ℕ → Bool
closer k d h None old = true
closer k d h (Some r) None = true
closer k d h (Some r) (Some old) = cond (k.less d r) true (cond (k.less r d) false (nat_lt h old))

-- the place of a site after it was told of the hub h, at this distance if at any
abbrev pub nearer : {V : Type 0} → Algebra V → ℕ → Option V → SitePlace V → SitePlace V
nearer k h None p = p
nearer k h (Some d) p = cond (closer k d h p.radius p.hub) (record { radius = Some d; hub = Some h; first = p.first; count = p.count }) p

-- each place was told of the hub h, at the distance in its row
pub record Noted {V : Type 0} (k : Algebra V) (h : ℕ) (row : List (RowPlace V)) (places places' : List (SitePlace V)) : Type 0 where
  pub size : length places' ≡ length places
  pub each : (v : ℕ) (d : SitePlace V) (e : RowPlace V) → v < length places → slice_index_or places' v d ≡ nearer k h (get_or row v e).distance (slice_index_or places v d)

-- The row of the hub h was filled, and the place of each site knows h among its hubs now.
pub record RowFilled {V : Type 0} (k : Algebra V) (g : Graph V) (h : ℕ) (row row' : List (RowPlace V)) (places places' : List (SitePlace V)) (ws ws' : List (Waiting V)) : Type 0 where
  pub row_size : length row' ≡ length row
  pub place_size : length places' ≡ length places
  pub spared : Spared g.sites ws ws'
  pub stands : HubStands k g row' 0 h
  pub told : (hs : List ℕ) (v : ℕ) (d : SitePlace V) → v < g.sites → Told k g hs v (slice_index_or places v d) → Told k g (hs ++ h ∷ []) v (slice_index_or places' v d)

-- ---- all rows

-- The rows of these hubs were filled, and the place of each site tells its radius and its hub.
pub record RowsFilled {V : Type 0} (k : Algebra V) (g : Graph V) (hubs : List ℕ) (places places' : List (SitePlace V)) (rows rows' : List (RowPlace V)) (ws ws' : List (Waiting V)) : Type 0 where
  pub place_size : length places' ≡ length places
  pub row_size : length rows' ≡ length rows
  pub spared : Spared g.sites ws ws'
  pub told : (v : ℕ) (d : SitePlace V) → v < g.sites → Told k g hubs v (slice_index_or places' v d)
  pub hub_rows : (r d : ℕ) → r < length hubs → HubStands k g rows' (r * g.sites) (slice_index_or hubs r d)
  pub others : (i : ℕ) (d : RowPlace V) → length hubs * g.sites ≤ i → slice_index_or rows' i d ≡ slice_index_or rows i d
