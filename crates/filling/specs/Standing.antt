-- The tables of a standing build: what they tell of a network's hubs, distances and balls.
use Rattle.std.specs.Prelude.{◌≡◌, ℕ, zero, suc, ◌+◌, ◌*◌, ◌<◌, ◌≤◌, ◌⊎◌, List, length, get_or, Some, None, Option, slice_index_or}
use mathlib.Core.List.{Memᴰ}
use Rattle.weight.specs.Algebra.{Algebra}
use Rattle.network.specs.Graph.{Graph}
use Rattle.network.specs.Walks.{Unjoined}
use Rattle.oracle.specs.Radius.{Radius, radius_of, hub_of}
use Rattle.shortest.specs.Finding.{Found}
use Rattle.shortest.specs.declared.waiting.Label.{Label}
use Rattle.filling.specs.Places.{blank_row, blank_entry}
use Rattle.filling.specs.declared.places.Entry.{Entry}
use Rattle.filling.specs.declared.places.RowPlace.{RowPlace}
use Rattle.filling.specs.declared.places.SitePlace.{SitePlace}

-- ---- balls

-- The hub of v with its radius, and the sites of its ball, as a search below that radius finds them.
pub record Ball {V : Type 0} (k : Algebra V) (g : Graph V) (hubs : List ℕ) (v : ℕ) (near : Option (ℕ × V)) (xs : List (Label V)) : Type 0 where
  pub radius : Radius k g hubs v near
  pub sites : Found k g v (radius_of near) xs

-- the balls of the sites below v have n entries in all
abbrev pub Balls : {V : Type 0} → Algebra V → Graph V → List ℕ → ℕ → ℕ → Type 0
Balls k g hubs zero n = n ≡ 0
Balls {V} k g hubs (suc v) n = (m : ℕ) × (near : Option (ℕ × V)) × (xs : List (Label V)) × Balls k g hubs v m × Ball k g hubs v near xs × (n ≡ m + length xs)

-- The entry of the j-th label of a ball whose part begins at the place `first`. The entry before it is that of the
-- site before it, which lies earlier; the first one, which is the ball's own site, names its own place.
pub record Entered {V : Type 0} (first : ℕ) (xs : List (Label V)) (j : ℕ) (e : Entry V) : Type 0 where
  pub site : (d : Label V) → e.site ≡ (get_or xs j d).site
  pub distance : (d : Label V) → e.distance ≡ (get_or xs j d).distance
  pub mark : (d : Label V) → e.mark ≡ (get_or xs j d).mark
  pub own : j ≡ 0 → e.before ≡ first
  pub before : 0 < j → (i : ℕ) × (i < j) × ((d : Label V) → (get_or xs i d).site ≡ (get_or xs j d).before) × (e.before ≡ first + i)

-- The place tells the radius of v and its hub.
pub record Told {V : Type 0} (k : Algebra V) (g : Graph V) (hubs : List ℕ) (v : ℕ) (p : SitePlace V) : Type 0 where
  pub near : Option (ℕ × V)
  pub is : Radius k g hubs v near
  pub radius : p.radius ≡ radius_of near
  pub hub : p.hub ≡ hub_of near

-- The place tells the radius of v, its hub and its ball, which begins where those of all lower sites end.
pub record SiteStands {V : Type 0} (k : Algebra V) (g : Graph V) (hubs : List ℕ) (es : List (Entry V)) (v : ℕ) (p : SitePlace V) : Type 0 where
  pub told : Told k g hubs v p
  pub labels : List (Label V)
  pub ball : Found k g v p.radius labels
  pub starts : Balls k g hubs v p.first
  pub count : p.count ≡ length labels
  pub entries : (j : ℕ) (d : Entry V) → j < length labels → Entered p.first labels j (slice_index_or es (p.first + j) d)

-- ---- hub rows

-- what a row tells of the site v, where a search from the hub h without a limit finds xs: none with zeros where no walk leads to v
abbrev pub RowStands : {V : Type 0} → Graph V → ℕ → List (Label V) → ℕ → RowPlace V → Type 0
RowStands {V} g h xs v p =
    ((x : Label V) × Memᴰ x xs × (x.site ≡ v) × (p ≡ record { distance = Some x.distance; before = x.before; mark = x.mark }))
    ⊎ (Unjoined g h v × (p ≡ blank_row))

-- the part of the rows that begins at the place `first` is the row of the hub h
pub record HubStands {V : Type 0} (k : Algebra V) (g : Graph V) (rows : List (RowPlace V)) (first h : ℕ) : Type 0 where
  pub labels : List (Label V)
  pub found : Found k g h None labels
  pub row : (v : ℕ) (d : RowPlace V) → v < g.sites → RowStands g h labels v (slice_index_or rows (first + v) d)

-- ---- all tables

-- The tables of the graph g with these hubs: a place for each site, a row for each hub in the order of the hubs, and n entries.
-- Places that they do not fill are blank.
pub record TablesStand {V : Type 0} (k : Algebra V) (g : Graph V) (hubs : List ℕ) (places : List (SitePlace V)) (rows : List (RowPlace V)) (entries : List (Entry V)) (n : ℕ) : Type 0 where
  pub sites : (v : ℕ) (d : SitePlace V) → v < g.sites → SiteStands k g hubs entries v (slice_index_or places v d)
  pub hub_rows : (r d : ℕ) → r < length hubs → HubStands k g rows (r * g.sites) (slice_index_or hubs r d)
  pub all_balls : Balls k g hubs g.sites n
  pub room : n ≤ length entries
  pub free_rows : (i : ℕ) (d : RowPlace V) → length hubs * g.sites ≤ i → i < length rows → slice_index_or rows i d ≡ blank_row
  pub free_entries : (i : ℕ) (d : Entry V) → n ≤ i → i < length entries → slice_index_or entries i d ≡ blank_entry k

-- The ball of the site v is the first that does not fit into so many entry places.
pub record LacksRoom {V : Type 0} (k : Algebra V) (g : Graph V) (hubs : List ℕ) (entry_places : ℕ) (v : ℕ) : Type 0 where
  pub there : v < g.sites
  -- those of all lower sites fit
  pub before : ℕ
  pub lower : Balls k g hubs v before
  pub fits : before ≤ entry_places
  pub after : ℕ
  pub with_it : Balls k g hubs (suc v) after
  pub exceeds : entry_places < after
  -- and so all balls together exceed the entry places
  pub all_exceed : (n : ℕ) → Balls k g hubs g.sites n → entry_places < n
