-- What the filling of all tables does, for every input.
use Rattle.std.specs.Prelude.{◌≡◌, ℕ, ◌*◌, ◌≤◌, List, length, replicate, Ok, Err, Option, Result}
use Rattle.weight.specs.Algebra.{Algebra}
use Rattle.network.specs.Graph.{Graph}
use Rattle.shortest.specs.Places.{blank_place}
use Rattle.shortest.specs.declared.waiting.Waiting.{Waiting}
use Rattle.filling.specs.Places.{blank_site, blank_row, blank_entry, blanked, listed}
use Rattle.filling.specs.Standing.{TablesStand, LacksRoom}
use Rattle.filling.specs.declared.places.Entry.{Entry}
use Rattle.filling.specs.declared.places.RowPlace.{RowPlace}
use Rattle.filling.specs.declared.places.SitePlace.{SitePlace}
use Rattle.filling.specs.declared.tables.Unfilled.{Unfilled}
use Rattle.filling.specs.declared.tables.Unfilled.TheVariants.{NoRoom, Misfit}

-- all memory that a filling is lent; the hub list it only reads
pub record Memory (V : Type 0) : Type 0 where
  pub hub_list : List (Option ℕ)
  pub site_places : List (SitePlace V)
  pub rows : List (RowPlace V)
  pub entries : List (Entry V)
  pub waiting : List (Waiting V)

abbrev pub memory : {V : Type 0} → List (Option ℕ) → List (SitePlace V) → List (RowPlace V) → List (Entry V) → List (Waiting V) → Memory V
memory hs ss rs es ws = record { hub_list = hs; site_places = ss; rows = rs; entries = es; waiting = ws }

-- Places of these lengths are for so many sites: one for each, and a row of them for each hub place; nothing is over its largest.
pub record PlacesFit (sites hub_places site_places rows : ℕ) : Type 0 where
  pub few_sites : sites ≤ 4096
  pub few_hubs : hub_places ≤ 64
  pub one_each : site_places ≡ sites
  pub row_each : rows ≡ hub_places * sites

-- These lengths of hub list, site places, rows, entries and waiting places fit so many sites: a place for each, a row for each hub place,
-- no fewer waiting places than sites, and nothing is over its largest.
pub record SizesFit (sites hub_places site_places rows entries waiting : ℕ) : Type 0 where
  pub few_sites : sites ≤ 4096
  pub few_hubs : hub_places ≤ 64
  pub few_entries : entries ≤ 262144
  pub one_each : site_places ≡ sites
  pub row_each : rows ≡ hub_places * sites
  pub room : sites ≤ waiting

abbrev pub Fits : {V : Type 0} → ℕ → Memory V → Type 0
Fits sites m = SizesFit sites (length m.hub_list) (length m.site_places) (length m.rows) (length m.entries) (length m.waiting)

-- what the tables hold is blank
pub record Blank {V : Type 0} (k : Algebra V) (m m' : Memory V) : Type 0 where
  pub site_places : m'.site_places ≡ replicate (length m.site_places) blank_site
  pub rows : m'.rows ≡ replicate (length m.rows) blank_row
  pub entries : m'.entries ≡ replicate (length m.entries) (blank_entry k)

-- The tables stand with n entries, in memory of the same size.
pub record Full {V : Type 0} (k : Algebra V) (g : Graph V) (m : Memory V) (n : ℕ) (m' : Memory V) : Type 0 where
  pub site_places : length m'.site_places ≡ length m.site_places
  pub rows : length m'.rows ≡ length m.rows
  pub entries : length m'.entries ≡ length m.entries
  pub stand : TablesStand k g (listed m.hub_list) m'.site_places m'.rows m'.entries n

-- The result: the tables stand, or the first ball that does not fit is answered and they are blank. In both cases the
-- waiting places are blank, and further ones as they were. Memory that does not fit is left.
abbrev pub Filled : {V : Type 0} → Algebra V → Graph V → Memory V → Result ℕ Unfilled → Memory V → Type 0
Filled k g m (Ok n) m' = Fits g.sites m × Full k g m n m' × (m'.waiting ≡ blanked g.sites blank_place m.waiting)
Filled k g m (Err (NoRoom v)) m' =
    Fits g.sites m × LacksRoom k g (listed m.hub_list) (length m.entries) v × Blank k m m' × (m'.waiting ≡ blanked g.sites blank_place m.waiting)
Filled k g m (Err Misfit) m' = (Fits g.sites m → ⊥) × (m' ≡ m)
