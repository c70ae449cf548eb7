-- The figure that the tables of a build tell.
use Rattle.std.specs.Prelude.{◌≡◌, ℕ, ◌+◌, ◌*◌, ◌<◌, ◌≤◌, List, length, take, drop, Some, None, Option}
use Rattle.weight.specs.Algebra.{Algebra}
use Rattle.network.specs.Graph.{Graph}
use Rattle.network.specs.Walks.{Unjoined}
use Rattle.oracle.specs.Rule.{Figure}
use Rattle.filling.specs.Places.{listed}
use Rattle.filling.specs.Standing.{TablesStand}
use Rattle.filling.specs.declared.places.Entry.{Entry}
use Rattle.filling.specs.declared.places.RowPlace.{RowPlace}
use Rattle.filling.specs.declared.places.SitePlace.{SitePlace}
use Rattle.query.specs.Meeting.{Met}

-- the part of the entries that a site's place tells
abbrev pub part : {V : Type 0} → List (Entry V) → SitePlace V → List (Entry V)
part es p = take p.count (drop p.first es)

-- the meeting of two balls, where they are parts of the entries and the second has no more than 4,096
abbrev pub MetParts : {V : Type 0} → Algebra V → Graph V → List (Entry V) → SitePlace V → SitePlace V → Option V → Type 0
MetParts k g es here there r = here.first + here.count ≤ length es → there.first + there.count ≤ length es → there.count ≤ 4096 → Met k g (part es here) (part es there) r

-- the memory fits so many sites, and the two sites exist
pub record AskedRight (sites hub_places site_places rows s t : ℕ) : Type 0 where
  pub few_sites : sites ≤ 4096
  pub few_hubs : hub_places ≤ 64
  pub one_each : site_places ≡ sites
  pub row_each : rows ≡ hub_places * sites
  pub first : s < sites
  pub second : t < sites

-- the figure with its manner, or none and no walk joins the two
abbrev pub Right : {V : Type 0} → Algebra V → Graph V → List ℕ → ℕ → ℕ → Option (V × ℕ) → Type 0
Right k g hubs s t None = Unjoined g s t
Right k g hubs s t (Some f) = Figure k g hubs s t f.0 f.1

-- Where tables of the graph stand in the memory, the answer is right.
abbrev pub Answered : {V : Type 0} → Algebra V → Graph V → List (Option ℕ) → List (SitePlace V) → List (RowPlace V) → List (Entry V) → ℕ → ℕ → Option (V × ℕ) → Type 0
Answered k g hub_list places rows es s t r =
    AskedRight g.sites (length hub_list) (length places) (length rows) s t → (n : ℕ) → TablesStand k g (listed hub_list) places rows es n → Right k g (listed hub_list) s t r
