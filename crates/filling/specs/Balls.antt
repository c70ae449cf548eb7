-- What the functions do that fill balls.
use Rattle.std.specs.Prelude.{◌≡◌, ℕ, ◌+◌, ◌<◌, ◌≤◌, List, length, Some, None, Ok, Err, Option, Result, slice_index_or}
use Rattle.weight.specs.Algebra.{Algebra}
use Rattle.network.specs.Graph.{Graph}
use Rattle.shortest.specs.Finding.{Found}
use Rattle.shortest.specs.Searches.{label_in_order, order_of}
use Rattle.shortest.specs.declared.waiting.Label.{Label}
use Rattle.shortest.specs.declared.waiting.Waiting.{Waiting}
use Rattle.filling.specs.Rows.{Spared}
use Rattle.filling.specs.Standing.{Balls, Entered, Told, SiteStands, LacksRoom}
use Rattle.filling.specs.declared.places.Entry.{Entry}
use Rattle.filling.specs.declared.places.SitePlace.{SitePlace}
use Rattle.filling.specs.declared.tables.Unfilled.{Unfilled}
use Rattle.filling.specs.declared.tables.Unfilled.TheVariants.{NoRoom, Misfit}

-- ---- one ball

-- an order, the first where there is none
abbrev pub order_or_first : Option ℕ → ℕ
order_or_first None = 0
order_or_first (Some i) = i

-- the entry of a label, in a ball whose part begins at the place `first`
abbrev pub entry_of : {V : Type 0} → ℕ → List (Waiting V) → ℕ → Label V → Entry V
entry_of first ws sites x = record { site = x.site; distance = x.distance; before = first + order_or_first (order_of ws sites x.before); mark = x.mark }

-- the same where there is a label; else what was there
abbrev pub entry_or : {V : Type 0} → ℕ → List (Waiting V) → ℕ → Option (Label V) → Entry V → Entry V
entry_or first ws sites None e = e
entry_or first ws sites (Some x) e = entry_of first ws sites x

-- a part of the entries took the settled labels, in their order
pub record Written {V : Type 0} (first : ℕ) (ws : List (Waiting V)) (sites : ℕ) (part part' : List (Entry V)) : Type 0 where
  pub size : length part' ≡ length part
  pub each : (j : ℕ) (d : Entry V) → j < length part → slice_index_or part' j d ≡ entry_or first ws sites (label_in_order ws sites j) (slice_index_or part j d)

-- The ball of v was laid from the place `first` on and has n entries; other entries are as they were.
pub record Laid {V : Type 0} (k : Algebra V) (g : Graph V) (v : ℕ) (radius : Option V) (first n : ℕ) (entries entries' : List (Entry V)) : Type 0 where
  pub labels : List (Label V)
  pub found : Found k g v radius labels
  pub count : n ≡ length labels
  pub room : first + n ≤ length entries
  pub entered : (j : ℕ) (d : Entry V) → j < n → Entered first labels j (slice_index_or entries' (first + j) d)
  pub earlier : (i : ℕ) (d : Entry V) → i < first → slice_index_or entries' i d ≡ slice_index_or entries i d
  pub later : (i : ℕ) (d : Entry V) → first + n ≤ i → slice_index_or entries' i d ≡ slice_index_or entries i d

-- or it does not fit
abbrev pub LaidOrNot : {V : Type 0} → Algebra V → Graph V → ℕ → Option V → ℕ → Option ℕ → List (Entry V) → List (Entry V) → Type 0
LaidOrNot k g v radius first (Some n) entries entries' = Laid k g v radius first n entries entries'
LaidOrNot {V} k g v radius first None entries entries' = (xs : List (Label V)) × (Found k g v radius xs × (length entries < first + length xs))

pub record BallFilled {V : Type 0} (k : Algebra V) (g : Graph V) (v : ℕ) (radius : Option V) (first : ℕ) (r : Option ℕ) (entries entries' : List (Entry V)) (ws ws' : List (Waiting V)) : Type 0 where
  pub size : length entries' ≡ length entries
  pub spared : Spared g.sites ws ws'
  pub laid : LaidOrNot k g v radius first r entries entries'

-- ---- all balls

-- All balls are laid, with n entries in all, and later entries are as they were; or the first that does not fit.
pub record AllLaid {V : Type 0} (k : Algebra V) (g : Graph V) (hubs : List ℕ) (n : ℕ) (places' : List (SitePlace V)) (entries entries' : List (Entry V)) : Type 0 where
  pub stand : (v : ℕ) (d : SitePlace V) → v < g.sites → SiteStands k g hubs entries' v (slice_index_or places' v d)
  pub all_balls : Balls k g hubs g.sites n
  pub room : n ≤ length entries
  pub later : (i : ℕ) (d : Entry V) → n ≤ i → slice_index_or entries' i d ≡ slice_index_or entries i d

abbrev pub Outcome : {V : Type 0} → Algebra V → Graph V → List ℕ → Result ℕ Unfilled → List (SitePlace V) → List (Entry V) → List (Entry V) → Type 0
Outcome k g hubs (Ok n) places' entries entries' = AllLaid k g hubs n places' entries entries'
Outcome k g hubs (Err (NoRoom v)) places' entries entries' = LacksRoom k g hubs (length entries) v
Outcome k g hubs (Err Misfit) places' entries entries' = ⊥

pub record BallsFilled {V : Type 0} (k : Algebra V) (g : Graph V) (places : List (SitePlace V)) (r : Result ℕ Unfilled) (places' : List (SitePlace V)) (entries entries' : List (Entry V)) (ws ws' : List (Waiting V)) : Type 0 where
  pub place_size : length places' ≡ length places
  pub entry_size : length entries' ≡ length entries
  pub spared : Spared g.sites ws ws'
  pub laid : (hubs : List ℕ) → ((v : ℕ) (d : SitePlace V) → v < g.sites → Told k g hubs v (slice_index_or places v d)) → Outcome k g hubs r places' entries entries'
