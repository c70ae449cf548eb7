-- A ball looked up by site.
use Rattle.std.specs.Prelude.{◌≡◌, ℕ, ◌-◌, ◌<◌, ◌≤◌, List, length, Some, None, Option, slice_index, slice_index_or}
use mathlib.Core.List.{Memᴰ}
use Rattle.filling.specs.declared.places.Entry.{Entry}

-- The table names, for each site that has an entry in the ball, the place of one and one more; for others it has zero.
pub record Tabled {V : Type 0} (ball : List (Entry V)) (table : List ℕ) : Type 0 where
  pub size : length table ≡ 4096
  pub inside : (s : ℕ) → 0 < slice_index table s → slice_index table s - 1 < length ball
  pub named : (s : ℕ) (d : Entry V) → 0 < slice_index table s → (slice_index_or ball (slice_index table s - 1) d).site ≡ s
  pub whole : (j : ℕ) (d : Entry V) → j < length ball → (slice_index_or ball j d).site < 4096 → 0 < slice_index table (slice_index_or ball j d).site

-- the distance of an entry of the site; none where there is no entry of a site below 4,096
abbrev pub FoundIn : {V : Type 0} → List (Entry V) → ℕ → Option V → Type 0
FoundIn {V} ball site None = (e : Entry V) → Memᴰ e ball → e.site ≡ site → 4096 ≤ site
FoundIn {V} ball site (Some x) = (e : Entry V) × Memᴰ e ball × (e.site ≡ site) × (e.distance ≡ x)
