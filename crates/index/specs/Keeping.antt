-- What every book keeps, whatever network is handed beside it: this is what makes its calls safe.
use Rattle.std.specs.Prelude.{◌≡◌, ℕ, ◌*◌, ◌≤◌, true, List, Option, length, take}
use Rattle.filling.specs.Places.{listed}
use Rattle.index.specs.Hubs.{ordered}

-- the sizes are within their largest: sites, hub places, entry places
abbrev pub Within : ℕ → ℕ → ℕ → Type 0
Within sites hub_places entry_places = (sites ≤ 4096) × (hub_places ≤ 64) × (entry_places ≤ 262144)

-- the memory holds them: sites, site places, hub places, hub list, hub rows, entry places, entries
abbrev pub Held : ℕ → ℕ → ℕ → ℕ → ℕ → ℕ → ℕ → Type 0
Held sites site_memory hub_places hub_memory row_memory entry_places entry_memory =
    (sites ≤ site_memory) × (hub_places ≤ hub_memory) × (hub_places * sites ≤ row_memory) × (entry_places ≤ entry_memory)

-- the count of hubs is that of the hub list: hub places, hub list, count
abbrev pub Counted : ℕ → List (Option ℕ) → ℕ → Type 0
Counted hub_places hub_list count = count ≡ length (listed (take hub_places hub_list))

-- the hub list ascends, names sites only, then blanks
abbrev pub Ordered : ℕ → ℕ → List (Option ℕ) → Type 0
Ordered sites hub_places hub_list = ordered 0 sites (take hub_places hub_list) ≡ true
