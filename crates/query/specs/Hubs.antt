-- The hub total, as the hub list and the rows tell it.
use Rattle.std.specs.Prelude.{◌≡◌, ℕ, ◌+◌, ◌*◌, ◌<◌, Bool, true, false, List, length, get_or, Some, None, Option, slice_index_or}
use mathlib.Core.List.{Memᴰ}
use Rattle.weight.specs.Algebra.{Algebra}
use Rattle.oracle.specs.Rule.{no_wider}
use Rattle.filling.specs.Places.{listed, blank_row}
use Rattle.filling.specs.declared.places.RowPlace.{RowPlace}
use Rattle.filling.specs.declared.places.SitePlace.{SitePlace}

-- a hub's place in the hub list; none where it is not one of the hubs
abbrev pub Placed : List (Option ℕ) → ℕ → Option ℕ → Type 0
Placed hub_list hub None = Memᴰ hub (listed hub_list) → ⊥
Placed hub_list hub (Some at) = (at < length hub_list) × (at < length (listed hub_list)) × ((d : ℕ) → slice_index_or (listed hub_list) at d ≡ hub)

-- The total through a hub: the radius and the distance in the hub's row; none where one of them is missing.
pub data ThroughTold {V : Type 0} (k : Algebra V) (hub_list : List (Option ℕ)) (rows : List (RowPlace V)) (sites : ℕ) (place : SitePlace V) (to : ℕ) (r : Option V) : Type 0 where
  no_radius : place.radius ≡ None → r ≡ None → ThroughTold k hub_list rows sites place to r
  no_hub : place.hub ≡ None → r ≡ None → ThroughTold k hub_list rows sites place to r
  unlisted : (hub : ℕ) → place.hub ≡ Some hub → Placed hub_list hub None → r ≡ None → ThroughTold k hub_list rows sites place to r
  unreached : (hub at : ℕ) → place.hub ≡ Some hub → Placed hub_list hub (Some at) → (get_or rows (at * sites + to) blank_row).distance ≡ None → r ≡ None → ThroughTold k hub_list rows sites place to r
  reached : (radius : V) (hub at : ℕ) (rest : V) → place.radius ≡ Some radius → place.hub ≡ Some hub → Placed hub_list hub (Some at) → (get_or rows (at * sites + to) blank_row).distance ≡ Some rest
      → r ≡ Some (k.plus radius rest) → ThroughTold k hub_list rows sites place to r

abbrev pub HubToldBy : {V : Type 0} → Bool → Algebra V → List (Option ℕ) → List (RowPlace V) → ℕ → SitePlace V → SitePlace V → ℕ → ℕ → Option V → Type 0
HubToldBy true k hub_list rows sites here there s t r = ThroughTold k hub_list rows sites here t r
HubToldBy false k hub_list rows sites here there s t r = ThroughTold k hub_list rows sites there s r

-- by the end with the smaller radius, by the first where they are equal
abbrev pub HubTold : {V : Type 0} → Algebra V → List (Option ℕ) → List (RowPlace V) → ℕ → SitePlace V → SitePlace V → ℕ → ℕ → Option V → Type 0
HubTold k hub_list rows sites here there s t r = HubToldBy (no_wider k here.radius there.radius) k hub_list rows sites here there s t r
