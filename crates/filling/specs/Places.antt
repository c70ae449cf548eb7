-- Blank places, and the hubs of a hub list.
use Rattle.std.specs.Prelude.{ℕ, List, [], ◌∷◌, ◌++◌, drop, replicate, Some, None, Option}
use Rattle.weight.specs.Algebra.{Algebra}
use Rattle.filling.specs.declared.places.Entry.{Entry}
use Rattle.filling.specs.declared.places.RowPlace.{RowPlace}
use Rattle.filling.specs.declared.places.SitePlace.{SitePlace}

abbrev pub blank_site : {V : Type 0} → SitePlace V
blank_site = record { radius = None; hub = None; first = 0; count = 0 }

abbrev pub blank_row : {V : Type 0} → RowPlace V
blank_row = record { distance = None; before = 0; mark = 0 }

abbrev pub blank_entry : {V : Type 0} → Algebra V → Entry V
blank_entry k = record { site = 0; distance = k.zero; before = 0; mark = 0 }

-- the first n places blank, further places as they were
abbrev pub blanked : {X : Type 0} → ℕ → X → List X → List X
blanked n blank xs = replicate n blank ++ drop n xs

-- the hubs of a list of hub places
abbrev pub listed : List (Option ℕ) → List ℕ
listed [] = []
listed (None ∷ places) = []
listed (Some h ∷ places) = h ∷ listed places
