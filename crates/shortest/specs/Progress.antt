-- How far a search has come: what holds of its settled and its waiting labels. Internal to the search.
use Rattle.std.specs.Prelude.{◌≡◌, ℕ, ◌<◌, ◌⊎◌, List, [], length, get_or, take, Option, slice_index_or}
use mathlib.Core.List.{Memᴰ}
use Rattle.weight.specs.Algebra.{Algebra, AtMost}
use Rattle.network.specs.Graph.{Graph, At}
use Rattle.network.specs.Walks.{Walk, total, Below}
use Rattle.network.specs.declared.link.Link.{Link}
use Rattle.shortest.specs.Finding.{source_label, GoesOn}
use Rattle.shortest.specs.declared.waiting.Label.{Label}

-- a walk from the source has the label's distance as its total, and this is below the limit
pub record Reached {V : Type 0} (k : Algebra V) (g : Graph V) (source : ℕ) (cut : Option V) (x : Label V) : Type 0 where
  pub walk : List (Link V)
  pub joins : Walk g source walk x.site
  pub totals : total k walk ≡ x.distance
  pub below : Below k x.distance cut

-- the site v has a label, settled or waiting, of at most d
pub record Covered {V : Type 0} (k : Algebra V) (xs : List (Label V)) (W : Label V → Type 0) (v : ℕ) (d : V) : Type 0 where
  pub label : Label V
  pub known : Memᴰ label xs ⊎ W label
  pub site : label.site ≡ v
  pub bound : AtMost k label.distance d

-- The labels xs are settled, those of W wait, and the links of todo have still to be looked at.
pub record Searching {V : Type 0} (k : Algebra V) (g : Graph V) (source : ℕ) (cut : Option V) (xs : List (Label V)) (W : Label V → Type 0) (todo : Label V → Link V → Type 0) : Type 0 where
  pub settled : (x : Label V) → Memᴰ x xs → Reached k g source cut x
  pub waiting : (x : Label V) → W x → Reached k g source cut x
  pub relaxed : (x : Label V) (l : Link V) → Memᴰ x xs → At g x.site l → Below k (k.plus x.distance l.weight) cut → Covered k xs W l.far (k.plus x.distance l.weight) ⊎ todo x l
  pub later : (x y : Label V) → Memᴰ x xs → W y → AtMost k x.distance y.distance
  pub rising : (i j : ℕ) (d : Label V) → i < j → j < length xs → AtMost k (get_or xs i d).distance (get_or xs j d).distance
  pub begun : Below k k.zero cut → Covered k xs W source k.zero
  pub first : (d : Label V) → 0 < length xs → slice_index_or xs 0 d ≡ source_label k source
  pub others : (j : ℕ) (d : Label V) → 0 < j → j < length xs → GoesOn k g (take j xs) (slice_index_or xs j d)
  pub coming : (x : Label V) → W x → GoesOn k g xs x ⊎ ((xs ≡ []) × (x ≡ source_label k source))

-- no link has still to be looked at
abbrev pub nothing : {V : Type 0} → Label V → Link V → Type 0
nothing x l = ⊥

-- the links at the label's site that are among these
abbrev pub links_of : {V : Type 0} → Label V → List (Link V) → Label V → Link V → Type 0
links_of x ls y l = (y ≡ x) × Memᴰ l ls

-- the label that a link leads to from the site of x
abbrev pub led : {V : Type 0} → Algebra V → Label V → Link V → Label V
led k x l = record { site = l.far; distance = k.plus x.distance l.weight; before = x.site; mark = l.mark }
