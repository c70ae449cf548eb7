-- What a shortest-distance search finds.
use Rattle.std.specs.Prelude.{◌≡◌, ℕ, ◌<◌, List, length, get_or, take, Option, ◌≢◌, slice_index_or}
use mathlib.Core.List.{Memᴰ}
use Rattle.weight.specs.Algebra.{Algebra, AtMost}
use Rattle.network.specs.Graph.{Graph, At}
use Rattle.network.specs.Walks.{Walk, total, Distance, Below}
use Rattle.network.specs.declared.link.Link.{Link}
use Rattle.shortest.specs.declared.waiting.Label.{Label}

-- the label of the source itself
abbrev pub source_label : {V : Type 0} → Algebra V → ℕ → Label V
source_label k source = record { site = source; distance = k.zero; before = source; mark = 0 }

-- The label x goes on from one of the labels xs: a link with its mark stands between the two sites, and its
-- distance is that of the site before and the link's weight, added.
pub record GoesOn {V : Type 0} (k : Algebra V) (g : Graph V) (xs : List (Label V)) (x : Label V) : Type 0 where
  pub from : Label V
  pub among : Memᴰ from xs
  pub is_before : from.site ≡ x.before
  pub link : Link V
  pub there : At g x.before link
  pub mark : link.mark ≡ x.mark
  pub far : link.far ≡ x.site
  pub sum : x.distance ≡ k.plus from.distance link.weight

-- The labels are those of the sites that some walk from the source reaches with a total below the limit, in the
-- order in which they were settled.
pub record Found {V : Type 0} (k : Algebra V) (g : Graph V) (source : ℕ) (cut : Option V) (xs : List (Label V)) : Type 0 where
  -- each has its distance, which is below the limit, and each such site is among them once
  pub distances : (x : Label V) → Memᴰ x xs → Distance k g source x.site x.distance × Below k x.distance cut
  pub whole : (v : ℕ) (ls : List (Link V)) → Walk g source ls v → Below k (total k ls) cut → (x : Label V) × Memᴰ x xs × (x.site ≡ v)
  pub once : (i j : ℕ) (d : Label V) → i < j → j < length xs → (get_or xs i d).site ≢ (get_or xs j d).site
  -- distances never fall
  pub rising : (i j : ℕ) (d : Label V) → i < j → j < length xs → AtMost k (get_or xs i d).distance (get_or xs j d).distance
  -- the first is the source, and each other goes on from an earlier one
  pub first : (d : Label V) → 0 < length xs → slice_index_or xs 0 d ≡ source_label k source
  pub others : (j : ℕ) (d : Label V) → 0 < j → j < length xs → GoesOn k g (take j xs) (slice_index_or xs j d)
