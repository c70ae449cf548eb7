-- The hub of a site, its radius, and its ball.
use Rattle.std.specs.Prelude.{ℕ, ◌≤◌, List, Some, None, Option}
use mathlib.Core.List.{Memᴰ}
use Rattle.weight.specs.Algebra.{Algebra, AtMost}
use Rattle.network.specs.Graph.{Graph}
use Rattle.network.specs.Walks.{Walk, total, Distance, Unjoined, Below}
use Rattle.network.specs.declared.link.Link.{Link}

-- h is the hub of v, at the distance r: no hub is nearer, and of those at r it has the lowest number
pub record Nearest {V : Type 0} (k : Algebra V) (g : Graph V) (hubs : List ℕ) (v h : ℕ) (r : V) : Type 0 where
  pub is_hub : Memᴰ h hubs
  pub at : Distance k g v h r
  pub no_nearer : (h' : ℕ) (ls : List (Link V)) → Memᴰ h' hubs → Walk g v ls h' → AtMost k r (total k ls)
  pub lowest : (h' : ℕ) → Memᴰ h' hubs → Distance k g v h' r → h ≤ h'

-- the hub of v and its distance, or none where no walk leads to a hub
abbrev pub Radius : {V : Type 0} → Algebra V → Graph V → List ℕ → ℕ → Option (ℕ × V) → Type 0
Radius k g hubs v None = (h : ℕ) → Memᴰ h hubs → Unjoined g v h
Radius k g hubs v (Some near) = Nearest k g hubs v near.0 near.1

-- the radius alone; none is unbounded, above every total
abbrev pub radius_of : {V : Type 0} → Option (ℕ × V) → Option V
radius_of None = None
radius_of (Some near) = Some near.1

abbrev pub hub_of : {V : Type 0} → Option (ℕ × V) → Option ℕ
hub_of None = None
hub_of (Some near) = Some near.0

-- the site w is in the ball of v, at the distance d: d is below the radius of v
pub record InBall {V : Type 0} (k : Algebra V) (g : Graph V) (v : ℕ) (radius : Option V) (w : ℕ) (d : V) : Type 0 where
  pub distance : Distance k g v w d
  pub inside : Below k d radius
