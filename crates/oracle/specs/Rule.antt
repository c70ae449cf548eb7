-- The figure of two sites: the rule by which it is found from radii, balls and hubs.
use Rattle.std.specs.Prelude.{◌≡◌, ℕ, ◌<◌, Bool, true, false, cond, not, ◌⊎◌, List, Some, None, Option}
use mathlib.Core.List.{Memᴰ}
use Rattle.weight.specs.Algebra.{Algebra, AtMost}
use Rattle.network.specs.Graph.{Graph, At}
use Rattle.network.specs.Walks.{Walk, total, Distance, Unjoined, Below}
use Rattle.network.specs.declared.link.Link.{Link}
use Rattle.oracle.specs.Radius.{Radius, radius_of, InBall}

-- The sites ws, each with its distance from v, are the ball of v under this radius.
pub record Ball {V : Type 0} (k : Algebra V) (g : Graph V) (v : ℕ) (radius : Option V) (ws : List (ℕ × V)) : Type 0 where
  pub inside : (w : ℕ) (d : V) → Memᴰ (w, d) ws → InBall k g v radius w d
  pub whole : (w : ℕ) (ls : List (Link V)) → Walk g v ls w → Below k (total k ls) radius → (d : V) × Memᴰ (w, d) ws

-- ---- meeting total

-- x is the total of a meeting: to a site in the ball of s, over a link there, and from its far site, which is in the ball of t
pub record Meets {V : Type 0} (k : Algebra V) (g : Graph V) (s t : ℕ) (radius_s radius_t : Option V) (x : V) : Type 0 where
  pub near : ℕ
  pub link : Link V
  pub there : At g near link
  pub from_s : V
  pub from_t : V
  pub in_s : InBall k g s radius_s near from_s
  pub in_t : InBall k g t radius_t link.far from_t
  pub sum : x ≡ k.plus (k.plus from_s link.weight) from_t

-- the least of them; none where nothing meets
abbrev pub Meeting : {V : Type 0} → Algebra V → Graph V → ℕ → ℕ → Option V → Option V → Option V → Type 0
Meeting {V} k g s t radius_s radius_t None = (x : V) → Meets k g s t radius_s radius_t x → ⊥
Meeting {V} k g s t radius_s radius_t (Some m) = Meets k g s t radius_s radius_t m × ((x : V) → Meets k g s t radius_s radius_t x → AtMost k m x)

-- ---- hub total

-- through a site's hub: the radius, and the distance from the hub to v; none where there is no hub, or no walk from it to v
abbrev pub Through : {V : Type 0} → Algebra V → Graph V → Option (ℕ × V) → ℕ → Option V → Type 0
Through k g None v o = o ≡ None
Through k g (Some near) v None = Unjoined g near.0 v
Through {V} k g (Some near) v (Some x) = (d : V) × Distance k g near.0 v d × (x ≡ k.plus near.1 d)

-- whether the one radius is at most the other; an unbounded one is above every other
abbrev pub no_wider : {V : Type 0} → Algebra V → Option V → Option V → Bool
no_wider k one None = true
no_wider k None (Some other) = false
no_wider k (Some one) (Some other) = not (k.less other one)

-- by the hub of s where the radius of s is at most that of t, by the hub of t otherwise
abbrev pub HubTotalBy : {V : Type 0} → Bool → Algebra V → Graph V → ℕ → ℕ → Option (ℕ × V) → Option (ℕ × V) → Option V → Type 0
HubTotalBy true k g s t near_s near_t o = Through k g near_s t o
HubTotalBy false k g s t near_s near_t o = Through k g near_t s o

abbrev pub HubTotal : {V : Type 0} → Algebra V → Graph V → ℕ → ℕ → Option (ℕ × V) → Option (ℕ × V) → Option V → Type 0
HubTotal k g s t near_s near_t o = HubTotalBy (no_wider k (radius_of near_s) (radius_of near_t)) k g s t near_s near_t o

-- ---- figure

-- the lesser of a meeting total and a hub total, with its manner: 1 for a meeting, which wins ties, 2 for a hub; a total that does not exist is left out
abbrev pub lesser : {V : Type 0} → Algebra V → Option V → Option V → Option (V × ℕ)
lesser k None None = None
lesser k None (Some h) = Some (h, 2)
lesser k (Some m) None = Some (m, 1)
lesser k (Some m) (Some h) = cond (k.less h m) (Some (h, 2)) (Some (m, 1))

-- the meeting total and the hub total of two different sites, where these are the hubs
pub record Totals {V : Type 0} (k : Algebra V) (g : Graph V) (hubs : List ℕ) (s t : ℕ) (meeting hub : Option V) : Type 0 where
  pub apart : s ≡ t → ⊥
  pub near_s : Option (ℕ × V)
  pub near_t : Option (ℕ × V)
  pub radius_s : Radius k g hubs s near_s
  pub radius_t : Radius k g hubs t near_t
  pub ball_s : List (ℕ × V)
  pub ball_t : List (ℕ × V)
  pub is_ball_s : Ball k g s (radius_of near_s) ball_s
  pub is_ball_t : Ball k g t (radius_of near_t) ball_t
  pub is_meeting : Meeting k g s t (radius_of near_s) (radius_of near_t) meeting
  pub is_hub : HubTotal k g s t near_s near_t hub

-- d is the figure of s and t, in this manner: zero in manner 0 for a site and itself, else the lesser of the two totals
abbrev pub Figure : {V : Type 0} → Algebra V → Graph V → List ℕ → ℕ → ℕ → V → ℕ → Type 0
Figure {V} k g hubs s t d manner =
    ((s ≡ t) × (s < g.sites) × (d ≡ k.zero) × (manner ≡ 0))
    ⊎ ((meeting : Option V) × (hub : Option V) × Totals k g hubs s t meeting hub × (lesser k meeting hub ≡ Some (d, manner)))
