-- What holds of figures, for every graph that shows what every network shows, wherever its hubs are. Only the laws of a
-- kind are used, so sums may stop at a largest value, links may weigh nothing, and radii may be zero or unbounded.
use Rattle.std.specs.Prelude.{◌≡◌, ℕ, Bool, true, List, Some, None, Option, ◌≢◌}
use Rattle.weight.specs.Algebra.{Algebra, AtMost}
use Rattle.network.specs.Graph.{Graph, Sound}
use Rattle.network.specs.Walks.{Walk, total, Unjoined}
use Rattle.network.specs.declared.link.Link.{Link}
use Rattle.oracle.specs.Radius.{Radius, radius_of}
use Rattle.oracle.specs.Rule.{Meets, Totals, Figure}

-- two radii together; with an unbounded one, unbounded
abbrev pub together : {V : Type 0} → Algebra V → Option V → Option V → Option V
together k None other = None
together k (Some one) None = None
together k (Some one) (Some other) = Some (k.plus one other)

-- whether a total is below a limit; every total is below none
abbrev pub is_below : {V : Type 0} → Algebra V → V → Option V → Bool
is_below k x None = true
is_below k x (Some limit) = k.less x limit

-- a walk joins the two sites
abbrev pub Joined : {V : Type 0} → Graph V → ℕ → ℕ → Type 0
Joined {V} g s t = (ls : List (Link V)) × Walk g s ls t

-- Every walk that joins two different sites and whose total is below their radii together has a meeting total at most its own.
abbrev pub MeetsBelowRadii : {V : Type 0} → Algebra V → V → Option V → Option V → Type 0
MeetsBelowRadii {V} k x radius_s radius_t =
    (g : Graph V) → Sound g → (hubs : List ℕ) (s t : ℕ) (meeting hub : Option V) (two : Totals k g hubs s t meeting hub)
    → radius_of two.near_s ≡ radius_s → radius_of two.near_t ≡ radius_t
    → (ls : List (Link V)) → Walk g s ls t → total k ls ≡ x → (m : V) × Meets k g s t radius_s radius_t m × AtMost k m x

-- No walk that joins the sites totals less than the figure, where one of them has the total x, below their radii together.
abbrev pub ExactBelowRadii : {V : Type 0} → Algebra V → V → V → Option V → Option V → Type 0
ExactBelowRadii {V} k d x radius_s radius_t =
    (g : Graph V) → Sound g → (hubs : List ℕ) (s t manner : ℕ) → Figure k g hubs s t d manner
    → (near_s near_t : Option (ℕ × V)) → Radius k g hubs s near_s → Radius k g hubs t near_t → radius_of near_s ≡ radius_s → radius_of near_t ≡ radius_t
    → (ls : List (Link V)) → Walk g s ls t → total k ls ≡ x → (ls' : List (Link V)) → Walk g s ls' t → AtMost k d (total k ls')

-- d is no figure of two sites that a walk of the total x joins.
abbrev pub NoFigure : {V : Type 0} → Algebra V → V → V → Type 0
NoFigure {V} k d x =
    (g : Graph V) → Sound g → (hubs : List ℕ) (s t manner : ℕ) → Figure k g hubs s t d manner → (ls : List (Link V)) → Walk g s ls t → total k ls ≢ x

-- A figure is the total of a walk that joins its sites.
abbrev pub OfAWalk : {V : Type 0} → Algebra V → V → ℕ → Type 0
OfAWalk {V} k d manner =
    (g : Graph V) → Sound g → (hubs : List ℕ) (s t : ℕ) → Figure k g hubs s t d manner → (ls : List (Link V)) × Walk g s ls t × (total k ls ≡ d)

-- These two totals are those of sites that a walk joins.
abbrev pub OnlyJoined : {V : Type 0} → Algebra V → Option V → Option V → Type 0
OnlyJoined {V} k meeting hub = (g : Graph V) → Sound g → (hubs : List ℕ) (s t : ℕ) → Totals k g hubs s t meeting hub → Joined g s t

-- These two totals are those of sites that no walk joins.
abbrev pub OnlyUnjoined : {V : Type 0} → Algebra V → Option V → Option V → Type 0
OnlyUnjoined {V} k meeting hub = (g : Graph V) → Sound g → (hubs : List ℕ) (s t : ℕ) → Totals k g hubs s t meeting hub → Unjoined g s t

-- These are not both figures of the same two sites.
abbrev pub NotBoth : {V : Type 0} → Algebra V → V × ℕ → V × ℕ → Type 0
NotBoth {V} k one other =
    (g : Graph V) → Sound g → (hubs : List ℕ) (s t : ℕ) → Figure k g hubs s t one.0 one.1 → Figure k g hubs s t other.0 other.1 → ⊥
