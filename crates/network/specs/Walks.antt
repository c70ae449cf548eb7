-- Walks over links, their totals, and distances.
use Rattle.std.specs.Prelude.{◌≡◌, ℕ, ◌<◌, true, List, [], ◌∷◌, Some, None, Option}
use Rattle.weight.specs.Algebra.{Algebra, AtMost}
use Rattle.network.specs.Graph.{Graph, At}
use Rattle.network.specs.declared.link.Link.{Link}

-- The links lead from the site u to the site v, each from where the one before ended.
-- The empty list leads from a site to itself, and from nowhere to nowhere.
abbrev pub Walk : {V : Type 0} → Graph V → ℕ → List (Link V) → ℕ → Type 0
Walk g u [] v = (u ≡ v) × (u < g.sites)
Walk g u (l ∷ ls) v = At g u l × Walk g l.far ls v

-- the weights of the links, added
abbrev pub total : {V : Type 0} → Algebra V → List (Link V) → V
total k [] = k.zero
total k (l ∷ ls) = k.plus l.weight (total k ls)

-- d is the least total of all walks from u to v
pub record Distance {V : Type 0} (k : Algebra V) (g : Graph V) (u v : ℕ) (d : V) : Type 0 where
  pub walk : List (Link V)
  pub joins : Walk g u walk v
  pub totals : total k walk ≡ d
  pub least : (ls : List (Link V)) → Walk g u ls v → AtMost k d (total k ls)

-- no walk leads from u to v
abbrev pub Unjoined : {V : Type 0} → Graph V → ℕ → ℕ → Type 0
Unjoined {V} g u v = (ls : List (Link V)) → Walk g u ls v → ⊥

-- d is below a limit; every value is below no limit
abbrev pub Below : {V : Type 0} → Algebra V → V → Option V → Type 0
Below k d None = Unit {0}
Below k d (Some r) = k.less d r ≡ true
