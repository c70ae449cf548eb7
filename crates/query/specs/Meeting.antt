-- The least total over an entry of one ball, a link at its site, and an entry of another ball at the link's far site.
use Rattle.std.specs.Prelude.{◌≡◌, ◌≤◌, cond, ◌⊎◌, List, Some, None, Option}
use mathlib.Core.List.{Memᴰ}
use Rattle.weight.specs.Algebra.{Algebra, AtMost}
use Rattle.network.specs.Graph.{Graph, At}
use Rattle.network.specs.declared.link.Link.{Link}
use Rattle.filling.specs.declared.places.Entry.{Entry}

-- the lesser of a total so far and another one, which does not count where they are equal
abbrev pub least_of : {V : Type 0} → Algebra V → Option V → V → Option V
least_of k None x = Some x
least_of k (Some m) x = cond (k.less x m) (Some x) (Some m)

-- x is the total of a distance, the link and the distance of its far site in the ball
abbrev pub Crossing : {V : Type 0} → Algebra V → List (Entry V) → V → Link V → V → Type 0
Crossing {V} k ball distance l x = (e : Entry V) × Memᴰ e ball × (e.site ≡ l.far) × (x ≡ k.plus (k.plus distance l.weight) e.distance)

-- the link leads to no site of the ball, or the best total is at most one that leads over it
abbrev pub Bounded : {V : Type 0} → Algebra V → List (Entry V) → V → Link V → Option V → Type 0
Bounded {V} k ball distance l best =
    ((e : Entry V) → Memᴰ e ball → e.site ≡ l.far → 4096 ≤ l.far)
    ⊎ ((m : V) × (best ≡ Some m) × (x : V) × Crossing k ball distance l x × AtMost k m x)

-- the best total never gets worse
abbrev pub NoWorse : {V : Type 0} → Algebra V → Option V → Option V → Type 0
NoWorse {V} k best r = (m : V) → best ≡ Some m → (m' : V) × (r ≡ Some m') × AtMost k m' m

-- These links, from a site at this distance, were looked at: the best total counts them all, and is the one before or that of one of them.
pub record MetOver {V : Type 0} (k : Algebra V) (ball : List (Entry V)) (distance : V) (Links : Link V → Type 0) (best r : Option V) : Type 0 where
  pub no_worse : NoWorse k best r
  pub bounded : (l : Link V) → Links l → Bounded k ball distance l r
  pub comes : (x : V) → r ≡ Some x → (best ≡ Some x) ⊎ ((l : Link V) × Links l × Crossing k ball distance l x)

-- All entries of the one ball were looked at.
pub record Met {V : Type 0} (k : Algebra V) (g : Graph V) (ball other : List (Entry V)) (r : Option V) : Type 0 where
  pub bounded : (e : Entry V) (l : Link V) → Memᴰ e ball → At g e.site l → Bounded k other e.distance l r
  pub comes : (x : V) → r ≡ Some x → (e : Entry V) × (l : Link V) × Memᴰ e ball × At g e.site l × Crossing k other e.distance l x
