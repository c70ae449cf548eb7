-- A network as the index sees it: a number of sites, and for each site a list of links.
use Rattle.std.specs.Prelude.{◌≡◌, ℕ, ◌<◌, ◌≤◌, ◌⊎◌, List, []}
use mathlib.Core.List.{Memᴰ}
use Rattle.network.specs.Links.{Apart}
use Rattle.network.specs.declared.link.Link.{Link}

pub record Graph (V : Type 0) : Type 0 where
  pub sites : ℕ
  pub links : ℕ → List (Link V)

-- l is one of the links at the site u
abbrev pub At : {V : Type 0} → Graph V → ℕ → Link V → Type 0
At g u l = Memᴰ l (g.links u)

-- the link l at the site u, as it stands at its far end
abbrev pub back : {V : Type 0} → ℕ → Link V → Link V
back u l = record { mark = l.mark; far = u; weight = l.weight }

-- What every network shows.
pub record Sound {V : Type 0} (g : Graph V) : Type 0 where
  -- far sites exist, and a site that does not exist has no links
  pub far_exists : (u : ℕ) (l : Link V) → At g u l → l.far < g.sites
  pub nowhere_else : (u : ℕ) → g.sites ≤ u → g.links u ≡ []
  -- a link stands at both its ends with one mark and one weight
  pub both_ends : (u : ℕ) (l : Link V) → At g u l → At g l.far (back u l)
  -- a mark is below 65,536 and belongs to one link, whichever of its ends it is met at
  pub low_marks : (u : ℕ) (l : Link V) → At g u l → l.mark < 65536
  pub one_link : (u v : ℕ) (l m : Link V) → At g u l → At g v m → l.mark ≡ m.mark → ((v ≡ u) × (m ≡ l)) ⊎ ((v ≡ l.far) × (m ≡ back u l))
  -- a link is told once at a site, also one from a site to itself
  pub once : (u : ℕ) → Apart (g.links u)
