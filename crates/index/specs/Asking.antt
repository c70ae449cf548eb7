-- The call `figure`, as one relation between network, book and answer.
use Rattle.std.specs.Prelude.{◌≡◌, ℕ, ◌<◌, ◌≤◌, Bool, true, false, cond, Some, None, Ok, Err, Option, Result, ◌≢◌, nat_le}
use Rattle.weight.specs.Algebra.{Algebra}
use Rattle.network.specs.Graph.{Graph}
use Rattle.network.specs.Walks as walks
use Rattle.oracle.specs.Rule.{Figure}
use Rattle.query.specs.Figures.{Right}
use Rattle.index.specs.Books.{BookState, hubs_of}
use Rattle.index.specs.Building.{Standing}
use Rattle.index.specs.declared.fault.IndexFault.{IndexFault}
use Rattle.index.specs.declared.fault.IndexFault.TheVariants.{NoSuchSite, SitesDiffer, NotBuilt, Unjoined}

-- the fault of a site that does not exist
abbrev pub no_site : ℕ → ℕ → Option IndexFault
no_site sites site = cond (nat_le sites site) (Some (NoSuchSite site)) None

-- the fault of a book in which no build stands
abbrev pub not_built : Bool → Option IndexFault
not_built built = cond built None (Some NotBuilt)

-- What the book tells of two sites is right, where a build of the graph stands in it.
abbrev pub Told : {V : Type 0} → Algebra V → Graph V → BookState V → ℕ → ℕ → Option (V × ℕ) → Type 0
Told k g b s t r = b.sites ≡ g.sites → s < g.sites → t < g.sites → (n : ℕ) → Standing k g n b → Right k g (hubs_of b) s t r

-- both sites exist in the book and in the network, and a build stands
pub record AskedWell {V : Type 0} (g : Graph V) (b : BookState V) (s t : ℕ) : Type 0 where
  pub agreed : b.sites ≡ g.sites
  pub first : s < g.sites
  pub second : t < g.sites
  pub built : b.built ≡ true

-- What a figure answers, for every input. The cases are in the order of the checks.
pub data Asked {V : Type 0} (k : Algebra V) (g : Graph V) (b : BookState V) (s t : ℕ) (r : Result (V × ℕ) IndexFault) : Type 0 where
  -- The book and the network differ in sites.
  differing : (b.sites ≢ g.sites) → r ≡ Err (SitesDiffer g.sites) → Asked k g b s t r
  -- The first site does not exist, or the second.
  no_first : b.sites ≡ g.sites → g.sites ≤ s → r ≡ Err (NoSuchSite s) → Asked k g b s t r
  no_second : b.sites ≡ g.sites → s < g.sites → g.sites ≤ t → r ≡ Err (NoSuchSite t) → Asked k g b s t r
  -- No build stands.
  no_build : b.sites ≡ g.sites → s < g.sites → t < g.sites → b.built ≡ false → r ≡ Err NotBuilt → Asked k g b s t r
  -- No walk joins the two, where the build that stands is one of this network.
  unjoined : AskedWell g b s t → r ≡ Err Unjoined → ((n : ℕ) → Standing k g n b → walks.Unjoined g s t) → Asked k g b s t r
  -- Else it is granted, and the answer is the figure with its manner by the rule, for the hubs named now.
  granted : (d : V) (manner : ℕ) → AskedWell g b s t → r ≡ Ok (d, manner) → ((n : ℕ) → Standing k g n b → Figure k g (hubs_of b) s t d manner) → Asked k g b s t r
