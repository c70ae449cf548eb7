-- The call `build`, as one relation between what was before, the answer, and what is afterwards.
use Rattle.std.specs.Prelude.{◌≡◌, ℕ, ◌*◌, ◌<◌, ◌≤◌, true, List, length, take, Ok, Err, Result, ◌≢◌}
use Rattle.weight.specs.Algebra.{Algebra}
use Rattle.network.specs.Graph.{Graph}
use Rattle.shortest.specs.Places.{blank_place}
use Rattle.shortest.specs.declared.waiting.Waiting.{Waiting}
use Rattle.filling.specs.Places.{blanked}
use Rattle.filling.specs.Rows.{Spared}
use Rattle.filling.specs.Standing.{TablesStand, LacksRoom}
use Rattle.filling.specs.Tables.{Memory, memory}
use Rattle.index.specs.Books.{BookState, hubs_of, emptied}
use Rattle.index.specs.declared.fault.IndexFault.{IndexFault}
use Rattle.index.specs.declared.fault.IndexFault.TheVariants.{TooShort, SitesDiffer, NoRoom}

-- A build of the graph g stands in the book and has n entries: its tables are those of g with the hubs named now.
pub record Standing {V : Type 0} (k : Algebra V) (g : Graph V) (n : ℕ) (b : BookState V) : Type 0 where
  pub built : b.built ≡ true
  pub tables : TablesStand k g (hubs_of b) (take b.sites b.site_places) (take (b.hub_places * b.sites) b.rows) (take b.entry_places b.entries) n

-- All that is no part of the tables is as it was: the sizes, the hub list, and the memory past the sizes.
pub record RestKept {V : Type 0} (b b' : BookState V) : Type 0 where
  pub sites : b'.sites ≡ b.sites
  pub hub_places : b'.hub_places ≡ b.hub_places
  pub entry_places : b'.entry_places ≡ b.entry_places
  pub hub_list : b'.hub_list ≡ b.hub_list
  pub site_places : Spared b.sites b.site_places b'.site_places
  pub rows : Spared (b.hub_places * b.sites) b.rows b'.rows
  pub entries : Spared b.entry_places b.entries b'.entries

-- the part of the memory that is the book's tables, with the waiting places
abbrev pub tables_of : {V : Type 0} → BookState V → List (Waiting V) → Memory V
tables_of b ws = memory (take b.hub_places b.hub_list) (take b.sites b.site_places) (take (b.hub_places * b.sites) b.rows) (take b.entry_places b.entries) ws

-- Both checks before the filling pass, and the waiting places, one for each site, are blank afterwards.
pub record Tried {V : Type 0} (g : Graph V) (ws : List (Waiting V)) (b : BookState V) (ws' : List (Waiting V)) : Type 0 where
  pub agreed : b.sites ≡ g.sites
  pub room : g.sites ≤ length ws
  pub waiting : ws' ≡ blanked g.sites blank_place ws

-- What a build of g does to the waiting places ws and the book b, for every input. The cases are in the order of the checks.
pub data Built {V : Type 0} (k : Algebra V) (g : Graph V) (ws : List (Waiting V)) (b : BookState V) (r : Result ℕ IndexFault) (ws' : List (Waiting V)) (b' : BookState V) : Type 0 where
  -- The book and the network differ in sites: this is refused, and all memory is left.
  differing : (b.sites ≢ g.sites) → r ≡ Err (SitesDiffer g.sites) → ws' ≡ ws → b' ≡ b → Built k g ws b r ws' b'
  -- There are fewer waiting places than sites: likewise.
  waiting_short : b.sites ≡ g.sites → length ws < g.sites → r ≡ Err (TooShort (length ws)) → ws' ≡ ws → b' ≡ b → Built k g ws b r ws' b'
  -- The balls exceed the entry places: the first site whose ball does not fit is told, and the book is blank but for the hub list.
  exceeding : (v : ℕ) → Tried g ws b ws' → LacksRoom k g (hubs_of b) b.entry_places v → r ≡ Err (NoRoom v) → b' ≡ emptied k b → Built k g ws b r ws' b'
  -- Else it is granted: the build stands, whatever the book held before, and its entries are counted.
  granted : (n : ℕ) → Tried g ws b ws' → Standing k g n b' → RestKept b b' → r ≡ Ok n → Built k g ws b r ws' b'
