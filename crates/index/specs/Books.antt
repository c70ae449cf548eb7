-- The book: its sizes, and all the memory that it was lent, places past its sizes too.
use Rattle.std.specs.Prelude.{◌≡◌, ℕ, ◌*◌, Bool, false, cond, List, ◌++◌, length, take, drop, Some, None, Option, Result}
use Rattle.network.specs.Sizes.{over, short, or_then, checked}
use Rattle.weight.specs.Algebra.{Algebra}
use Rattle.filling.specs.Places.{blank_site, blank_row, blank_entry, blanked, listed}
use Rattle.filling.specs.declared.places.Entry.{Entry}
use Rattle.filling.specs.declared.places.RowPlace.{RowPlace}
use Rattle.filling.specs.declared.places.SitePlace.{SitePlace}
use Rattle.index.specs.Hubs.{listing}
use Rattle.index.specs.declared.book.Book.{Book}
use Rattle.index.specs.declared.fault.IndexFault.{IndexFault}
use Rattle.index.specs.declared.fault.IndexFault.TheVariants.{TooLarge, TooShort}

pub record BookState (V : Type 0) : Type 0 where
  pub sites : ℕ
  pub hub_places : ℕ
  pub entry_places : ℕ
  -- whether a build stands
  pub built : Bool
  pub site_places : List (SitePlace V)
  pub hub_list : List (Option ℕ)
  -- a row of as many places as there are sites for each hub place
  pub rows : List (RowPlace V)
  pub entries : List (Entry V)

abbrev pub state : {V : Type 0} → Book V → BookState V
state b = record {
  sites = b.sizes.sites;
  hub_places = b.sizes.hub_places;
  entry_places = b.sizes.entry_places;
  built = b.built;
  site_places = b.site_places.now;
  hub_list = b.hub_list.now;
  rows = b.rows.now;
  entries = b.entries.now;
}

-- the hubs named now, ascending
abbrev pub hubs_of : {V : Type 0} → BookState V → List ℕ
hubs_of b = listed (take b.hub_places b.hub_list)

-- the book with these hubs
abbrev pub with_hubs : {V : Type 0} → BookState V → List ℕ → BookState V
with_hubs b hs = record b { hub_list = listing b.hub_places hs ++ drop b.hub_places b.hub_list }

-- ---- blanking

-- the book without its build: every place blank, hub list and further places apart
abbrev pub emptied : {V : Type 0} → Algebra V → BookState V → BookState V
emptied k b = record b {
  built = false;
  site_places = blanked b.sites blank_site b.site_places;
  rows = blanked (b.hub_places * b.sites) blank_row b.rows;
  entries = blanked b.entry_places (blank_entry k) b.entries;
}

-- the build is blanked where one stands; where none stands, nothing is done
abbrev pub unbuilt : {V : Type 0} → Algebra V → BookState V → BookState V
unbuilt k b = cond b.built (emptied k b) b

-- ---- sizes

-- The first size or memory that does not do: sites, site places, hub places, hub list, hub rows, entry places, entries.
abbrev pub size_fault : ℕ → ℕ → ℕ → ℕ → ℕ → ℕ → ℕ → Option IndexFault
size_fault sites site_memory hub_places hub_memory row_memory entry_places entry_memory =
    or_then (over TooLarge 4096 sites) (or_then (short TooShort site_memory sites)
    (or_then (over TooLarge 64 hub_places) (or_then (short TooShort hub_memory hub_places) (or_then (short TooShort row_memory (hub_places * sites))
    (or_then (over TooLarge 262144 entry_places) (short TooShort entry_memory entry_places))))))

-- The fault of these sizes over the memory of a book.
abbrev pub fault_in : {V : Type 0} → BookState V → ℕ → ℕ → ℕ → Option IndexFault
fault_in b sites hub_places entry_places =
    size_fault sites (length b.site_places) hub_places (length b.hub_list) (length b.rows) entry_places (length b.entries)

-- a new book of these sizes over the memory of b: no hub, no build, blank
abbrev pub fresh : {V : Type 0} → Algebra V → BookState V → ℕ → ℕ → ℕ → BookState V
fresh k b sites hub_places entry_places = record {
  sites = sites;
  hub_places = hub_places;
  entry_places = entry_places;
  built = false;
  site_places = blanked sites blank_site b.site_places;
  hub_list = blanked hub_places None b.hub_list;
  rows = blanked (hub_places * sites) blank_row b.rows;
  entries = blanked entry_places (blank_entry k) b.entries;
}

-- memory before a book is made of it: a book with no sites
abbrev pub lent : {V : Type 0} → List (SitePlace V) → List (Option ℕ) → List (RowPlace V) → List (Entry V) → BookState V
lent ss hs rs es = record { sites = 0; hub_places = 0; entry_places = 0; built = false; site_places = ss; hub_list = hs; rows = rs; entries = es }

-- what comes of sizes and memory: a new book, or one with no sites and all memory as it was
abbrev pub by_fault : {V : Type 0} → Option IndexFault → BookState V → BookState V → BookState V
by_fault (Some fault) memory new = memory
by_fault None memory new = new

abbrev pub Made : {V : Type 0} → Algebra V → ℕ → ℕ → ℕ → BookState V → BookState V → Type 0
Made k sites hub_places entry_places memory b = b ≡ by_fault (fault_in memory sites hub_places entry_places) memory (fresh k memory sites hub_places entry_places)

-- Made anew over its own memory: a fault is answered.
abbrev pub Renewed : {V : Type 0} → Algebra V → ℕ → ℕ → ℕ → BookState V → Result (Unit {0}) IndexFault → BookState V → Type 0
Renewed k sites hub_places entry_places before r after =
    (r ≡ checked (fault_in before sites hub_places entry_places)) × Made k sites hub_places entry_places before after
