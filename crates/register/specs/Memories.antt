-- The memory of a register, what it means, and how it is made.
use Rattle.std.specs.Prelude.{◌≡◌, ℕ, false, List, ◌++◌, map, length, take, drop, replicate, Some, None, Option, Result}
use Rattle.std.specs.Borrow.{MutBor}
use Rattle.weight.specs.Algebra.{Algebra}
use Rattle.network.specs.Registers.{Given, Meaning}
use Rattle.network.specs.Sizes.{over, short, or_then, checked}
use Rattle.network.specs.declared.fault.NetworkFault.{NetworkFault}
use Rattle.network.specs.declared.fault.NetworkFault.TheVariants.{TooLarge, TooShort}
use Rattle.register.specs.declared.Register.{Register}
use Rattle.register.specs.declared.memory.LinkRecord.{LinkRecord}
use Rattle.register.specs.declared.memory.SiteChain.{SiteChain}

-- What a register holds: its sizes, how many links were given, and all the memory that it was lent, places past its sizes too.
pub record Memory (V : Type 0) : Type 0 where
  pub sites : ℕ
  pub places : ℕ
  pub used : ℕ
  pub chains : List SiteChain
  pub records : List (LinkRecord V)

abbrev pub memory_of : {V : Type 0} → Register V → Memory V
memory_of r = record { sites = r.sites; places = r.places; used = r.used; chains = r.chains.now; records = r.records.now }

-- the records of the links given so far
abbrev pub records_of : {V : Type 0} → Memory V → List (LinkRecord V)
records_of m = take m.used m.records

-- a link record, without the chains that it lies in
abbrev pub given_of : {V : Type 0} → LinkRecord V → Given V
given_of r = record { one = r.one; other = r.other; weight = r.weight; standing = r.standing }

-- what a register's memory means: the records below `used` are the links given so far
abbrev pub meaning : {V : Type 0} → Memory V → Meaning V
meaning m = record {
  sites = m.sites;
  places = m.places;
  site_room = length m.chains;
  link_room = length m.records;
  given = map given_of (records_of m);
}

abbrev pub register_meaning : {V : Type 0} → Register V → Meaning V
register_meaning r = meaning (memory_of r)

-- Places past the register's sizes are as they were.
pub record Spared {V : Type 0} (before after : Memory V) : Type 0 where
  pub chains : drop before.sites after.chains ≡ drop before.sites before.chains
  pub records : drop before.places after.records ≡ drop before.places before.records

-- the reference is still the one that was lent, whatever was written through it
abbrev pub SameReference : {X : Type 0} → MutBor X → MutBor X → Type 0
SameReference r s = (s.ref_ptr ≡ r.ref_ptr) × (s.ghost_name ≡ r.ghost_name)

-- the register is over the memory that these references lend
abbrev pub HoldsMemory : {V : Type 0} → MutBor (List SiteChain) → MutBor (List (LinkRecord V)) → Register V → Type 0
HoldsMemory chains records r = SameReference chains r.chains × SameReference records r.records

-- and still over the same memory
abbrev pub KeepsMemory : {V : Type 0} → Register V → Register V → Type 0
KeepsMemory before after = HoldsMemory before.chains before.records after

-- ---- its sizes

-- The first size or memory that does not do: sites, then their memory, then link places, then theirs.
abbrev pub size_fault : ℕ → ℕ → ℕ → ℕ → Option NetworkFault
size_fault sites site_memory places link_memory =
    or_then (over TooLarge 4096 sites) (or_then (short TooShort site_memory sites) (or_then (over TooLarge 16384 places) (short TooShort link_memory places)))

-- a chain with no link in it
abbrev pub no_chain : SiteChain
no_chain = record { first = None; last = None }

-- a record before any link
abbrev pub blank_record : {V : Type 0} → Algebra V → LinkRecord V
blank_record k = record { one = 0; other = 0; weight = k.zero; standing = false; next_one = None; next_other = None }

-- the fault of these sizes over the memory of a register
abbrev pub fault_in : {V : Type 0} → Memory V → ℕ → ℕ → Option NetworkFault
fault_in m sites places = size_fault sites (length m.chains) places (length m.records)

-- memory before a register is made of it: a register with no sites
abbrev pub lent : {V : Type 0} → List SiteChain → List (LinkRecord V) → Memory V
lent chains records = record { sites = 0; places = 0; used = 0; chains = chains; records = records }

-- What comes of sizes and memory: where there is a fault, all is as it was; else a register of these sizes,
-- without links, its chains empty, and all other memory as it was.
abbrev pub MadeBy : {V : Type 0} → Option NetworkFault → ℕ → ℕ → Memory V → Memory V → Type 0
MadeBy (Some fault) sites places before after = after ≡ before
MadeBy None sites places before after =
    (after.sites ≡ sites) × (after.places ≡ places) × (after.used ≡ 0)
    × (after.chains ≡ replicate sites no_chain ++ drop sites before.chains) × (after.records ≡ before.records)

abbrev pub Made : {V : Type 0} → ℕ → ℕ → Memory V → Memory V → Type 0
Made sites places before after = MadeBy (fault_in before sites places) sites places before after

-- Made anew over its own memory: a fault is answered.
abbrev pub Renewed : {V : Type 0} → ℕ → ℕ → Memory V → Result (Unit {0}) NetworkFault → Memory V → Type 0
Renewed sites places before r after = (r ≡ checked (fault_in before sites places)) × Made sites places before after
