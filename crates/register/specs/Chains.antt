-- How a register finds the links of a site: a chain through the records of the links there, by ascending number.
-- These definitions are internal to the register; its contracts speak of its meaning alone.
use Rattle.std.specs.Prelude.{◌≡◌, ℕ, suc, ◌<◌, ◌≤◌, Bool, false, cond, ◌||◌, List, [], ◌∷◌, map, length, drop, Some, None, Option, ◌==◌, slice_index_or}
use Rattle.network.specs.Registers.{altered}
use Rattle.register.specs.declared.memory.LinkRecord.{LinkRecord}
use Rattle.register.specs.declared.memory.SiteChain.{SiteChain}

-- ---- ends of links, in the order of their numbers

abbrev pub ends_of : {V : Type 0} → LinkRecord V → ℕ × ℕ
ends_of r = (r.one, r.other)

-- the site is one of the two ends
abbrev pub meets : ℕ → ℕ × ℕ → Bool
meets u e = e.0 == u || e.1 == u

-- the lowest number at the site u, of links whose numbers run from i
abbrev pub first_from : ℕ → ℕ → List (ℕ × ℕ) → Option ℕ
first_from u i [] = None
first_from u i (e ∷ es) = cond (meets u e) (Some i) (first_from u (suc i) es)

abbrev pub or_else : Option ℕ → Option ℕ → Option ℕ
or_else None o = o
or_else (Some i) o = Some i

-- the highest number there
abbrev pub last_from : ℕ → ℕ → List (ℕ × ℕ) → Option ℕ
last_from u i [] = None
last_from u i (e ∷ es) = or_else (last_from u (suc i) es) (cond (meets u e) (Some i) None)

-- the number that a record names as the next one at the site u
abbrev pub next_at : {V : Type 0} → ℕ → LinkRecord V → Option ℕ
next_at u r = cond (r.one == u) r.next_one r.next_other

-- ---- how a link comes into a chain

-- the record with the number n as the next one at the site u, at whichever of its ends that is
abbrev pub with_next : {V : Type 0} → ℕ → ℕ → LinkRecord V → LinkRecord V
with_next u n r = record {
  one = r.one;
  other = r.other;
  weight = r.weight;
  standing = r.standing;
  next_one = cond (r.one == u) (Some n) r.next_one;
  next_other = cond (r.other == u) (Some n) r.next_other;
}

-- the records after the last one of a chain was given its next number
abbrev pub pointed : {V : Type 0} → ℕ → ℕ → Option ℕ → List (LinkRecord V) → List (LinkRecord V)
pointed u n None rs = rs
pointed u n (Some i) rs = altered (with_next u n) i rs

-- the chain with the number n at its end
abbrev pub ended : ℕ → SiteChain → SiteChain
ended n c = record { first = or_else c.first (Some n); last = Some n }

-- ---- how a link is altered, which leaves the chains

abbrev pub struck_record : {V : Type 0} → LinkRecord V → LinkRecord V
struck_record r = record { one = r.one; other = r.other; weight = r.weight; standing = false; next_one = r.next_one; next_other = r.next_other }

abbrev pub reweighed_record : {V : Type 0} → V → LinkRecord V → LinkRecord V
reweighed_record w r = record { one = r.one; other = r.other; weight = w; standing = r.standing; next_one = r.next_one; next_other = r.next_other }

-- ---- what the memory keeps

-- the lent places hold the sizes, and no more links were given than there are places for
abbrev pub Sized : ℕ → ℕ → ℕ → ℕ → ℕ → Type 0
Sized sites places used site_room link_room =
    (sites ≤ 4096) × (sites ≤ site_room) × (places ≤ 16384) × (places ≤ link_room) × (used ≤ places)

-- both ends of each link exist
abbrev pub Inside : {V : Type 0} → ℕ → List (LinkRecord V) → Type 0
Inside {V} sites rs = (i : ℕ) (d : LinkRecord V) → i < length rs → ((slice_index_or rs i d).one < sites) × ((slice_index_or rs i d).other < sites)

-- the chain of a site begins with the lowest number there
abbrev pub Firsts : {V : Type 0} → ℕ → List SiteChain → List (LinkRecord V) → Type 0
Firsts u cs rs = (d : SiteChain) → (slice_index_or cs u d).first ≡ first_from u 0 (map ends_of rs)

-- and ends with the highest
abbrev pub Lasts : {V : Type 0} → ℕ → List SiteChain → List (LinkRecord V) → Type 0
Lasts u cs rs = (d : SiteChain) → (slice_index_or cs u d).last ≡ last_from u 0 (map ends_of rs)

-- each link names the next one at its one end, and at its other end
abbrev pub Ones : {V : Type 0} → List (LinkRecord V) → Type 0
Ones {V} rs = (i : ℕ) (d : LinkRecord V) → i < length rs → (slice_index_or rs i d).next_one ≡ first_from (slice_index_or rs i d).one (suc i) (map ends_of (drop (suc i) rs))

abbrev pub Others : {V : Type 0} → List (LinkRecord V) → Type 0
Others {V} rs = (i : ℕ) (d : LinkRecord V) → i < length rs → (slice_index_or rs i d).next_other ≡ first_from (slice_index_or rs i d).other (suc i) (map ends_of (drop (suc i) rs))
