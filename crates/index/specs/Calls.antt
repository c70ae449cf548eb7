-- The calls on an index, each as one relation between what was before, the answer, and what is afterwards.
use Rattle.std.specs.Prelude.{◌≡◌, ℕ, suc, cond, length, Some, None, Ok, Err, Option, Result, ◌==◌, nat_le}
use Rattle.network.specs.Rulings as network
use Rattle.network.specs.Graph.{Graph}
use Rattle.weight.specs.Algebra.{Algebra}
use Rattle.index.specs.Books.{BookState, hubs_of, with_hubs, unbuilt}
use Rattle.index.specs.Hubs.{has, insert, without}
use Rattle.index.specs.declared.fault.IndexFault.{IndexFault}
use Rattle.index.specs.declared.fault.IndexFault.TheVariants.{Network, NoSuchSite, HubAlready, HubsFull, NoHub, SitesDiffer}

-- What the rules say of a call: refused, with the fault that says why; or granted, with the answer and what follows.
pub data Ruling (X : Type 0) : Type 0 where
  refuse : IndexFault → Ruling X
  grant : ℕ → X → Ruling X

-- The result and what is afterwards are those of the ruling; a refusal leaves everything.
abbrev pub Follows : {X : Type 0} → Ruling X → X → Result ℕ IndexFault → X → Type 0
Follows (refuse fault) before r after = (r ≡ Err fault) × (after ≡ before)
Follows (grant answer x) before r after = (r ≡ Ok answer) × (after ≡ x)

-- the fault of a book and a network that differ in sites
abbrev pub differ : ℕ → ℕ → Option IndexFault
differ book_sites sites = cond (book_sites == sites) None (Some (SitesDiffer sites))

-- a call goes on where the book and the network agree in sites
abbrev pub where_agreed : {X V : Type 0} → ℕ → BookState V → Ruling X → Ruling X
where_agreed sites b ruling = cond (b.sites == sites) ruling (refuse (SitesDiffer sites))

-- and with a site that exists
abbrev pub at_site : {X V : Type 0} → BookState V → ℕ → Ruling X → Ruling X
at_site b site ruling = cond (nat_le b.sites site) (refuse (NoSuchSite site)) ruling

-- ---- change

-- the network's ruling decides; granted, the book's build is blanked
abbrev pub with_book : {M V : Type 0} → Algebra V → BookState V → network.Ruling M → Ruling (M × BookState V)
with_book k b (network.refuse fault) = refuse (Network fault)
with_book k b (network.grant answer m) = grant answer (m, unbuilt k b)

abbrev pub Changed : {M C V : Type 0} → Algebra V → (M → Graph V) → (M → C → network.Ruling M) → C → M → BookState V → Result ℕ IndexFault → M → BookState V → Type 0
Changed k graph rule c m b r m' b' = Follows (where_agreed (graph m).sites b (with_book k b (rule m c))) (m, b) r (m', b')

-- ---- name and unname

-- the site becomes a hub: the hub list takes it up in its place, the build is blanked, and the number of hubs is answered
abbrev pub naming : {V : Type 0} → Algebra V → BookState V → ℕ → Ruling (BookState V)
naming k b site =
    cond (has site (hubs_of b)) (refuse (HubAlready site))
    (cond (nat_le b.hub_places (length (hubs_of b))) (refuse (HubsFull b.hub_places))
    (grant (suc (length (hubs_of b))) (unbuilt k (with_hubs b (insert site (hubs_of b))))))

abbrev pub Named : {V : Type 0} → Algebra V → ℕ → ℕ → BookState V → Result ℕ IndexFault → BookState V → Type 0
Named k sites site b r b' = Follows (where_agreed sites b (at_site b site (naming k b site))) b r b'

-- the site is a hub no longer
abbrev pub unnaming : {V : Type 0} → Algebra V → BookState V → ℕ → Ruling (BookState V)
unnaming k b site =
    cond (has site (hubs_of b)) (grant (length (without site (hubs_of b))) (unbuilt k (with_hubs b (without site (hubs_of b)))))
    (refuse (NoHub site))

abbrev pub Unnamed : {V : Type 0} → Algebra V → ℕ → ℕ → BookState V → Result ℕ IndexFault → BookState V → Type 0
Unnamed k sites site b r b' = Follows (where_agreed sites b (at_site b site (unnaming k b site))) b r b'
