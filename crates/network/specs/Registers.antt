-- A register: links that were given numbers, told at a site by ascending number.
use Rattle.std.specs.Prelude.{ℕ, zero, suc, ◌<◌, ◌≤◌, Bool, true, false, cond, ◌&&◌, ◌||◌, List, [], ◌∷◌, ◌++◌, length, ◌==◌, nat_le, nat_lt}
use Rattle.std.specs.List.{AllByRecursion}
use Rattle.weight.specs.Algebra.{Algebra}
use Rattle.network.specs.Graph.{Graph}
use Rattle.network.specs.Rulings.{Ruling, refuse, grant}
use Rattle.network.specs.declared.fault.NetworkFault.TheVariants.{NoSuchSite, TooHeavy, LinksUsed, NoSuchLink}
use Rattle.network.specs.declared.link.Link.{Link}
use Rattle.network.specs.declared.changes.RegisterChange.{RegisterChange}
use Rattle.network.specs.declared.changes.RegisterChange.TheVariants as change

-- A link that was given a number: its two ends, its weight, and whether it stands or was struck.
pub record Given (V : Type 0) : Type 0 where
  pub one : ℕ
  pub other : ℕ
  pub weight : V
  pub standing : Bool

-- Its sizes, how many sites and links the memory that it was lent has room for, and the links given so far
-- in the order of their numbers: the first has number 0.
pub record Meaning (V : Type 0) : Type 0 where
  pub sites : ℕ
  pub places : ℕ
  pub site_room : ℕ
  pub link_room : ℕ
  pub given : List (Given V)

-- ---- its graph

-- the site is an end of the link
abbrev pub touches : {V : Type 0} → ℕ → Given V → Bool
touches u x = x.one == u || x.other == u

-- the link with number i as it stands at the site u
abbrev pub told : {V : Type 0} → ℕ → ℕ → Given V → Link V
told u i x = record { mark = i; far = cond (x.one == u) x.other x.one; weight = x.weight }

-- the standing links at the site u, of links whose numbers run from i
abbrev pub links_from : {V : Type 0} → ℕ → ℕ → List (Given V) → List (Link V)
links_from u i [] = []
links_from u i (x ∷ xs) = cond (x.standing && touches u x) (told u i x ∷ links_from u (suc i) xs) (links_from u (suc i) xs)

abbrev pub graph : {V : Type 0} → Meaning V → Graph V
graph m = record { sites = m.sites; links = λ u. links_from u 0 m.given }

-- both ends of the link are sites
abbrev pub Ended : {V : Type 0} → ℕ → Given V → Type 0
Ended sites x = (x.one < sites) × (x.other < sites)

-- What holds of every register: its sizes, and that both ends of each link exist.
pub record Valid {V : Type 0} (m : Meaning V) : Type 0 where
  pub few_sites : m.sites ≤ 4096
  pub few_places : m.places ≤ 16384
  pub few : length m.given ≤ m.places
  pub ends : AllByRecursion (Ended m.sites) m.given

-- ---- its changes

-- the meaning with other links
abbrev pub with_given : {V : Type 0} → Meaning V → List (Given V) → Meaning V
with_given m xs = record { sites = m.sites; places = m.places; site_room = m.site_room; link_room = m.link_room; given = xs }

-- a new register of these sizes in the same memory
abbrev pub renewed : {V : Type 0} → Meaning V → ℕ → ℕ → Meaning V
renewed m sites places = record { sites = sites; places = places; site_room = m.site_room; link_room = m.link_room; given = [] }

-- whether the link with number n was given and not struck
abbrev pub stands : {V : Type 0} → ℕ → List (Given V) → Bool
stands n [] = false
stands zero (x ∷ xs) = x.standing
stands (suc n) (x ∷ xs) = stands n xs

-- the list after what stands at place n was altered
abbrev pub altered : {X : Type 0} → (X → X) → ℕ → List X → List X
altered f n [] = []
altered f zero (x ∷ xs) = f x ∷ xs
altered f (suc n) (x ∷ xs) = x ∷ altered f n xs

abbrev pub struck : {V : Type 0} → Given V → Given V
struck x = record { one = x.one; other = x.other; weight = x.weight; standing = false }

abbrev pub reweighed : {V : Type 0} → V → Given V → Given V
reweighed w x = record { one = x.one; other = x.other; weight = w; standing = x.standing }

-- a new link takes the next number
abbrev pub with_link : {V : Type 0} → Meaning V → ℕ → ℕ → V → Meaning V
with_link m a b w = with_given m (m.given ++ record { one = a; other = b; weight = w; standing = true } ∷ [])

abbrev pub link_rule : {V : Type 0} → Algebra V → Meaning V → ℕ → ℕ → ℕ → Ruling (Meaning V)
link_rule k m a b w =
    cond (nat_le m.sites a) (refuse (NoSuchSite a))
    (cond (nat_le m.sites b) (refuse (NoSuchSite b))
    (cond (nat_lt 1000000 w) (refuse (TooHeavy w))
    (cond (nat_le m.places (length m.given)) (refuse (LinksUsed m.places))
    (grant (length m.given) (with_link m a b (k.value w))))))

abbrev pub strike_rule : {V : Type 0} → Meaning V → ℕ → Ruling (Meaning V)
strike_rule m n =
    cond (stands n m.given) (grant n (with_given m (altered struck n m.given)))
    (refuse (NoSuchLink n))

abbrev pub reweigh_rule : {V : Type 0} → Algebra V → Meaning V → ℕ → ℕ → Ruling (Meaning V)
reweigh_rule k m n w =
    cond (stands n m.given)
    (cond (nat_lt 1000000 w) (refuse (TooHeavy w)) (grant n (with_given m (altered (reweighed (k.value w)) n m.given))))
    (refuse (NoSuchLink n))

abbrev pub rule : {V : Type 0} → Algebra V → Meaning V → RegisterChange → Ruling (Meaning V)
rule k m (change.Link a b w) = link_rule k m a b w
rule k m (change.Strike n) = strike_rule m n
rule k m (change.Reweigh n w) = reweigh_rule k m n w
