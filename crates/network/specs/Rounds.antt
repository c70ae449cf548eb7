-- A round of the links at a site, which tells them one by one.
use Rattle.std.specs.Prelude.{◌≡◌, ℕ, List}
use Rattle.network.specs.Links.{first, left_at}
use Rattle.network.specs.declared.Network as network
use Rattle.network.specs.declared.link.Link.{Link}
use Rattle.network.specs.declared.links.Links.{Links}
use Rattle.weight.specs.declared.Weight as weight

-- `links` has the links at each site of a network.
module _ {N V C : Type 0} (links : N → ℕ → List (Link V)) {h : network.Ghosts N V C} {w : weight.Ghosts V} where
  -- what a round has still to tell
  abbrev pub untold : Links N V C h w → List (Link V)
  untold round = left_at (links round.network.now round.site) round.next

  -- the next link that a round tells is the first of those
  abbrev pub Ready : Links N V C h w → Type 0
  Ready round = round.next ≡ first (untold round)
