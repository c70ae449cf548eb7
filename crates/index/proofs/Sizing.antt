-- What passed checks tell.
use Rattle.std.proofs.Common.{◌≡◌, ℕ, ◌<◌, ◌≤◌, length, Ok, arith}
use Rattle.std.proofs.lemmas.Grind.{common_steps}
use Rattle.network.specs.Sizes.{checked}
use Rattle.network.proofs.Faultless.{fault_none}
use Rattle.index.specs.Asking.{no_site}
use Rattle.index.specs.Books.{BookState, fault_in}

module _ {V : Type 0} (b : BookState V) where
  -- the hub list holds the hub places
  pub hubs_held : (sites hubs entries : ℕ) → Ok tt ≡ checked (fault_in b sites hubs entries) → hubs ≤ length b.hub_list
  hubs_held sites hubs entries h = let none = fault_none _ h in grind (arith, common_steps)

  -- the site exists
  pub site_there : (s : ℕ) → Ok tt ≡ checked (no_site b.sites s) → s < b.sites
  site_there s h = grind (arith, common_steps)
