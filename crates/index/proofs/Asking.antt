-- What passed checks tell, and a figure that was granted.
use Rattle.std.proofs.Common.{◌≡◌, ℕ, Some, None, Ok, Option, Result, arith}
use Rattle.std.proofs.lemmas.Grind.{common_steps}
use Rattle.std.specs.Option.{ok_or}
use Rattle.weight.specs.Algebra.{Algebra}
use Rattle.network.specs.Graph.{Graph}
use Rattle.network.specs.Sizes.{checked}
use Rattle.index.specs.Asking.{no_site, not_built, Told, AskedWell, Asked, granted, unjoined}
use Rattle.index.specs.Books.{BookState}
use Rattle.index.specs.Calls.{differ}
use Rattle.index.specs.declared.fault.IndexFault.{IndexFault}
use Rattle.index.specs.declared.fault.IndexFault.TheVariants.{Unjoined}

module _ {V : Type 0} (k : Algebra V) (g : Graph V) (b : BookState V) (s t : ℕ) (agreed : Ok tt ≡ checked (differ b.sites g.sites)) (first : Ok tt ≡ checked (no_site b.sites s))
    (second : Ok tt ≡ checked (no_site b.sites t)) (stands : Ok tt ≡ checked (not_built b.built)) where
  pub well : AskedWell g b s t
  well = record { agreed = grind (arith, common_steps); first = grind (arith, common_steps); second = grind (arith, common_steps); built = grind (arith, common_steps) }

  -- the figure that the tables tell, or that no walk joins the two
  pub asked : (o : Option (V × ℕ)) → Told k g b s t o → (r : Result (V × ℕ) IndexFault) → r ≡ ok_or o Unjoined → Asked k g b s t r
  asked (Some f) told r is = granted f.0 f.1 well is (told well.agreed well.first well.second)
  asked None told r is = unjoined well is (told well.agreed well.first well.second)
