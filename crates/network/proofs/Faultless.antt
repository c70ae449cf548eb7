-- What passed checks tell: no fault was found.
use Rattle.std.proofs.Common.{◌≡◌, None, Some, Ok, Option, refl, ap, ◌∙◌}
use Rattle.network.specs.Sizes.{or_then, checked}

module _ {F : Type 0} where
  pub fault_none : (fault : Option F) → Ok tt ≡ checked fault → fault ≡ None
  fault_none None h = refl
  fault_none (Some f) h = cc

  pub or_none : (a b : Option F) → a ≡ None → b ≡ None → or_then a b ≡ None
  or_none a b p q = ap (λ o. or_then o b) p ∙ q
