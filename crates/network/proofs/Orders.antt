-- What the laws of a kind say of its order and of totals.
use Rattle.std.proofs.Common.{◌≡◌, true, List, [], ◌∷◌, ◌++◌, Some, None, Option, sym, arith}
use Rattle.weight.specs.Algebra.{Algebra, AtMost}
use Rattle.network.specs.Walks.{total, Below}
use Rattle.network.specs.declared.link.Link.{Link}

module _ {V : Type 0} (k : Algebra V) where
  -- ---- at most

  pub at_most_refl : (x : V) → AtMost k x x
  at_most_refl x = k.irrefl x

  pub at_most_from_less : (x y : V) → k.less x y ≡ true → AtMost k x y
  at_most_from_less x y h = grind (arith, k.trans, k.irrefl)

  pub less_at_most : (x y z : V) → k.less x y ≡ true → AtMost k y z → k.less x z ≡ true
  less_at_most x y z p q = grind (arith, k.trans x y z, k.trans y z x, k.irrefl, k.same y z)

  pub at_most_less : (x y z : V) → AtMost k x y → k.less y z ≡ true → k.less x z ≡ true
  at_most_less x y z p q = grind (arith, k.trans x y z, k.same y x)

  pub at_most_trans : (x y z : V) → AtMost k x y → AtMost k y z → AtMost k x z
  at_most_trans x y z p q = grind (arith, less_at_most z x y)

  pub at_most_both : (x y : V) → AtMost k x y → AtMost k y x → x ≡ y
  at_most_both x y p q = k.same x y q p

  -- ---- adding

  pub plus_at_most : (a b c d : V) → AtMost k a b → AtMost k c d → AtMost k (k.plus a c) (k.plus b d)
  plus_at_most a b c d p q = grind (arith, at_most_trans (k.plus a c) (k.plus b c) (k.plus b d), k.keeps a b c, k.keeps c d b, k.comm)

  pub zero_plus : (x : V) → k.plus k.zero x ≡ x
  zero_plus x = grind (arith, k.comm, k.unit)

  pub at_most_plus : (a b : V) → AtMost k a (k.plus a b)
  at_most_plus a b = grind (arith, k.keeps k.zero b a, k.least b, k.unit, k.comm)

  pub total-append : (p q : List (Link V)) → total k (p ++ q) ≡ k.plus (total k p) (total k q)
  total-append [] q = sym (zero_plus (total k q))
  total-append (l ∷ p) q = cc (total-append p q, k.assoc l.weight (total k p) (total k q))

  -- ---- below a limit

  pub below_lower : (x y : V) (cut : Option V) → AtMost k x y → Below k y cut → Below k x cut
  below_lower x y None p b = tt
  below_lower x y (Some r) p b = at_most_less x y r p b
