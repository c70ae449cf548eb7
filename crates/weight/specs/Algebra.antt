-- What a kind of weight is: its operations, and the laws that they keep.
-- Searches, figures and promises rest on these laws and on nothing else about values.
use Rattle.std.specs.Prelude.{◌≡◌, ℕ, Bool, true, false}

pub record Algebra (V : Type 0) : Type 0 where
  pub zero : V
  pub plus : V → V → V
  -- less x y: x is below y
  pub less : V → V → Bool
  -- a weight number as a value
  pub value : ℕ → V
  -- the order is total, and two values of which neither is below the other are the same value
  pub irrefl : (x : V) → less x x ≡ false
  pub trans : (x y z : V) → less x y ≡ true → less y z ≡ true → less x z ≡ true
  pub same : (x y : V) → less x y ≡ false → less y x ≡ false → x ≡ y
  -- no value is below zero, and adding zero changes no value
  pub least : (x : V) → less x zero ≡ false
  pub unit : (x : V) → plus x zero ≡ x
  pub assoc : (x y z : V) → plus (plus x y) z ≡ plus x (plus y z)
  pub comm : (x y : V) → plus x y ≡ plus y x
  -- if x is at most y, this still holds after z is added to both
  pub keeps : (x y z : V) → less y x ≡ false → less (plus y z) (plus x z) ≡ false

-- x is at most y: y is not below x
abbrev pub AtMost : {V : Type 0} → Algebra V → V → V → Type 0
AtMost k x y = k.less y x ≡ false
