-- The laws of the two kinds, as proofs: nothing in this file has to be believed.
use Rattle.std.specs.Prelude.{◌≡◌, ℕ, ◌+◌, ◌-◌, ◌^◌, ◌<◌, ◌≤◌, min, max, true, false, nat_lt}
use Rattle.std.proofs.Common.{ap, subst, arith}
use Rattle.std.proofs.Math.Bridge.{le_prop}
use Rattle.std.proofs.lemmas.Bool.{ltb-true, ltb-false, lt-ltb, le-ltb}
use Rattle.weight.specs.declared.delay.Delay.{Delay}

-- ---- the order of numbers, as a test

pub irrefl : (x : ℕ) → nat_lt x x ≡ false
irrefl x = le-ltb x x (omega arith)

pub trans : (x y z : ℕ) → nat_lt x y ≡ true → nat_lt y z ≡ true → nat_lt x z ≡ true
trans x y z p q = let a : x < y = ltb-true x y p in let b : y < z = ltb-true y z q in lt-ltb x z (omega arith)

pub same : (x y : ℕ) → nat_lt x y ≡ false → nat_lt y x ≡ false → x ≡ y
same x y p q = let a : y ≤ x = ltb-false x y p in let b : x ≤ y = ltb-false y x q in omega arith

pub least : (x : ℕ) → nat_lt x 0 ≡ false
least x = le-ltb x 0 (omega arith)

-- ---- the larger of two numbers

pub max_unit : (x : ℕ) → max x 0 ≡ x
max_unit x = omega arith

pub max_assoc : (x y z : ℕ) → max (max x y) z ≡ max x (max y z)
max_assoc x y z = omega arith

pub max_comm : (x y : ℕ) → max x y ≡ max y x
max_comm x y = omega arith

pub max_keeps : (x y z : ℕ) → nat_lt y x ≡ false → nat_lt (max y z) (max x z) ≡ false
max_keeps x y z p = let a : x ≤ y = ltb-false y x p in le-ltb _ _ (omega arith)

-- ---- sums that stop at 2 ^ 64 - 1

pub stop_fits : (n : ℕ) → min n (2 ^ 64 - 1) < 2 ^ 64
stop_fits n = omega arith

pub stop_unit : (x : ℕ) → x < 2 ^ 64 → min (x + 0) (2 ^ 64 - 1) ≡ x
stop_unit x h = omega arith

pub stop_assoc : (x y z : ℕ) → min (min (x + y) (2 ^ 64 - 1) + z) (2 ^ 64 - 1) ≡ min (x + min (y + z) (2 ^ 64 - 1)) (2 ^ 64 - 1)
stop_assoc x y z = omega arith

pub stop_comm : (x y : ℕ) → min (x + y) (2 ^ 64 - 1) ≡ min (y + x) (2 ^ 64 - 1)
stop_comm x y = omega arith

pub stop_keeps : (x y z : ℕ) → nat_lt y x ≡ false → nat_lt (min (y + z) (2 ^ 64 - 1)) (min (x + z) (2 ^ 64 - 1)) ≡ false
stop_keeps x y z p = let a : x ≤ y = ltb-false y x p in le-ltb _ _ (omega arith)

-- ---- values by their numbers

abbrev fit : (n : ℕ) → n < 2 ^ 64 → Delay
fit n h = record { micros = n; fits = h }

-- two delays are the same where their numbers are
pub same_delay : (x y : Delay) → x.micros ≡ y.micros → x ≡ y
same_delay x y e = subst (λ (v : ℕ). (k : v < 2 ^ 64) → fit x.micros x.fits ≡ fit v k) e (λ k. ap (fit x.micros) (le_prop x.fits k)) y.fits
