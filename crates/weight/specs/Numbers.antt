-- The two kinds whose values are the numbers below 2 ^ 64.
use Rattle.std.proofs.Common.{ap}
use Rattle.std.specs.Prelude.{ℕ, ◌+◌, ◌-◌, ◌^◌, min, max, nat_lt}
use Rattle.weight.specs.Algebra.{Algebra}
use Rattle.weight.specs.Laws as law
use Rattle.weight.specs.declared.delay.Delay.{Delay}
use Rattle.weight.specs.declared.repair.Repair.{Repair}

-- a number as a delay; a number beyond the largest value stops there
abbrev pub micros_of : ℕ → Delay
micros_of n = record { micros = min n (2 ^ 64 - 1); fits = law.stop_fits n }

-- delays add up, and a sum stops at the largest value
abbrev pub delay : Algebra Delay
delay = record {
  zero = micros_of 0;
  plus = λ x y. micros_of (x.micros + y.micros);
  less = λ x y. nat_lt x.micros y.micros;
  value = micros_of;
  irrefl = λ x. law.irrefl x.micros;
  trans = λ x y z. law.trans x.micros y.micros z.micros;
  same = λ x y p q. law.same_delay x y (law.same x.micros y.micros p q);
  least = λ x. law.least x.micros;
  unit = λ x. law.same_delay _ x (law.stop_unit x.micros x.fits);
  assoc = λ x y z. law.same_delay _ _ (law.stop_assoc x.micros y.micros z.micros);
  comm = λ x y. law.same_delay _ _ (law.stop_comm x.micros y.micros);
  keeps = λ x y z. law.stop_keeps x.micros y.micros z.micros;
}

abbrev pub hours_of : ℕ → Repair
hours_of n = record { hours = n }

-- of two repair times the larger counts
abbrev pub repair : Algebra Repair
repair = record {
  zero = hours_of 0;
  plus = λ x y. hours_of (max x.hours y.hours);
  less = λ x y. nat_lt x.hours y.hours;
  value = hours_of;
  irrefl = λ x. law.irrefl x.hours;
  trans = λ x y z. law.trans x.hours y.hours z.hours;
  same = λ x y p q. ap hours_of (law.same x.hours y.hours p q);
  least = λ x. law.least x.hours;
  unit = λ x. ap hours_of (law.max_unit x.hours);
  assoc = λ x y z. ap hours_of (law.max_assoc x.hours y.hours z.hours);
  comm = λ x y. ap hours_of (law.max_comm x.hours y.hours);
  keeps = λ x y z. law.max_keeps x.hours y.hours z.hours;
}
