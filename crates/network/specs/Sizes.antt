-- Checks of sizes and of the memory lent for them. Whose fault it is, the first argument says: it makes one of a number.
use Rattle.std.specs.Prelude.{ℕ, cond, Some, None, Ok, Err, Option, Result, nat_lt}

-- the fault of a size, where it is over its largest
abbrev pub over : {F : Type 0} → (ℕ → F) → ℕ → ℕ → Option F
over fault largest size = cond (nat_lt largest size) (Some (fault size)) None

-- the fault of a memory, where it is too short for its size
abbrev pub short : {F : Type 0} → (ℕ → F) → ℕ → ℕ → Option F
short fault length size = cond (nat_lt length size) (Some (fault length)) None

-- the first of two faults
abbrev pub or_then : {F : Type 0} → Option F → Option F → Option F
or_then None later = later
or_then (Some fault) later = Some fault

-- what a check answers: nothing, or the fault
abbrev pub checked : {F : Type 0} → Option F → Result (Unit {0}) F
checked None = Ok tt
checked (Some fault) = Err fault
