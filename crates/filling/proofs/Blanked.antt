-- Memory whose first places were overwritten by a blank.
use Rattle.std.proofs.Common.{◌≡◌, ℕ, ◌-◌, ◌≤◌, List, ◌++◌, length, take, drop, replicate, arith}
use Rattle.std.proofs.lemmas.Grind.{common_steps}
use Rattle.filling.specs.Places.{blanked}

-- the part before n was overwritten by one value
pub blanked_is : {X : Type 0} (xs : List X) (n : ℕ) (ys : List X) (v : X) → n ≤ length xs → ys ≡ replicate (length (take (n - 0) xs)) v → (blank : X) → v ≡ blank → ys ++ drop (n - 0) xs ≡ blanked n blank xs
blanked_is xs n ys v inside wrote blank e = grind (arith, common_steps)
