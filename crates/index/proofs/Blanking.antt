-- Memory whose first places were overwritten, and a book that was emptied.
use Rattle.std.proofs.Common.{◌≡◌, ℕ, ◌≤◌, true, List, [], ◌++◌, length, take, drop, replicate, None, Option, ap, ◌∙◌}
use lib.ListN.{length-replicate}
use Rattle.std.proofs.lemmas.List.{length-take-le, take_at}
use Rattle.filling.specs.Places.{blanked}
use Rattle.index.specs.Hubs.{ordered}
use Rattle.index.proofs.Listing.{ordered_from_climbs}

-- the part before n was overwritten by one value
module _ {X : Type 0} (xs : List X) (n : ℕ) (ys : List X) (v : X) (inside : n ≤ length xs) (wrote : ys ≡ replicate (length (take n xs)) v) where
  part_is : ys ≡ replicate n v
  part_is = wrote ∙ ap (λ m. replicate m v) (length-take-le n xs inside)

  pub blanked_is : (blank : X) → v ≡ blank → ys ++ drop n xs ≡ blanked n blank xs
  blanked_is blank e = ap (λ zs. zs ++ drop n xs) (part_is ∙ ap (replicate n) e)

-- hub places that were blanked list no hub, in good order
module _ (sites n : ℕ) (xs ys : List (Option ℕ)) (is : ys ≡ blanked n None xs) where
  front_none : take n ys ≡ replicate n None
  front_none = ap (take n) is ∙ take_at (replicate n None) (drop n xs) n (length-replicate n None)

  pub none_ordered : ordered 0 sites (take n ys) ≡ true
  none_ordered = ap (ordered 0 sites) front_none ∙ ordered_from_climbs 0 sites n [] tt
