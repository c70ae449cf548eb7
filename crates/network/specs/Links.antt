-- The links of a site as a list, and how they are told one by one.
use Rattle.std.specs.Prelude.{ℕ, cond, List, [], ◌∷◌, Some, None, Option, ◌==◌, ◌≢◌}
use Rattle.network.specs.declared.link.Link.{Link}

-- the first link of the list, none where there is none
abbrev pub first : {V : Type 0} → List (Link V) → Option (Link V)
first [] = None
first (l ∷ ls) = Some l

-- the list from the link with mark m on, and nothing where the mark is not there
abbrev pub from : {V : Type 0} → List (Link V) → ℕ → List (Link V)
from [] m = []
from (l ∷ ls) m = cond (l.mark == m) (l ∷ ls) (from ls m)

abbrev pub rest : {V : Type 0} → List (Link V) → List (Link V)
rest [] = []
rest (l ∷ ls) = ls

-- the link that follows the one with mark m; none where that is the last one, or the mark is not there
abbrev pub after : {V : Type 0} → List (Link V) → ℕ → Option (Link V)
after ls m = first (rest (from ls m))

-- no link of the list has the mark m
abbrev pub Absent : {V : Type 0} → ℕ → List (Link V) → Type 0
Absent m [] = Unit {0}
Absent m (l ∷ ls) = (l.mark ≢ m) × Absent m ls

-- no two links of the list have one mark
abbrev pub Apart : {V : Type 0} → List (Link V) → Type 0
Apart [] = Unit {0}
Apart (l ∷ ls) = Absent l.mark ls × Apart ls

-- what is still to be told where the next link is o: the list from that link on
abbrev pub left_at : {V : Type 0} → List (Link V) → Option (Link V) → List (Link V)
left_at ls None = []
left_at ls (Some l) = from ls l.mark
