-- A round of the links of a site, whose marks are apart: each is told once.
use Rattle.std.proofs.Common.{◌≡◌, ℕ, ◌<◌, true, false, cond, eqb, List, [], ◌∷◌, length, Some, Option, sym, refl, ap, ◌∙◌, subst, arith}
use mathlib.Core.List.{Memᴰ}
use Rattle.std.proofs.lemmas.Bool.Decides.{nat_tests}
use Rattle.network.specs.Links.{first, from, rest, after, Absent, Apart, left_at}
use Rattle.network.specs.declared.link.Link.{Link}

absent_from : {V : Type 0} (m n : ℕ) (ls : List (Link V)) → Absent m ls → Absent m (from ls n)
absent_from m n [] h = tt
absent_from m n (l ∷ ls) h = elim (eqb l.mark n) as (λ b. Absent m (cond b (l ∷ ls) (from ls n))) [ true ↦ h | false ↦ absent_from m n ls h.1 ]

absent_rest : {V : Type 0} (m : ℕ) (ls : List (Link V)) → Absent m ls → Absent m (rest ls)
absent_rest m [] h = tt
absent_rest m (l ∷ ls) h = h.1

-- one link more in front, with another mark
left_cons : {V : Type 0} (l : Link V) (ls others : List (Link V)) → Absent l.mark others → left_at (l ∷ ls) (first others) ≡ left_at ls (first others)
left_cons l ls [] h = refl
left_cons l ls (m ∷ ms) h = grind (arith, nat_tests, h.0)

pub left_first : {V : Type 0} (ls : List (Link V)) → left_at ls (first ls) ≡ ls
left_first [] = refl
left_first (l ∷ ls) = grind (arith, nat_tests)

pub left_after : {V : Type 0} (ls : List (Link V)) → Apart ls → (m : ℕ) → left_at ls (after ls m) ≡ rest (from ls m)
left_after [] h m = refl
left_after (l ∷ ls) h m =
    elim (eqb l.mark m) as (λ b. left_at (l ∷ ls) (first (rest (cond b (l ∷ ls) (from ls m)))) ≡ rest (cond b (l ∷ ls) (from ls m))) [
      | true ↦ left_cons l ls ls h.0 ∙ left_first ls
      | false ↦ left_cons l ls (rest (from ls m)) (absent_rest l.mark (from ls m) (absent_from l.mark m ls h.0)) ∙ left_after ls h.1 m
    ]

told_front : {V : Type 0} (ls : List (Link V)) (l : Link V) → Some l ≡ first ls → ls ≡ l ∷ rest ls
told_front [] l h = cc
told_front (m ∷ ms) l h = cc

-- every link that is left is one of the list
from_among : {V : Type 0} (ms : List (Link V)) (m : ℕ) (l : Link V) → Memᴰ l (from ms m) → Memᴰ l ms
from_among [] m l h = h
from_among (x ∷ xs) m l h =
    (elim (eqb x.mark m) as (λ b. Memᴰ l (cond b (x ∷ xs) (from xs m)) → Memᴰ l (x ∷ xs)) [ true ↦ λ k. k | false ↦ λ k. Memᴰ.tail (from_among xs m l k) ]) h

-- A round: where the next link is o, it is the first of what is left.
module _ {V : Type 0} (ls : List (Link V)) (apart : Apart ls) where
  abbrev pub Onward : Option (Link V) → Type 0
  Onward o = o ≡ first (left_at ls o)

  -- what is left is the next link, and what follows it
  left_front : (o : Option (Link V)) (l : Link V) → o ≡ Some l → Onward o → from ls l.mark ≡ l ∷ rest (from ls l.mark)
  left_front o l is onward = told_front (from ls l.mark) l (sym is ∙ onward ∙ ap (λ x. first (left_at ls x)) is)

  module _ (o next : Option (Link V)) (l : Link V) (is : o ≡ Some l) (onward : Onward o) (asked : next ≡ after ls l.mark) where
    left_next : left_at ls next ≡ rest (from ls l.mark)
    left_next = ap (left_at ls) asked ∙ left_after ls apart l.mark

    -- what was left is the link that was told, and what is left now
    pub left_parts : left_at ls o ≡ l ∷ left_at ls next
    left_parts = ap (left_at ls) is ∙ left_front o l is onward ∙ ap (λ r. l ∷ r) (sym left_next)

    pub onward_next : Onward next
    onward_next = asked ∙ ap first (sym left_next)

    pub less_left : length (left_at ls next) < length (left_at ls o)
    less_left = omega (arith, ap length left_parts)

  pub told_among : (o : Option (Link V)) (l : Link V) → o ≡ Some l → Onward o → Memᴰ l ls
  told_among o l is onward = from_among ls l.mark l (subst (Memᴰ l) (sym (left_front o l is onward)) (Memᴰ.head refl))
