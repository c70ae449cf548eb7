-- The link that follows the one with a given mark, at a site of a register.
use Rattle.std.proofs.Common.{◌≡◌, ℕ, zero, suc, ◌+◌, ◌<◌, ◌≤◌, true, false, cond, ◌&&◌, eqb, ◌⊎◌, List, [], ◌∷◌, map, length, get_or, drop, None, Option, sym, refl, ap, ◌∙◌, ⊎_elim, arith, drop-cons}
use Rattle.std.proofs.lemmas.List.{drop_all}
use Rattle.std.proofs.lemmas.Bool.{cond-true, cond-false, and_left, and_right, and_from, or_from, or_left, or_right, eq-eqb, ne_eqb}
use Rattle.register.specs.Chains.{Ones, Others, ends_of, meets, next_at}
use Rattle.network.specs.Links.{first, from, rest, after}
use Rattle.network.specs.Registers.{told, links_from}
use Rattle.network.proofs.Sound.{nowhere_told}
use Rattle.register.specs.Validity.{ends_exist}
use Rattle.register.specs.Memories.{given_of, memory_of, records_of, register_meaning}
use Rattle.network.specs.declared.link.Link.{Link}
use Rattle.register.specs.declared.Register.{Register}
use Rattle.register.specs.declared.memory.LinkRecord.{LinkRecord}
use Rattle.register.proofs.Walks.{links_on, first_on, passed_over, next_of}

-- ---- the list from a mark on

-- no mark is below the first number
pub from_below : {V : Type 0} (u i n : ℕ) (xs : List (LinkRecord V)) → n < i → from (links_from u i (map given_of xs)) n ≡ []
from_below u i n [] h = refl
from_below u i n (x ∷ xs) h =
    let more = from_below u (suc i) n xs (omega arith) in
    let ne : eqb i n ≡ false = ne_eqb i n (λ e. omega arith) in
    elim (x.standing && meets u (ends_of x)) as (λ t. from (cond t (told u i (given_of x) ∷ links_from u (suc i) (map given_of xs)) (links_from u (suc i) (map given_of xs))) n ≡ [])
    [ true ↦ cond-false (eqb i n) _ _ ne ∙ more | false ↦ more ]

-- what comes before the number n does not matter
pub from_at : {V : Type 0} (u i m n : ℕ) (xs : List (LinkRecord V)) → n ≡ i + m → from (links_from u i (map given_of xs)) n ≡ from (links_from u n (map given_of (drop m xs))) n
from_at u i zero n xs e = let s : i ≡ n = omega arith in ap (λ k. from (links_from u k (map given_of xs)) n) s
from_at u i (suc m) n [] e = refl
from_at u i (suc m) n (x ∷ xs) e =
    let more = from_at u (suc i) m n xs (omega arith) in
    let ne : eqb i n ≡ false = ne_eqb i n (λ s. omega arith) in
    let after_m = from (links_from u n (map given_of (drop m xs))) n in
    elim (x.standing && meets u (ends_of x)) as (λ t. from (cond t (told u i (given_of x) ∷ links_from u (suc i) (map given_of xs)) (links_from u (suc i) (map given_of xs))) n ≡ after_m)
    [ true ↦ cond-false (eqb i n) _ _ ne ∙ more | false ↦ more ]

-- ---- the link after the mark m

module _ {V : Type 0} (rs : List (LinkRecord V)) (u m : ℕ) where
  pub after_past : length rs ≤ m → None ≡ after (links_from u 0 (map given_of rs)) m
  after_past h =
      sym (ap (λ l. first (rest l)) (from_at u 0 m m rs (omega arith) ∙ ap (λ xs. from (links_from u m (map given_of xs)) m) (drop_all m rs h)))

  module _ (r : LinkRecord V) (lt : m < length rs) (read : r ≡ get_or rs m r) where
    from_here : from (links_from u 0 (map given_of rs)) m ≡ from (links_from u m (map given_of (r ∷ drop (suc m) rs))) m
    from_here =
        from_at u 0 m m rs (omega arith)
        ∙ ap (λ xs. from (links_from u m (map given_of xs)) m) (drop-cons rs m r lt ∙ ap (λ x. x ∷ drop (suc m) rs) (sym read))

    pub after_missing : (r.standing && meets u (ends_of r)) ≡ false → None ≡ after (links_from u 0 (map given_of rs)) m
    after_missing h =
        sym (ap (λ l. first (rest l)) (from_here ∙ ap (λ l. from l m) (passed_over u m r (drop (suc m) rs) h) ∙ from_below u (suc m) m (drop (suc m) rs) (omega arith)))

    pub after_struck : r.standing ≡ false → None ≡ after (links_from u 0 (map given_of rs)) m
    after_struck h = after_missing (and_left _ _ h)

    pub after_apart : (r.one ≡ u → ⊥) × (r.other ≡ u → ⊥) → None ≡ after (links_from u 0 (map given_of rs)) m
    after_apart h = after_missing (and_right r.standing _ (or_from _ _ (ne_eqb r.one u h.0) (ne_eqb r.other u h.1)))

    pub after_met : r.standing ≡ true → meets u (ends_of r) ≡ true → after (links_from u 0 (map given_of rs)) m ≡ first (links_on rs u (suc m))
    after_met s t =
        let more = links_on rs u (suc m) in
        ap (λ l. first (rest l))
        (from_here
        ∙ ap (λ l. from l m) (cond-true (r.standing && meets u (ends_of r)) (told u m (given_of r) ∷ more) more (and_from _ _ s t))
        ∙ cond-true (eqb m m) (told u m (given_of r) ∷ more) (from more m) (eq-eqb m m refl))

    module _ (either : ((r.one ≡ u → ⊥) × (r.other ≡ u)) ⊎ (r.one ≡ u)) where
      met : meets u (ends_of r) ≡ true
      met = ⊎_elim (λ h. or_right _ _ (eq-eqb _ _ h.1)) (λ h. or_left _ _ (eq-eqb _ _ h)) either

      pub goes_on : Ones rs → Others rs → (at : Option ℕ) → at ≡ next_at u r → at ≡ first_on rs u (suc m)
      goes_on ones others at asked = asked ∙ next_of rs u m r lt read met ones others

      pub after_told : (next : Option (Link V)) → r.standing ≡ true → next ≡ first (links_on rs u (suc m)) → next ≡ after (links_from u 0 (map given_of rs)) m
      after_told next s h = h ∙ sym (after_met s met)

-- a site that does not exist has no links
pub told_nowhere : {V : Type 0} (x : Register V) (u : ℕ) → x.sites ≤ u → links_from u 0 (register_meaning x).given ≡ []
told_nowhere x u out = nowhere_told x.sites u 0 (register_meaning x).given out (ends_exist x.sites (records_of (memory_of x)) x.inside)
