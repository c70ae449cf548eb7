-- A walk along the chain of a site, which passes over the links that were struck.
use Rattle.std.proofs.Common.{◌≡◌, ℕ, suc, ◌-◌, ◌<◌, ◌≤◌, true, false, ◌&&◌, eqb, List, [], ◌∷◌, map, length, get_or, drop, Some, None, Option, sym, refl, ap, ◌∙◌, subst, ⊎_elim, arith, drop-cons}
use Rattle.std.proofs.lemmas.Bool.{cases_Bool, cond-true, cond-false, and_right, and_left, and_from, or_cases, both_ways, eqb-true}
use Rattle.register.specs.Chains.{ends_of, meets, first_from, next_at, Ones, Others}
use Rattle.network.specs.Links.{first}
use Rattle.network.specs.Registers.{told, links_from}
use Rattle.register.specs.Memories.{given_of}
use Rattle.network.specs.declared.link.Link.{Link}
use Rattle.register.specs.declared.memory.LinkRecord.{LinkRecord}
use Rattle.register.proofs.Firsts.{cut, cond_some, cond_none}

-- the standing links at the site u from the number j on
abbrev pub links_on : {V : Type 0} → List (LinkRecord V) → ℕ → ℕ → List (Link V)
links_on rs u j = links_from u j (map given_of (drop j rs))

-- the lowest number at the site u from the number j on
abbrev pub first_on : {V : Type 0} → List (LinkRecord V) → ℕ → ℕ → Option ℕ
first_on rs u j = first_from u j (map ends_of (drop j rs))

abbrev pub links_at : {V : Type 0} → List (LinkRecord V) → ℕ → Option ℕ → List (Link V)
links_at rs u None = []
links_at rs u (Some k) = links_on rs u k

abbrev pub left_at : {V : Type 0} → List (LinkRecord V) → Option ℕ → ℕ
left_at rs None = 0
left_at rs (Some k) = length rs - k

-- a link that does not touch the site, or does not stand, is passed over
pub passed_over : {V : Type 0} (u j : ℕ) (r : LinkRecord V) (rs : List (LinkRecord V)) → (r.standing && meets u (ends_of r)) ≡ false → links_from u j (map given_of (r ∷ rs)) ≡ links_from u (suc j) (map given_of rs)
passed_over u j r rs e = cond-false (r.standing && meets u (ends_of r)) _ _ e

-- the number k that is found from the number j on
pub record Found {V : Type 0} (rs : List (LinkRecord V)) (u j k : ℕ) : Type 0 where
  pub from : j ≤ k
  pub below : k < length rs
  pub met : (d : LinkRecord V) → meets u (ends_of (get_or rs k d)) ≡ true
  pub same : links_on rs u j ≡ links_on rs u k

module _ {V : Type 0} (rs : List (LinkRecord V)) (u : ℕ) where
  found_in : (j k : ℕ) (xs : List (LinkRecord V)) → drop j rs ≡ xs → first_from u j (map ends_of xs) ≡ Some k → Found rs u j k
  found_in j k [] e h = let z : ◌≡◌ {A = ℕ} 0 1 = cc in absurd (omega arith)
  found_in j k (x ∷ xs) e h =
      let c = cut rs j x xs e in
      ⊎_elim
      (λ here. record {
        from = omega (arith, here.1);
        below = omega (arith, here.1, c.below);
        met = λ d. ap (λ i. meets u (ends_of (get_or rs i d))) (sym here.1) ∙ ap (λ r. meets u (ends_of r)) (c.here d) ∙ here.0;
        same = ap (λ i. links_on rs u i) here.1;
      })
      (λ on.
      let f = found_in (suc j) k xs c.more on.1 in
      record {
        from = omega (arith, f.from);
        below = f.below;
        met = f.met;
        same = ap (λ ys. links_from u j (map given_of ys)) e ∙ passed_over u j x xs (and_right x.standing _ on.0)
            ∙ ap (λ ys. links_from u (suc j) (map given_of ys)) (sym c.more) ∙ f.same;
      })
      (cond_some (meets u (ends_of x)) j k (first_from u (suc j) (map ends_of xs)) h)

  pub found : (j k : ℕ) → first_on rs u j ≡ Some k → Found rs u j k
  found j k h = found_in j k (drop j rs) refl h

none_told : {V : Type 0} (u j : ℕ) (xs : List (LinkRecord V)) → first_from u j (map ends_of xs) ≡ None → links_from u j (map given_of xs) ≡ []
none_told u j [] h = refl
none_told u j (x ∷ xs) h =
    let parts = cond_none (meets u (ends_of x)) j (first_from u (suc j) (map ends_of xs)) h in
    passed_over u j x xs (and_right x.standing _ parts.0) ∙ none_told u (suc j) xs parts.1

-- from the lowest number on, the links are all that there are
pub all_told : {V : Type 0} (rs : List (LinkRecord V)) (u j : ℕ) (at : Option ℕ) → at ≡ first_on rs u j → links_at rs u at ≡ links_on rs u j
all_told rs u j None h = sym (none_told u j (drop j rs) (sym h))
all_told rs u j (Some k) h = sym (found rs u j k (sym h)).same

-- a record names the lowest number after its own, at each of its ends
pub next_of : {V : Type 0} (rs : List (LinkRecord V)) (u k : ℕ) (r : LinkRecord V) → k < length rs → r ≡ get_or rs k r → meets u (ends_of r) ≡ true → Ones rs → Others rs → next_at u r ≡ first_on rs u (suc k)
next_of rs u k r lt read met ones others =
    let one : r.next_one ≡ first_on rs r.one (suc k) = subst (λ x. x.next_one ≡ first_on rs x.one (suc k)) (sym read) (ones k r lt) in
    let other : r.next_other ≡ first_on rs r.other (suc k) = subst (λ x. x.next_other ≡ first_on rs x.other (suc k)) (sym read) (others k r lt) in
    ⊎_elim
    (λ t. cond-true (eqb r.one u) _ _ t ∙ one ∙ ap (λ v. first_on rs v (suc k)) (eqb-true _ _ t))
    (λ f.
    let t : eqb r.other u ≡ true = ⊎_elim (λ e. absurd (both_ways _ f e)) (λ e. e) (or_cases (eqb r.one u) (eqb r.other u) met) in
    cond-false (eqb r.one u) _ _ f ∙ other ∙ ap (λ v. first_on rs v (suc k)) (eqb-true _ _ t))
    (cases_Bool (eqb r.one u))

-- and less is left from there
less_left : {V : Type 0} (rs : List (LinkRecord V)) (u k : ℕ) (next : Option ℕ) → k < length rs → next ≡ first_on rs u (suc k) → left_at rs next < length rs - k
less_left rs u k None lt h = omega arith
less_left rs u k (Some n) lt h = let f = found rs u (suc k) n (sym h) in omega (arith, f.from, f.below)

-- a walk that started at `start` and has come to `at`
pub record Walked {V : Type 0} (rs : List (LinkRecord V)) (u : ℕ) (start at : Option ℕ) : Type 0 where
  pub from : ℕ
  pub chained : at ≡ first_on rs u from
  pub left : (j : ℕ) → start ≡ first_on rs u j → first (links_at rs u at) ≡ first (links_on rs u j)

module _ {V : Type 0} (rs : List (LinkRecord V)) (u : ℕ) (start : Option ℕ) where
  pub set_out : ((j : ℕ) × (start ≡ first_on rs u j)) → Walked rs u start start
  set_out h = record { from = h.0; chained = h.1; left = λ j e. ap first (all_told rs u j start e) }

  module _ (at : Option ℕ) (k : ℕ) (is : at ≡ Some k) (w : Walked rs u start at) where
    here : Found rs u w.from k
    here = found rs u w.from k (sym w.chained ∙ is)

    pub below : k < length rs
    below = here.below

    module _ (r : LinkRecord V) (read : r ≡ get_or rs k r) where
      met : meets u (ends_of r) ≡ true
      met = ap (λ x. meets u (ends_of x)) read ∙ here.met r

      cut_here : drop k rs ≡ r ∷ drop (suc k) rs
      cut_here = drop-cons rs k r below ∙ ap (λ x. x ∷ drop (suc k) rs) (sym read)

      pub standing_told : r.standing ≡ true → (j : ℕ) → start ≡ first_on rs u j → Some (told u k (given_of r)) ≡ first (links_on rs u j)
      standing_told s j e =
          let more = links_on rs u (suc k) in
          sym (ap first (ap (λ xs. links_from u k (map given_of xs)) cut_here ∙ cond-true (r.standing && meets u (ends_of r)) (told u k (given_of r) ∷ more) more (and_from _ _ s met)))
          ∙ ap (λ o. first (links_at rs u o)) (sym is) ∙ w.left j e

      module _ (ones : Ones rs) (others : Others rs) (next : Option ℕ) (asked : next ≡ next_at u r) where
        next_is : next ≡ first_on rs u (suc k)
        next_is = asked ∙ next_of rs u k r below read met ones others

        pub falls : left_at rs next < left_at rs at
        falls = rw is (less_left rs u k next below next_is)

        pub walked_on : r.standing ≡ false → Walked rs u start next
        walked_on s = record {
          from = suc k;
          chained = next_is;
          left = λ j e.
              ap first (all_told rs u (suc k) next next_is ∙ sym (ap (λ xs. links_from u k (map given_of xs)) cut_here ∙ passed_over u k r (drop (suc k) rs) (and_left _ _ s)))
              ∙ ap (λ o. first (links_at rs u o)) (sym is) ∙ w.left j e;
        }
