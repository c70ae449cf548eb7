-- A new link comes into the chains of its two sites.
use Rattle.std.proofs.Common.{◌≡◌, ℕ, suc, ◌<◌, ◌≤◌, true, false, cond, eqb, List, [], ◌∷◌, ◌++◌, map, length, get_or, drop, Some, None, Option, sym, refl, ap, ◌∙◌, ⊎_elim, arith, length-drop}
use lib.ListN.{length-map}
use lib.Seq.{drop-append-le}
use Rattle.std.proofs.lemmas.List.{drop_all, get_or_append_left, get_or_push, get_or-map, length_push, drop-map}
use Rattle.std.proofs.lemmas.Bool.{cases_lt, cases_eq, cond-true, cond-false, or_left, or_right, eq-eqb, ne_eqb}
use Rattle.register.specs.Chains.{ends_of, meets, first_from, last_from, or_else, with_next, pointed}
use Rattle.register.specs.declared.memory.LinkRecord.{LinkRecord}
use Rattle.network.proofs.Alterations.{length-altered, get_or-altered_same, get_or-altered_other}
use Rattle.register.proofs.Firsts.{or_else_empty, or_else_there, first_push, last_found, last_is}

-- one of the two sides of a record: an end, and the number that follows there
pub record Side (V : Type 0) : Type 0 where
  pub end : LinkRecord V → ℕ
  pub next : LinkRecord V → Option ℕ
  pub met : (r : LinkRecord V) → meets (end r) (ends_of r) ≡ true
  pub end_stays : (u n : ℕ) (r : LinkRecord V) → end (with_next u n r) ≡ end r
  pub next_put : (u n : ℕ) (r : LinkRecord V) → next (with_next u n r) ≡ cond (eqb (end r) u) (Some n) (next r)

abbrev pub one_side : {V : Type 0} → Side V
one_side = record {
  end = λ r. r.one;
  next = λ r. r.next_one;
  met = λ r. or_left _ _ (eq-eqb r.one r.one refl);
  end_stays = λ u n r. refl;
  next_put = λ u n r. refl;
}

abbrev pub other_side : {V : Type 0} → Side V
other_side = record {
  end = λ r. r.other;
  next = λ r. r.next_other;
  met = λ r. or_right _ _ (eq-eqb r.other r.other refl);
  end_stays = λ u n r. refl;
  next_put = λ u n r. refl;
}

-- each record names the lowest number after its own, as `Ones` and `Others` say
abbrev pub Nexts : {V : Type 0} → Side V → List (LinkRecord V) → Type 0
Nexts {V} s rs = (i : ℕ) (d : LinkRecord V) → i < length rs → s.next (get_or rs i d) ≡ first_from (s.end (get_or rs i d)) (suc i) (map ends_of (drop (suc i) rs))

-- the same of the records at the site u, among links with the ends es
abbrev pub Named : {V : Type 0} → Side V → ℕ → List (ℕ × ℕ) → List (LinkRecord V) → Type 0
Named {V} s u es rs = (k : ℕ) (d : LinkRecord V) → k < length rs → s.end (get_or rs k d) ≡ u → s.next (get_or rs k d) ≡ first_from u (suc k) (drop (suc k) es)

-- one more link at the end, seen from a number below it, and from its own
grown : (u k n : ℕ) (es : List (ℕ × ℕ)) (e : ℕ × ℕ) → n ≡ length es → k < n → first_from u (suc k) (drop (suc k) (es ++ e ∷ [])) ≡ or_else (first_from u (suc k) (drop (suc k) es)) (cond (meets u e) (Some n) None)
grown u k n es e same lt =
    ap (first_from u (suc k)) (drop-append-le (suc k) es (e ∷ []) (omega arith)) ∙ first_push u (suc k) n (drop (suc k) es) e (omega (arith, length-drop (suc k) es))

at_end : (u k : ℕ) (es : List (ℕ × ℕ)) → length es ≤ suc k → first_from u (suc k) (drop (suc k) es) ≡ None
at_end u k es le = ap (first_from u (suc k)) (drop_all (suc k) es le)

module _ {V : Type 0} (s : Side V) (u : ℕ) where
  pub named_of : (rs : List (LinkRecord V)) → Nexts s rs → Named s u (map ends_of rs) rs
  named_of rs h k d lt at =
      h k d lt ∙ ap (λ v. first_from v (suc k) (map ends_of (drop (suc k) rs))) at ∙ ap (first_from u (suc k)) (sym (drop-map ends_of (suc k) rs))

  -- the new record, which names no number yet
  pub named_push : (es : List (ℕ × ℕ)) (rs : List (LinkRecord V)) (r : LinkRecord V) → length es ≡ length rs → s.next r ≡ None → Named s u es rs → Named s u es (rs ++ r ∷ [])
  named_push es rs r same none h k d lt at =
      ⊎_elim
      (λ b. let e = get_or_append_left rs (r ∷ []) d k b in ap s.next e ∙ h k d b (ap s.end (sym e) ∙ at))
      (λ b.
      let l : length rs ≡ k = omega (arith, length_push rs r) in
      ap s.next (get_or_push rs r d k l) ∙ none ∙ sym (at_end u k es (omega arith)))
      (cases_lt k (length rs))

  -- a site that the new link does not meet
  pub named_unmet : (es : List (ℕ × ℕ)) (e : ℕ × ℕ) (rs : List (LinkRecord V)) → length rs ≡ suc (length es) → meets u e ≡ false → Named s u es rs → Named s u (es ++ e ∷ []) rs
  named_unmet es e rs l unmet h k d lt at =
      h k d lt at
      ∙ ⊎_elim
      (λ b. sym (grown u k (length es) es e refl b ∙ ap (or_else _) (cond-false (meets u e) _ _ unmet) ∙ or_else_empty _))
      (λ b. at_end u k es (omega arith) ∙ sym (at_end u k (es ++ e ∷ []) (omega (arith, length_push es e))))
      (cases_lt k (length es))

  -- a site whose chain's last record is given the number n
  module _ (n : ℕ) (es : List (ℕ × ℕ)) (e : ℕ × ℕ) (rs : List (LinkRecord V)) (size : n ≡ length es) (ends : map ends_of rs ≡ es ++ e ∷ []) (met : meets u e ≡ true) (h : Named s u es rs) where
    size_all : length rs ≡ suc n
    size_all = sym (length-map rs ends_of) ∙ ap length ends ∙ length_push es e ∙ omega arith

    met_at : (k : ℕ) (d : LinkRecord V) → k < n → s.end (get_or rs k d) ≡ u → meets u (get_or es k (ends_of d)) ≡ true
    met_at k d lt at =
        ap (meets u) (sym (get_or_append_left es (e ∷ []) (ends_of d) k (omega arith)) ∙ ap (λ xs. get_or xs k (ends_of d)) (sym ends) ∙ get_or-map ends_of rs k d (ends_of d) (omega (arith, size_all)))
        ∙ ap (λ v. meets v (ends_of (get_or rs k d))) (sym at) ∙ s.met (get_or rs k d)

    -- a record that is not the last one at u names what it named
    not_last : (k : ℕ) (d : LinkRecord V) → k < length rs → s.end (get_or rs k d) ≡ u → (last_from u 0 es ≡ Some k → ⊥) → s.next (get_or rs k d) ≡ first_from u (suc k) (drop (suc k) (es ++ e ∷ []))
    not_last k d lt at differs =
        h k d lt at
        ∙ ⊎_elim
        (λ b.
        let there = or_else_there (first_from u (suc k) (drop (suc k) es)) (cond (meets u e) (Some n) None) (λ none. differs (last_is u 0 k k es (ends_of d) (omega arith) (omega arith) (met_at k d b at) none)) in
        sym (grown u k n es e size b ∙ there))
        (λ b. at_end u k es (omega arith) ∙ sym (at_end u k (es ++ e ∷ []) (omega (arith, length_push es e))))
        (cases_lt k n)

    -- the last one names n
    the_last : (k : ℕ) (d : LinkRecord V) → k < length rs → s.end (with_next u n (get_or rs k d)) ≡ u → last_from u 0 es ≡ Some k → s.next (with_next u n (get_or rs k d)) ≡ first_from u (suc k) (drop (suc k) (es ++ e ∷ []))
    the_last k d lt at last =
        let l = last_found u 0 k es last in
        let p : k ≡ l.place = omega (arith, l.number) in
        let here : s.end (get_or rs k d) ≡ u = sym (s.end_stays u n (get_or rs k d)) ∙ at in
        let none : first_from u (suc k) (drop (suc k) es) ≡ None = ap (λ i. first_from u (suc k) (drop (suc i) es)) p ∙ l.none_follows in
        s.next_put u n (get_or rs k d) ∙ cond-true (eqb (s.end (get_or rs k d)) u) _ _ (eq-eqb _ _ here)
        ∙ sym (grown u k n es e size (omega (arith, l.below)) ∙ ap (λ o. or_else o (cond (meets u e) (Some n) None)) none ∙ cond-true (meets u e) _ _ met)

    named_pointed_at : (o : Option ℕ) → last_from u 0 es ≡ o → Named s u (es ++ e ∷ []) (pointed u n o rs)
    named_pointed_at None last k d lt at = not_last k d lt at (λ some. let z : ◌≡◌ {A = ℕ} 0 1 = cc in omega arith)
    named_pointed_at (Some i) last k d lt at =
        let lt' : k < length rs = omega (arith, length-altered (with_next u n) i rs) in
        ⊎_elim
        (λ same.
        let here : get_or (altered_at i) k d ≡ with_next u n (get_or rs k d) = ap (λ j. get_or (altered_at j) k d) (sym same) ∙ get_or-altered_same (with_next u n) rs k d lt' in
        ap s.next here ∙ the_last k d lt' (ap s.end (sym here) ∙ at) (last ∙ ap Some (sym same)))
        (λ ne.
        let there = get_or-altered_other (with_next u n) rs i k d ne in
        ap s.next there ∙ not_last k d lt' (ap s.end (sym there) ∙ at) (λ some. ne (let both : Some k ≡ Some i = sym some ∙ last in cc)))
        (cases_eq k i)
      where
        altered_at : ℕ → List (LinkRecord V)
        altered_at j = pointed u n (Some j) rs

    pub named_pointed : Named s u (es ++ e ∷ []) (pointed u n (last_from u 0 es) rs)
    named_pointed = named_pointed_at (last_from u 0 es) refl

  -- a site that is not the one whose chain was changed
  pub named_elsewhere : (v n : ℕ) (o : Option ℕ) (es : List (ℕ × ℕ)) (rs : List (LinkRecord V)) → (u ≡ v → ⊥) → Named s u es rs → Named s u es (pointed v n o rs)
  named_elsewhere v n None es rs ne h k d lt at = h k d lt at
  named_elsewhere v n (Some i) es rs ne h k d lt at =
      let lt' : k < length rs = omega (arith, length-altered (with_next v n) i rs) in
      ⊎_elim
      (λ same.
      let here : get_or (pointed v n (Some i) rs) k d ≡ with_next v n (get_or rs k d) = ap (λ j. get_or (pointed v n (Some j) rs) k d) (sym same) ∙ get_or-altered_same (with_next v n) rs k d lt' in
      let end : s.end (get_or rs k d) ≡ u = sym (s.end_stays v n (get_or rs k d)) ∙ ap s.end (sym here) ∙ at in
      ap s.next here ∙ s.next_put v n (get_or rs k d) ∙ cond-false (eqb (s.end (get_or rs k d)) v) _ _ (ne_eqb _ _ (λ x. ne (sym end ∙ x))) ∙ h k d lt' end)
      (λ differ. let there = get_or-altered_other (with_next v n) rs i k d differ in ap s.next there ∙ h k d lt' (ap s.end (sym there) ∙ at))
      (cases_eq k i)

-- of all sites together, where each end is one of them
pub nexts_of : {V : Type 0} (s : Side V) (sites : ℕ) (es : List (ℕ × ℕ)) (rs : List (LinkRecord V)) → map ends_of rs ≡ es → ((i : ℕ) (d : LinkRecord V) → i < length rs → s.end (get_or rs i d) < sites) → ((u : ℕ) → u < sites → Named s u es rs) → Nexts s rs
nexts_of s sites es rs ends inside h i d lt =
    h (s.end (get_or rs i d)) (inside i d lt) i d lt refl ∙ ap (first_from (s.end (get_or rs i d)) (suc i)) (ap (drop (suc i)) (sym ends) ∙ drop-map ends_of (suc i) rs)
