-- A register's memory after a link was added.
use Rattle.std.proofs.Common.{◌≡◌, ℕ, suc, ◌+◌, ◌<◌, true, false, List, [], ◌∷◌, ◌++◌, map, length, get_or, take, drop, set, Some, None, sym, refl, ap, ◌∙◌, subst, ⊎_elim, arith, length-set, length-take-le, drop-set-lt}
use lib.ListN.{length-map}
use Rattle.std.proofs.lemmas.List.{get_or_append_left, get_or_push, get_or-map, length_push, map_push, take_more_set}
use Rattle.std.proofs.lemmas.Bool.{cases_lt, cases_eq, or_from, or_left, or_right, eq-eqb, ne_eqb}
use Rattle.register.specs.Chains.{ends_of, meets, first_from, last_from, with_next}
use Rattle.network.specs.Registers.{Given, with_link, with_given}
use Rattle.register.specs.Memories.{Memory, Spared, given_of, meaning, memory_of, no_chain, records_of, register_meaning}
use Rattle.register.specs.declared.Register.{Register}
use Rattle.register.specs.declared.memory.LinkRecord.{LinkRecord}
use Rattle.register.specs.declared.memory.SiteChain.{SiteChain}
use Rattle.register.proofs.Joins.{one_side, other_side, named_of, nexts_of}
use Rattle.register.proofs.Keeping.{Kept}
use Rattle.register.proofs.Sites.{Site, Appended, chains_length, records_length, chains_spared, records_spared, records_unseen, at_front, last_below, here, elsewhere, unmet, put_last}

-- what a meaning is made of
pub same_meaning : {V : Type 0} (m m' : Memory V) (xs : List (Given V)) → m'.sites ≡ m.sites → m'.places ≡ m.places → length m'.chains ≡ length m.chains → length m'.records ≡ length m.records
    → map given_of (records_of m') ≡ xs → meaning m' ≡ with_given (meaning m) xs
same_meaning m m' xs sites places site_room link_room given = λ i. record { sites = sites i; places = places i; site_room = site_room i; link_room = link_room i; given = given i }

-- the record of a new link
abbrev pub fresh : {V : Type 0} → ℕ → ℕ → V → LinkRecord V
fresh a b w = record { one = a; other = b; weight = w; standing = true; next_one = None; next_other = None }

-- the memory of a register with these chains and records, and one more link given
abbrev pub one_more : {V : Type 0} → Register V → List SiteChain → List (LinkRecord V) → Memory V
one_more x cs rs = record { sites = x.sites; places = x.places; used = x.used + 1; chains = cs; records = rs }

-- what a register knows of one of its sites
pub kept_site : {V : Type 0} (x : Register V) (u : ℕ) → u < x.sites → Site u (map ends_of (records_of (memory_of x))) x.chains.now (records_of (memory_of x))
kept_site x u lt = record {
  first = x.firsts u lt;
  last = x.lasts u lt;
  ones = named_of one_side u (records_of (memory_of x)) x.ones;
  others = named_of other_side u (records_of (memory_of x)) x.others;
}

pub given_size : {V : Type 0} (x : Register V) → length (records_of (memory_of x)) ≡ x.used
given_size x = let s = x.sized in length-take-le x.used x.records.now (omega arith)

pub given_count : {V : Type 0} (x : Register V) → length (register_meaning x).given ≡ x.used
given_count x = length-map (records_of (memory_of x)) given_of ∙ given_size x

-- a link was added
pub record Added {V : Type 0} (m : Memory V) (a b : ℕ) (w : V) (m' : Memory V) : Type 0 where
  pub means : meaning m' ≡ with_link (meaning m) a b w
  pub kept : Kept m'
  pub spared : Spared m m'

module _ {V : Type 0} (x : Register V) (room : x.used < x.places) (a b : ℕ) (w : V) (in_a : a < x.sites) (in_b : b < x.sites) where
  abbrev ends : List (ℕ × ℕ)
  ends = map ends_of (records_of (memory_of x))

  abbrev written : List (LinkRecord V)
  written = set x.records.now x.used (fresh a b w)

  ends_size : length ends ≡ x.used
  ends_size = length-map (records_of (memory_of x)) ends_of ∙ given_size x

  front : take (x.used + 1) written ≡ records_of (memory_of x) ++ fresh a b w ∷ []
  front = let s = x.sized in take_more_set x.records.now x.used (fresh a b w) (omega arith)

  map-front : {Y : Type 0} (h : LinkRecord V → Y) → map h (take (x.used + 1) written) ≡ map h (records_of (memory_of x)) ++ h (fresh a b w) ∷ []
  map-front h = ap (map h) front ∙ map_push h (records_of (memory_of x)) (fresh a b w)

  front_size : length (take (x.used + 1) written) ≡ suc (length ends)
  front_size = ap length front ∙ length_push (records_of (memory_of x)) (fresh a b w) ∙ omega (arith, given_size x, ends_size)

  -- each site as the new record is written, before its number comes into a chain
  started : (u : ℕ) → u < x.sites → Site u ends x.chains.now (take (x.used + 1) written)
  started u lt =
      subst (λ xs. Site u ends x.chains.now xs) (sym front)
      (put_last u ends x.chains.now (records_of (memory_of x)) (fresh a b w) (length-map (records_of (memory_of x)) ends_of) refl refl (kept_site x u lt))

  -- the chains and the records as they have to be in the end
  pub record Joined (cs : List SiteChain) (rs : List (LinkRecord V)) : Type 0 where
    pub sites : (u : ℕ) → u < x.sites → Site u (ends ++ (a, b) ∷ []) cs (take (x.used + 1) rs)
    pub met : map ends_of (take (x.used + 1) rs) ≡ ends ++ (a, b) ∷ []
    pub given : map given_of (take (x.used + 1) rs) ≡ map given_of (records_of (memory_of x)) ++ given_of (fresh a b w) ∷ []
    pub chains_size : length cs ≡ length x.chains.now
    pub records_size : length rs ≡ length x.records.now
    pub chains_left : drop x.sites cs ≡ drop x.sites x.chains.now
    pub records_left : drop x.places rs ≡ drop x.places x.records.now

  below : (u i : ℕ) (d : SiteChain) → u < x.sites → (get_or x.chains.now u d).last ≡ Some i → i < x.used
  below u i d lt e = omega (arith, ends_size, last_below u i ends x.chains.now (records_of (memory_of x)) d (kept_site x u lt) e)

  -- what the call for the first site asks
  pub last_inside : (i : ℕ) (d : SiteChain) → (get_or x.chains.now a d).last ≡ Some i → i < length written
  last_inside i d e = let s = x.sized in omega (arith, below a i d in_a e, length-set x.records.now x.used (fresh a b w))

  pub site_inside : a < length x.chains.now
  site_inside = let s = x.sized in omega arith

  module _ (cs : List SiteChain) (rs : List (LinkRecord V)) (first : Appended a x.used x.chains.now cs written rs) where
    at_start : Appended a x.used x.chains.now cs (take (x.used + 1) written) (take (x.used + 1) rs)
    at_start = at_front a x.used x.chains.now cs written rs first (x.used + 1)

    first_told : {Y : Type 0} (h : LinkRecord V → Y) → ((u n : ℕ) (r : LinkRecord V) → h (with_next u n r) ≡ h r) → map h (take (x.used + 1) rs) ≡ map h (records_of (memory_of x)) ++ h (fresh a b w) ∷ []
    first_told h unseen = records_unseen a x.used x.chains.now cs _ _ at_start h unseen ∙ map-front h

    first_here : Site a (ends ++ (a, b) ∷ []) cs (take (x.used + 1) rs)
    first_here =
        here a x.used x.chains.now cs _ _ at_start ends (a, b) site_inside (sym ends_size) (map-front ends_of) (or_left _ _ (eq-eqb a a refl)) (started a in_a)

    first_elsewhere : (u : ℕ) → u < x.sites → (u ≡ a → ⊥) → Site u ends cs (take (x.used + 1) rs)
    first_elsewhere u lt ne = elsewhere a x.used x.chains.now cs _ _ at_start u ends ne (started u lt)

    first_size : length (take (x.used + 1) rs) ≡ suc (length ends)
    first_size = records_length a x.used x.chains.now cs _ _ at_start ∙ front_size

    first_chains : length cs ≡ length x.chains.now
    first_chains = chains_length a x.used x.chains.now cs written rs first

    first_records : length rs ≡ length x.records.now
    first_records = records_length a x.used x.chains.now cs written rs first ∙ length-set x.records.now x.used (fresh a b w)

    first_chains_left : drop x.sites cs ≡ drop x.sites x.chains.now
    first_chains_left = chains_spared a x.used x.chains.now cs written rs first x.sites in_a

    first_records_left : drop x.places rs ≡ drop x.places x.records.now
    first_records_left =
        records_spared a x.used x.chains.now cs written rs first x.places (λ i e. omega (arith, below a i no_chain in_a e))
        ∙ drop-set-lt x.places x.records.now x.used (fresh a b w) room

    apart : (u : ℕ) → (u ≡ a → ⊥) → (u ≡ b → ⊥) → meets u (a, b) ≡ false
    apart u not_a not_b = or_from _ _ (ne_eqb a u (λ e. not_a (sym e))) (ne_eqb b u (λ e. not_b (sym e)))

    -- both ends are one site
    pub one_joined : b ≡ a → Joined cs rs
    one_joined same = record {
      sites = λ u lt.
          ⊎_elim
          (λ e. subst (λ v. Site v (ends ++ (a, b) ∷ []) cs (take (x.used + 1) rs)) (sym e) first_here)
          (λ ne. unmet u ends (a, b) cs (take (x.used + 1) rs) first_size (apart u ne (λ e. ne (e ∙ same))) (first_elsewhere u lt ne))
          (cases_eq u a);
      met = first_told ends_of (λ u n r. refl);
      given = first_told given_of (λ u n r. refl);
      chains_size = first_chains;
      records_size = first_records;
      chains_left = first_chains_left;
      records_left = first_records_left;
    }

    -- the ends are two sites
    module _ (differ : b ≡ a → ⊥) where
      -- what the call for the second site asks
      pub second_last_inside : (i : ℕ) (d : SiteChain) → (get_or cs b d).last ≡ Some i → i < length rs
      second_last_inside i d e =
          let s = x.sized in
          omega (arith, first_records, ends_size, last_below b i ends cs (take (x.used + 1) rs) d (first_elsewhere b in_b differ) e)

      pub second_inside : b < length cs
      second_inside = let s = x.sized in omega (arith, first_chains)

      module _ (cs' : List SiteChain) (rs' : List (LinkRecord V)) (second : Appended b x.used cs cs' rs rs') where
        at_second : Appended b x.used cs cs' (take (x.used + 1) rs) (take (x.used + 1) rs')
        at_second = at_front b x.used cs cs' rs rs' second (x.used + 1)

        second_told : {Y : Type 0} (h : LinkRecord V → Y) → ((u n : ℕ) (r : LinkRecord V) → h (with_next u n r) ≡ h r) → map h (take (x.used + 1) rs') ≡ map h (records_of (memory_of x)) ++ h (fresh a b w) ∷ []
        second_told h unseen = records_unseen b x.used cs cs' _ _ at_second h unseen ∙ first_told h unseen

        second_size : length (take (x.used + 1) rs') ≡ suc (length ends)
        second_size = records_length b x.used cs cs' _ _ at_second ∙ first_size

        second_here : Site b (ends ++ (a, b) ∷ []) cs' (take (x.used + 1) rs')
        second_here =
            here b x.used cs cs' _ _ at_second ends (a, b) second_inside (sym ends_size) (first_told ends_of (λ u n r. refl)) (or_right _ _ (eq-eqb b b refl)) (first_elsewhere b in_b differ)

        second_elsewhere : (u : ℕ) (es : List (ℕ × ℕ)) → (u ≡ b → ⊥) → Site u es cs (take (x.used + 1) rs) → Site u es cs' (take (x.used + 1) rs')
        second_elsewhere u es ne s = elsewhere b x.used cs cs' _ _ at_second u es ne s

        pub two_joined : Joined cs' rs'
        two_joined = record {
          sites = λ u lt.
              ⊎_elim
              (λ e. subst (λ v. Site v (ends ++ (a, b) ∷ []) cs' (take (x.used + 1) rs')) (sym e) (second_elsewhere a (ends ++ (a, b) ∷ []) (λ x. differ (sym x)) first_here))
              (λ not_a.
              ⊎_elim
              (λ e. subst (λ v. Site v (ends ++ (a, b) ∷ []) cs' (take (x.used + 1) rs')) (sym e) second_here)
              (λ not_b. unmet u ends (a, b) cs' (take (x.used + 1) rs') second_size (apart u not_a not_b) (second_elsewhere u ends not_b (first_elsewhere u lt not_a)))
              (cases_eq u b))
              (cases_eq u a);
          met = second_told ends_of (λ u n r. refl);
          given = second_told given_of (λ u n r. refl);
          chains_size = chains_length b x.used cs cs' rs rs' second ∙ first_chains;
          records_size = records_length b x.used cs cs' rs rs' second ∙ first_records;
          chains_left = chains_spared b x.used cs cs' rs rs' second x.sites in_b ∙ first_chains_left;
          records_left =
              records_spared b x.used cs cs' rs rs' second x.places (λ i e. omega (arith, ends_size, last_below b i ends cs (take (x.used + 1) rs) no_chain (first_elsewhere b in_b differ) e))
              ∙ first_records_left;
        }

  -- ---- the whole memory

  module _ (cs : List SiteChain) (rs : List (LinkRecord V)) (joined : Joined cs rs) where
    abbrev all : List (LinkRecord V)
    all = take (x.used + 1) rs

    abbrev End : ℕ × ℕ → Type 0
    End e = (e.0 < x.sites) × (e.1 < x.sites)

    inside : (i : ℕ) (d : LinkRecord V) → i < length all → End (ends_of (get_or all i d))
    inside i d lt =
        let read : ends_of (get_or all i d) ≡ get_or (ends ++ (a, b) ∷ []) i (ends_of d) = sym (get_or-map ends_of all i d (ends_of d) lt) ∙ ap (λ es. get_or es i (ends_of d)) joined.met in
        subst End (sym read)
        (⊎_elim
        (λ l.
        let old : get_or (ends ++ (a, b) ∷ []) i (ends_of d) ≡ ends_of (get_or (records_of (memory_of x)) i d) =
        get_or_append_left ends ((a, b) ∷ []) (ends_of d) i l ∙ get_or-map ends_of (records_of (memory_of x)) i d (ends_of d) (omega (arith, ends_size, given_size x)) in
        subst End (sym old) (x.inside i d (omega (arith, ends_size, given_size x))))
        (λ l.
        let end : length ends ≡ i = omega (arith, length_push ends (a, b), sym (length-map all ends_of) ∙ ap length joined.met) in
        subst End (sym (get_or_push ends (a, b) (ends_of d) i end)) (in_a, in_b))
        (cases_lt i (length ends)))

    kept_after : Kept (one_more x cs rs)
    kept_after =
        let s = x.sized in
        record {
          sized = (omega arith, omega (arith, joined.chains_size), omega arith, omega (arith, joined.records_size), omega arith);
          inside = inside;
          firsts = λ u lt d. (joined.sites u lt).first d ∙ ap (first_from u 0) (sym joined.met);
          lasts = λ u lt d. (joined.sites u lt).last d ∙ ap (last_from u 0) (sym joined.met);
          ones = nexts_of one_side x.sites (ends ++ (a, b) ∷ []) all joined.met (λ i d lt. (inside i d lt).0) (λ u lt. (joined.sites u lt).ones);
          others = nexts_of other_side x.sites (ends ++ (a, b) ∷ []) all joined.met (λ i d lt. (inside i d lt).1) (λ u lt. (joined.sites u lt).others);
        }

    pub added : Added (memory_of x) a b w (one_more x cs rs)
    added = record {
      means = same_meaning (memory_of x) (one_more x cs rs) _ refl refl joined.chains_size joined.records_size joined.given;
      kept = kept_after;
      spared = record { chains = joined.chains_left; records = joined.records_left };
    }
