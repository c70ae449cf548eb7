-- A register's memory after a link was struck or given another weight.
use Rattle.std.proofs.Common.{◌≡◌, ℕ, zero, suc, ◌<◌, ◌≤◌, false, List, [], ◌∷◌, map, length, get_or, take, drop, set, sym, refl, ap, ◌∙◌, subst, le_of_suc-le-suc, not-suc-le-zero, arith, get_or-take}
use Rattle.std.proofs.lemmas.List.{drop-map}
use Rattle.register.specs.Chains.{struck_record, reweighed_record, Inside, Ones, Others, ends_of, first_from, last_from}
use Rattle.network.specs.Registers.{Given, with_given, altered, struck, reweighed, stands}
use Rattle.register.specs.Memories.{Memory, Spared, given_of, meaning, memory_of, records_of, register_meaning}
use Rattle.register.specs.declared.Register.{Register}
use Rattle.register.specs.declared.memory.LinkRecord.{LinkRecord}
use Rattle.register.proofs.Adding.{same_meaning, given_size, given_count}
use Rattle.network.proofs.Alterations.{length-altered, take-altered, drop-altered, set-altered, map-altered, map-altered_unseen, get_or-altered_unseen}
use Rattle.register.proofs.Joins.{Side, one_side, other_side, Nexts}
use Rattle.register.proofs.Keeping.{Kept}

-- ---- whether a link stands

pub stands_past : {V : Type 0} (n : ℕ) (xs : List (Given V)) → length xs ≤ n → stands n xs ≡ false
stands_past n [] h = refl
stands_past zero (x ∷ xs) h = absurd (not-suc-le-zero h)
stands_past (suc n) (x ∷ xs) h = stands_past n xs (le_of_suc-le-suc h)

stands_in : {V : Type 0} (n : ℕ) (rs : List (LinkRecord V)) (d : LinkRecord V) → n < length rs → (get_or rs n d).standing ≡ stands n (map given_of rs)
stands_in n [] d h = absurd (not-suc-le-zero h)
stands_in zero (r ∷ rs) d h = refl
stands_in (suc n) (r ∷ rs) d h = stands_in n rs d (le_of_suc-le-suc h)

module _ {V : Type 0} (x : Register V) (n : ℕ) where
  pub not_given : x.used ≤ n → false ≡ stands n (register_meaning x).given
  not_given h = sym (stands_past n (register_meaning x).given (omega (arith, given_count x)))

  pub stands_at : (d : LinkRecord V) → n < x.used → (get_or x.records.now n d).standing ≡ stands n (register_meaning x).given
  stands_at d h = sym (ap (λ r. r.standing) (get_or-take x.used x.records.now n d h)) ∙ stands_in n (records_of (memory_of x)) d (omega (arith, given_size x))

-- ---- an alteration that leaves the ends of a link, and the numbers that it names

pub record Mild {V : Type 0} (f : LinkRecord V → LinkRecord V) : Type 0 where
  pub ends : (r : LinkRecord V) → ends_of (f r) ≡ ends_of r
  pub ones : (r : LinkRecord V) → (f r).next_one ≡ r.next_one
  pub others : (r : LinkRecord V) → (f r).next_other ≡ r.next_other

module _ {V : Type 0} (f : LinkRecord V → LinkRecord V) (mild : Mild f) (i : ℕ) where
  inside_altered : (sites : ℕ) (rs : List (LinkRecord V)) → Inside sites rs → Inside sites (altered f i rs)
  inside_altered sites rs h k d lt =
      subst (λ e. (e.0 < sites) × (e.1 < sites)) (sym (get_or-altered_unseen f ends_of mild.ends rs i k d)) (h k d (omega (arith, length-altered f i rs)))

  ends_altered : (rs : List (LinkRecord V)) → map ends_of (altered f i rs) ≡ map ends_of rs
  ends_altered rs = map-altered_unseen f ends_of mild.ends i rs

  nexts_altered : (s : Side V) → ((r : LinkRecord V) → s.end (f r) ≡ s.end r) → ((r : LinkRecord V) → s.next (f r) ≡ s.next r) → (rs : List (LinkRecord V)) → Nexts s rs → Nexts s (altered f i rs)
  nexts_altered s end next rs h k d lt =
      let before = h k d (omega (arith, length-altered f i rs)) in
      get_or-altered_unseen f s.next next rs i k d ∙ before
      ∙ ap (λ u. first_from u (suc k) (map ends_of (drop (suc k) rs))) (sym (get_or-altered_unseen f s.end end rs i k d))
      ∙ ap (λ es. first_from (s.end (get_or (altered f i rs) k d)) (suc k) es) (sym (sym (drop-map ends_of (suc k) (altered f i rs)) ∙ ap (drop (suc k)) (ends_altered rs) ∙ drop-map ends_of (suc k) rs))

-- ---- the whole memory

-- the memory with other records
abbrev pub rewritten : {V : Type 0} → Memory V → List (LinkRecord V) → Memory V
rewritten m rs = record { sites = m.sites; places = m.places; used = m.used; chains = m.chains; records = rs }

pub record Altered {V : Type 0} (m : Memory V) (xs : List (Given V)) (m' : Memory V) : Type 0 where
  pub means : meaning m' ≡ with_given (meaning m) xs
  pub kept : Kept m'
  pub spared : Spared m m'

module _ {V : Type 0} (f : LinkRecord V → LinkRecord V) (mild : Mild f) (h : Given V → Given V) (same : (r : LinkRecord V) → given_of (f r) ≡ h (given_of r))
    (x : Register V) (n : ℕ) (lt : n < x.used) (rs : List (LinkRecord V)) (written : rs ≡ altered f n x.records.now) where
  front : take x.used rs ≡ altered f n (records_of (memory_of x))
  front = ap (take x.used) written ∙ take-altered f x.used n x.records.now

  back : (P : List (LinkRecord V) → Type 0) → P (altered f n (records_of (memory_of x))) → P (take x.used rs)
  back P = subst P (sym front)

  pub altered_kept : Altered (memory_of x) (altered h n (register_meaning x).given) (rewritten (memory_of x) rs)
  altered_kept =
      let s = x.sized in
      let size = ap length written ∙ length-altered f n x.records.now in
      record {
        means = same_meaning (memory_of x) (rewritten (memory_of x) rs) _ refl refl refl size (ap (map given_of) front ∙ map-altered f given_of h same n (records_of (memory_of x)));
        kept = record {
          sized = (omega arith, omega arith, omega arith, omega (arith, size), omega arith);
          inside = back (Inside x.sites) (inside_altered f mild n x.sites (records_of (memory_of x)) x.inside);
          firsts = λ u l d. back (λ xs. (get_or x.chains.now u d).first ≡ first_from u 0 (map ends_of xs)) (x.firsts u l d ∙ ap (λ es. first_from u 0 es) (sym (ends_altered f mild n (records_of (memory_of x)))));
          lasts = λ u l d. back (λ xs. (get_or x.chains.now u d).last ≡ last_from u 0 (map ends_of xs)) (x.lasts u l d ∙ ap (λ es. last_from u 0 es) (sym (ends_altered f mild n (records_of (memory_of x)))));
          ones = back Ones (nexts_altered f mild n one_side (λ r. ap (λ e. e.0) (mild.ends r)) mild.ones (records_of (memory_of x)) x.ones);
          others = back Others (nexts_altered f mild n other_side (λ r. ap (λ e. e.1) (mild.ends r)) mild.others (records_of (memory_of x)) x.others);
        };
        spared = record { chains = refl; records = ap (drop x.places) written ∙ drop-altered f x.places n x.records.now (omega arith) };
      }

-- ---- the two alterations

module _ {V : Type 0} (x : Register V) (n : ℕ) (lt : n < x.used) (d r : LinkRecord V) where
  pub struck_kept : r ≡ struck_record (get_or x.records.now n d) → Altered (memory_of x) (altered struck n (register_meaning x).given) (rewritten (memory_of x) (set x.records.now n r))
  struck_kept e =
      let s = x.sized in
      altered_kept struck_record (record { ends = λ r. refl; ones = λ r. refl; others = λ r. refl }) struck (λ r. refl) x n lt _ (ap (set x.records.now n) e ∙ set-altered struck_record x.records.now n d (omega arith))

  pub reweighed_kept : (w : V) → r ≡ reweighed_record w (get_or x.records.now n d) → Altered (memory_of x) (altered (reweighed w) n (register_meaning x).given) (rewritten (memory_of x) (set x.records.now n r))
  reweighed_kept w e =
      let s = x.sized in
      altered_kept (reweighed_record w) (record { ends = λ r. refl; ones = λ r. refl; others = λ r. refl }) (reweighed w) (λ r. refl) x n lt _ (ap (set x.records.now n) e ∙ set-altered (reweighed_record w) x.records.now n d (omega arith))
