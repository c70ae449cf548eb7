-- What the rule of a register says of a change, by its tests.
use Rattle.std.proofs.Common.{◌≡◌, ℕ, zero, suc, ◌<◌, ◌≤◌, Bool, true, false, cond, ltb, leb, List, [], ◌∷◌, length, Ok, refl, ap, ◌∙◌, subst, arith}
use Rattle.std.proofs.ByRecursion.{All-push}
use Rattle.std.proofs.lemmas.List.{length_push}
use Rattle.std.proofs.lemmas.Bool.{cond-true, cond-false, le-ltb, leb-false}
use Rattle.std.specs.List.{AllByRecursion}
use Rattle.weight.specs.Algebra.{Algebra}
use Rattle.network.specs.Registers.{Given, Meaning, Valid, altered, struck, reweighed, stands, with_given, link_rule, strike_rule, reweigh_rule, rule}
use Rattle.network.specs.Rulings.{Ruling, refuse, grant, Follows}
use Rattle.network.specs.declared.fault.NetworkFault.{NetworkFault}
use Rattle.network.specs.declared.changes.RegisterChange.{RegisterChange}
use Rattle.network.specs.declared.changes.RegisterChange.TheVariants as change
use Rattle.network.proofs.Alterations.{length-altered}

module _ {V : Type 0} (k : Algebra V) (m : Meaning V) where
  pub strike_follows : (n : ℕ) (after : Meaning V) → stands n m.given ≡ true → after ≡ with_given m (altered struck n m.given) → Follows (strike_rule m n) m (Ok n) after
  strike_follows n after h is = rw (cond-true (stands n m.given) _ _ h) (refl, is)

  pub reweigh_follows : (n w : ℕ) (v : V) (after : Meaning V) → stands n m.given ≡ true → w ≤ 1000000 → v ≡ k.value w → after ≡ with_given m (altered (reweighed v) n m.given) → Follows (reweigh_rule k m n w) m (Ok n) after
  reweigh_follows n w v after h light value is =
      rw (cond-true (stands n m.given) _ _ h, cond-false (ltb 1000000 w) _ _ (le-ltb _ _ light)) (refl, is ∙ ap (λ x. with_given m (altered (reweighed x) n m.given)) value)

-- ---- what is granted is valid again

not_refused : {M : Type 0} (t : Bool) (fault : NetworkFault) (r : Ruling M) (answer : ℕ) (m : M) → cond t (refuse fault) r ≡ grant answer m → (t ≡ false) × (r ≡ grant answer m)
not_refused true fault r answer m e = cc
not_refused false fault r answer m e = (refl, e)

not_refused_else : {M : Type 0} (t : Bool) (fault : NetworkFault) (r : Ruling M) (answer : ℕ) (m : M) → cond t r (refuse fault) ≡ grant answer m → r ≡ grant answer m
not_refused_else true fault r answer m e = e
not_refused_else false fault r answer m e = cc

same_granted : {M : Type 0} (a b : ℕ) (m n : M) → grant a m ≡ grant b n → m ≡ n
same_granted a b m n e = cc

all_altered : {X : Type 0} (P : X → Type 0) (f : X → X) → ((x : X) → P x → P (f x)) → (n : ℕ) (xs : List X) → AllByRecursion P xs → AllByRecursion P (altered f n xs)
all_altered P f h n [] a = tt
all_altered P f h zero (x ∷ xs) a = (h x a.0, a.1)
all_altered P f h (suc n) (x ∷ xs) a = (a.0, all_altered P f h n xs a.1)

-- the meaning stays valid, with the same number of sites
abbrev pub Stays : {V : Type 0} → Meaning V → Meaning V → Type 0
Stays m m' = Valid m' × (m'.sites ≡ m.sites)

module _ {V : Type 0} (m : Meaning V) (valid : Valid m) where
  altered_stays : (f : Given V → Given V) → ((x : Given V) → ((f x).one ≡ x.one) × ((f x).other ≡ x.other)) → (n : ℕ) → Stays m (with_given m (altered f n m.given))
  altered_stays f same n = (
    record {
      few_sites = valid.few_sites;
      few_places = valid.few_places;
      few = omega (arith, valid.few, length-altered f n m.given);
      ends = all_altered (λ x. (x.one < m.sites) × (x.other < m.sites)) f (λ x e. let s = same x in (omega (arith, e.0, s.0), omega (arith, e.1, s.1))) n m.given valid.ends;
    },
    refl,
  )

  module _ (k : Algebra V) (m' : Meaning V) (answer : ℕ) where
    link_stays : (a b w : ℕ) → link_rule k m a b w ≡ grant answer m' → Stays m m'
    link_stays a b w e =
        let p = not_refused (leb m.sites a) _ _ answer m' e in
        let q = not_refused (leb m.sites b) _ _ answer m' p.1 in
        let r = not_refused (ltb 1000000 w) _ _ answer m' q.1 in
        let s = not_refused (leb m.places (length m.given)) _ _ answer m' r.1 in
        let x : Given V = record { one = a; other = b; weight = k.value w; standing = true } in
        subst (Stays m) (same_granted _ _ _ _ s.1) (
          record {
            few_sites = valid.few_sites;
            few_places = valid.few_places;
            few = omega (arith, length_push m.given x, leb-false _ _ s.0);
            ends = All-push (λ y. (y.one < m.sites) × (y.other < m.sites)) m.given x valid.ends (leb-false _ _ p.0, leb-false _ _ q.0);
          },
          refl,
        )

    pub stays : (c : RegisterChange) → rule k m c ≡ grant answer m' → Stays m m'
    stays (change.Link a b w) e = link_stays a b w e
    stays (change.Strike n) e = subst (Stays m) (same_granted _ _ _ _ (not_refused_else (stands n m.given) _ _ answer m' e)) (altered_stays struck (λ x. (refl, refl)) n)
    stays (change.Reweigh n w) e =
        let r = not_refused (ltb 1000000 w) _ _ answer m' (not_refused_else (stands n m.given) _ _ answer m' e) in
        subst (Stays m) (same_granted _ _ _ _ r.1) (altered_stays (reweighed (k.value w)) (λ x. (refl, refl)) n)
