-- Rulings that depend on a test, on sites that agree, or on the network's own ruling.
use Rattle.std.proofs.Common.{◌≡◌, ℕ, Bool, true, false, cond, eqb, Some, None, Ok, Err, Result, sym, refl, ap, ◌∙◌, subst, arith}
use Rattle.std.proofs.lemmas.Bool.{cond-true, cond-false}
use Rattle.network.specs.Rulings as network
use Rattle.network.specs.Sizes.{checked}
use Rattle.network.specs.declared.fault.NetworkFault.{NetworkFault}
use Rattle.weight.specs.Algebra.{Algebra}
use Rattle.index.specs.Books.{BookState, unbuilt}
use Rattle.index.specs.Calls.{Ruling, refuse, Follows, differ, where_agreed, with_book}
use Rattle.index.specs.declared.fault.IndexFault.TheVariants.{Network, SitesDiffer}
use Rattle.index.specs.declared.fault.IndexFault.{IndexFault}

module _ {X : Type 0} (b : Bool) (x y : Ruling X) (before after : X) (r : Result ℕ IndexFault) where
  pub first_ruling : b ≡ true → Follows x before r after → Follows (cond b x y) before r after
  first_ruling e h = subst (λ z. Follows z before r after) (sym (cond-true b x y e)) h

  pub second_ruling : b ≡ false → Follows y before r after → Follows (cond b x y) before r after
  second_ruling e h = subst (λ z. Follows z before r after) (sym (cond-false b x y e)) h

-- ---- the book and the network agree in sites, or not

-- what the check of sites answered tells of its test
module _ (book_sites sites : ℕ) where
  pub differ_test : (e : IndexFault) → Err e ≡ checked (differ book_sites sites) → (eqb book_sites sites ≡ false) × (e ≡ SitesDiffer sites)
  differ_test = go (eqb book_sites sites) refl
    where
      go : (t : Bool) → eqb book_sites sites ≡ t → (e : IndexFault) → Err e ≡ checked (cond t None (Some (SitesDiffer sites))) → (eqb book_sites sites ≡ false) × (e ≡ SitesDiffer sites)
      go true h e c = let z : ◌≡◌ {A = ℕ} 0 1 = cc in absurd (omega arith)
      go false h e c = (h, cc)

  pub agree_test : Ok tt ≡ checked (differ book_sites sites) → eqb book_sites sites ≡ true
  agree_test = go (eqb book_sites sites) refl
    where
      go : (t : Bool) → eqb book_sites sites ≡ t → Ok tt ≡ checked (cond t None (Some (SitesDiffer sites))) → eqb book_sites sites ≡ true
      go true h c = h
      go false h c = let z : ◌≡◌ {A = ℕ} 0 1 = cc in absurd (omega arith)

module _ {X V : Type 0} (sites : ℕ) (b : BookState V) (ruling : Ruling X) (before : X) where
  pub not_agreed : (e : IndexFault) (r : Result ℕ IndexFault) → Err e ≡ checked (differ b.sites sites) → r ≡ Err e → Follows (where_agreed sites b ruling) before r before
  not_agreed e r c same =
      let p = differ_test b.sites sites e c in
      second_ruling (eqb b.sites sites) ruling (refuse (SitesDiffer sites)) before before r p.0 (same ∙ ap (λ f. Err f) p.1, refl)

  pub agreed : (r : Result ℕ IndexFault) (after : X) → Ok tt ≡ checked (differ b.sites sites) → Follows ruling before r after → Follows (where_agreed sites b ruling) before r after
  agreed r after c h = first_ruling (eqb b.sites sites) ruling (refuse (SitesDiffer sites)) before after r (agree_test b.sites sites c) h

-- ---- the network's ruling decides

module _ {M V : Type 0} (k : Algebra V) (b : BookState V) (m m' : M) where
  pub change_refused : (ruling : network.Ruling M) (fault : NetworkFault) (r : Result ℕ IndexFault) → network.Follows ruling m (Err fault) m' → r ≡ Err (Network fault)
      → Follows (with_book k b ruling) (m, b) r (m', b)
  change_refused (network.refuse f) fault r h same = let e : fault ≡ f = cc h.0 in (same ∙ ap (λ x. Err (Network x)) e, (λ i. (h.1 i, b)))
  change_refused (network.grant a n) fault r h same = let z : ◌≡◌ {A = ℕ} 0 1 = cc h.0 in absurd (omega arith)

  pub change_granted : (ruling : network.Ruling M) (answer : ℕ) (b' : BookState V) → network.Follows ruling m (Ok answer) m' → b' ≡ unbuilt k b
      → Follows (with_book k b ruling) (m, b) (Ok answer) (m', b')
  change_granted (network.refuse f) answer b' h is = let z : ◌≡◌ {A = ℕ} 0 1 = cc h.0 in absurd (omega arith)
  change_granted (network.grant a n) answer b' h is = let e : answer ≡ a = cc h.0 in (ap (λ x. Ok x) e, (λ i. (h.1 i, is i)))
