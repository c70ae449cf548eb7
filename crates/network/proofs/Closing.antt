-- A labelling of sites that is closed under links bounds every walk from below: what a shortest-distance search rests on.
use Rattle.std.proofs.Common.{◌≡◌, ℕ, ◌<◌, List, [], ◌∷◌, ◌++◌, Option, sym, refl, ap, ◌∙◌, subst}
use Rattle.weight.specs.Algebra.{Algebra, AtMost}
use Rattle.network.specs.Graph.{Graph, At, Sound, back}
use Rattle.network.specs.Walks.{Walk, total, Below}
use Rattle.network.specs.declared.link.Link.{Link}
use Rattle.network.proofs.Orders.{at_most_refl, at_most_trans, plus_at_most, at_most_plus, below_lower, total-append}

module _ {V : Type 0} (k : Algebra V) (g : Graph V) where
  -- ---- walks put together and turned round

  pub joined : (u v w : ℕ) (p q : List (Link V)) → Walk g u p v → Walk g v q w → Walk g u (p ++ q) w
  joined u v w [] q a b = subst (λ x. Walk g x q w) (sym a.0) b
  joined u v w (l ∷ p) q a b = (a.0, joined l.far v w p q a.1 b)

  pub end_exists : (u v : ℕ) (p : List (Link V)) → Walk g u p v → v < g.sites
  end_exists u v [] a = subst (λ x. x < g.sites) a.0 a.1
  end_exists u v (l ∷ p) a = end_exists l.far v p a.1

  -- one link more at the end of a walk
  pub walked_on : (u v : ℕ) (p : List (Link V)) (l : Link V) → Walk g u p v → At g v l → l.far < g.sites
      → Walk g u (p ++ l ∷ []) l.far × (total k (p ++ l ∷ []) ≡ k.plus (total k p) l.weight)
  walked_on u v p l a there far =
      (joined u v l.far p (l ∷ []) a (there, (refl, far)), total-append k p (l ∷ []) ∙ ap (k.plus (total k p)) (k.unit l.weight))

  module _ (sound : Sound g) where
    start_exists : (u v : ℕ) (l : Link V) (p : List (Link V)) → At g u l → Walk g l.far p v → u < g.sites
    start_exists u v l p there a = sound.far_exists l.far (back u l) (sound.both_ends u l there)

    pub turned : (u v : ℕ) (p : List (Link V)) → Walk g u p v → (q : List (Link V)) × Walk g v q u × (total k q ≡ total k p)
    turned u v [] a = ([], (sym a.0, subst (λ x. x < g.sites) a.0 a.1), refl)
    turned u v (l ∷ p) a =
        let r = turned l.far v p a.1 in
        let on = walked_on v l.far r.0 (back u l) r.1 (sound.both_ends u l a.0) (start_exists u v l p a.0 a.1) in
        (r.0 ++ back u l ∷ [], on.0, on.1 ∙ k.comm (total k r.0) l.weight ∙ ap (k.plus l.weight) r.2)

  -- ---- closed labellings

  -- S u d: the site u has the label d. A link at a labelled site leads to one whose label is no greater than the
  -- label and the link's weight added, unless these are not below the limit.
  module _ (cut : Option V) (S : ℕ → V → Type 0)
      (closed : (u : ℕ) (d : V) (l : Link V) → S u d → At g u l → Below k (k.plus d l.weight) cut → (e : V) × S l.far e × AtMost k e (k.plus d l.weight)) where
    pub labelled_on : (u v : ℕ) (d : V) (p : List (Link V)) → S u d → Walk g u p v → Below k (k.plus d (total k p)) cut → (e : V) × S v e × AtMost k e (k.plus d (total k p))
    labelled_on u v d [] s a b = (d, subst (λ x. S x d) a.0 s, subst (AtMost k d) (sym (k.unit d)) (at_most_refl k d))
    labelled_on u v d (l ∷ p) s a b =
        let sum : k.plus d (k.plus l.weight (total k p)) ≡ k.plus (k.plus d l.weight) (total k p) = sym (k.assoc d l.weight (total k p)) in
        let first = closed u d l s a.0 (below_lower k _ _ cut (at_most_plus k (k.plus d l.weight) (total k p)) (subst (λ x. Below k x cut) sum b)) in
        let bound : AtMost k (k.plus first.0 (total k p)) (k.plus d (k.plus l.weight (total k p))) =
        subst (AtMost k (k.plus first.0 (total k p))) (sym sum) (plus_at_most k first.0 (k.plus d l.weight) (total k p) (total k p) first.2 (at_most_refl k (total k p))) in
        let rest = labelled_on l.far v first.0 p first.1 a.1 (below_lower k _ _ cut bound b) in
        (rest.0, rest.1, at_most_trans k rest.0 (k.plus first.0 (total k p)) _ rest.2 bound)
