-- What the answers by numbers alone mean for figures.
use Rattle.std.proofs.Common.{◌≡◌, ℕ, true, false, not, is_some, Some, None, Option, sym, ap, ◌∙◌, subst, ⊎_elim}
use Rattle.std.proofs.lemmas.Bool.{true≢false}
use Rattle.weight.specs.Algebra.{Algebra, AtMost}
use Rattle.network.specs.Walks.{total, Below}
use Rattle.oracle.specs.Laws.{together, is_below, MeetsBelowRadii, ExactBelowRadii, NoFigure, OfAWalk, OnlyJoined, OnlyUnjoined, NotBoth}
use Rattle.oracle.specs.Radius.{radius_of}
use Rattle.oracle.specs.Rule.{Meets, lesser}
use Rattle.oracle.proofs.Crossing.{Far}
use Rattle.oracle.proofs.Stretch.{crossed, below_far, of_a_walk, at_most_twice, exact_below, some_total, of_totals, not_true}
use Rattle.oracle.proofs.Unique.{one_figure}

module _ {V : Type 0} (k : Algebra V) where
  is_below_true : (x : V) (limit : Option V) → is_below k x limit ≡ true → Below k x limit
  is_below_true x None t = tt
  is_below_true x (Some l) t = t

  pub meets_below_radii : (x : V) (one other : Option V) → is_below k x (together k one other) ≡ true → MeetsBelowRadii k x one other
  meets_below_radii x one other below g sound hubs s t meeting hub two es et ls w e =
      subst (λ (a : Option V). (m : V) × Meets k g s t a other m × AtMost k m x) es
      (subst (λ (b : Option V). (m : V) × Meets k g s t (radius_of two.near_s) b m × AtMost k m x) et
      (⊎_elim
      (λ (a : (m : V) × Meets k g s t (radius_of two.near_s) (radius_of two.near_t) m × AtMost k m (total k ls)). (a.0, a.1, subst (AtMost k a.0) e a.2))
      (λ (far : Far k (radius_of two.near_s) (radius_of two.near_t) (total k ls)).
      absurd (true≢false (sym (below_far k (radius_of two.near_s) (radius_of two.near_t) x (total k ls) known far) ∙ ap (k.less x) e ∙ k.irrefl x)))
      (crossed k g sound hubs s t meeting hub two ls w)))
    where
      known : Below k x (together k (radius_of two.near_s) (radius_of two.near_t))
      known =
          subst (λ (a : Option V). Below k x (together k a (radius_of two.near_t))) (sym es)
          (subst (λ (b : Option V). Below k x (together k one b)) (sym et) (is_below_true x (together k one other) below))

  pub exact_below_radii : (x : V) (one other : Option V) → is_below k x (together k one other) ≡ true → (d : V) → ExactBelowRadii k d x one other
  exact_below_radii x one other below d g sound hubs s t manner figure near_s near_t rs rt es et ls w e =
      exact_below k g sound hubs s t d manner figure near_s near_t rs rt ls w
      (subst (λ (a : Option V). Below k (total k ls) (together k a (radius_of near_t))) (sym es)
      (subst (λ (b : Option V). Below k (total k ls) (together k one b)) (sym et)
      (subst (λ (y : V). Below k y (together k one other)) (sym e) (is_below_true x (together k one other) below))))

  pub no_figure : (d x : V) → not (k.less (k.plus x x) d) ≡ false → NoFigure k d x
  no_figure d x f g sound hubs s t manner figure ls w e =
      true≢false (sym (not_true (k.less (k.plus x x) d) f) ∙ ap (λ (y : V). k.less (k.plus y y) d) (sym e) ∙ at_most_twice k g sound hubs s t d manner figure ls w)

  pub figure_of_a_walk : (d : V) (manner : ℕ) → OfAWalk k d manner
  figure_of_a_walk d manner g sound hubs s t figure = of_a_walk k g sound hubs s t d manner figure

  module _ (meeting hub : Option V) where
    pub only_joined : (o : Option (V × ℕ)) → lesser k meeting hub ≡ o → is_some o ≡ true → OnlyJoined k meeting hub
    only_joined None e t = absurd (true≢false (sym t))
    only_joined (Some f) e t = λ g sound hubs s t' two. let w = of_totals k g sound hubs s t' meeting hub two f.0 f.1 e in (w.0, w.1)

    pub only_unjoined : (o : Option (V × ℕ)) → lesser k meeting hub ≡ o → is_some o ≡ false → OnlyUnjoined k meeting hub
    only_unjoined None e f = λ g sound hubs s t two. some_total k g sound hubs s t meeting hub two e
    only_unjoined (Some x) e f = absurd (true≢false f)

  pub not_both : (one other : V × ℕ) → (one ≡ other → ⊥) → NotBoth k one other
  not_both one other ne g sound hubs s t p q = ne (one_figure k g hubs s t one other p q)
