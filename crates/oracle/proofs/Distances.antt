-- A distance is one value, and the same in both directions.
use Rattle.std.proofs.Common.{◌≡◌, ℕ, List, ◌∙◌, subst}
use Rattle.weight.specs.Algebra.{Algebra, AtMost}
use Rattle.network.specs.Graph.{Graph, Sound}
use Rattle.network.specs.Walks.{Walk, total, Distance, Unjoined}
use Rattle.network.specs.declared.link.Link.{Link}
use Rattle.network.proofs.Closing.{turned}
use Rattle.network.proofs.Orders.{at_most_both}

module _ {V : Type 0} (k : Algebra V) (g : Graph V) where
  -- a walk bounds the distance, also where its total is known by another name
  pub distance_at_most : (u v : ℕ) (d e : V) → Distance k g u v d → (ls : List (Link V)) → Walk g u ls v → total k ls ≡ e → AtMost k d e
  distance_at_most u v d e p ls w t = subst (AtMost k d) t (p.least ls w)

  pub one_distance : (u v : ℕ) (d e : V) → Distance k g u v d → Distance k g u v e → d ≡ e
  one_distance u v d e p q =
      at_most_both k d e (distance_at_most u v d e p q.walk q.joins q.totals) (distance_at_most u v e d q p.walk p.joins p.totals)

  module _ (sound : Sound g) where
    pub unjoined_turned : (u v : ℕ) → Unjoined g u v → Unjoined g v u
    unjoined_turned u v none ls w = let back = turned k g sound v u ls w in none back.0 back.1

    pub distance_turned : (u v : ℕ) (d : V) → Distance k g u v d → Distance k g v u d
    distance_turned u v d p =
        let back = turned k g sound u v p.walk p.joins in
        record {
          walk = back.0;
          joins = back.1;
          totals = back.2 ∙ p.totals;
          least = λ ls w. let on = turned k g sound v u ls w in subst (AtMost k d) on.2 (p.least on.0 on.1);
        }
