-- The rule gives one radius and one hub, one meeting total and one hub total, and so one figure and one manner.
use Rattle.std.proofs.Common.{◌≡◌, ℕ, ◌<◌, ◌≤◌, Bool, true, false, List, Some, None, Option, sym, refl, ap, ◌∙◌, subst, ⊎_elim, arith}
use Rattle.weight.specs.Algebra.{Algebra, AtMost}
use Rattle.network.specs.Graph.{Graph}
use Rattle.network.specs.Walks.{Distance}
use Rattle.network.proofs.Orders.{at_most_both}
use Rattle.oracle.specs.Radius.{Nearest, Radius, radius_of}
use Rattle.oracle.specs.Rule.{Meeting, Through, HubTotal, HubTotalBy, no_wider, lesser, Totals, Figure}
use Rattle.oracle.proofs.Distances.{one_distance}

module _ {V : Type 0} (k : Algebra V) (g : Graph V) where
  module _ (hubs : List ℕ) (v : ℕ) where
    one_nearest : (m n : ℕ × V) → Nearest k g hubs v m.0 m.1 → Nearest k g hubs v n.0 n.1 → m ≡ n
    one_nearest m n p q = λ i. (hub i, radius i)
      where
        radius : m.1 ≡ n.1
        radius =
            at_most_both k m.1 n.1 (subst (AtMost k m.1) q.at.totals (p.no_nearer n.0 q.at.walk q.is_hub q.at.joins))
            (subst (AtMost k n.1) p.at.totals (q.no_nearer m.0 p.at.walk p.is_hub p.at.joins))

        hub : m.0 ≡ n.0
        hub =
            let low : m.0 ≤ n.0 = p.lowest n.0 q.is_hub (subst (Distance k g v n.0) (sym radius) q.at) in
            let high : n.0 ≤ m.0 = q.lowest m.0 p.is_hub (subst (Distance k g v m.0) radius p.at) in
            omega arith

    pub one_radius : (m n : Option (ℕ × V)) → Radius k g hubs v m → Radius k g hubs v n → m ≡ n
    one_radius None None p q = refl
    one_radius None (Some n) p q = absurd (p n.0 q.is_hub q.at.walk q.at.joins)
    one_radius (Some m) None p q = absurd (q m.0 p.is_hub p.at.walk p.at.joins)
    one_radius (Some m) (Some n) p q = ap (λ x. Some x) (one_nearest m n p q)

  pub one_meeting : (s t : ℕ) (radius_s radius_t m n : Option V) → Meeting k g s t radius_s radius_t m → Meeting k g s t radius_s radius_t n → m ≡ n
  one_meeting s t rs rt None None p q = refl
  one_meeting s t rs rt None (Some n) p q = absurd (p n q.0)
  one_meeting s t rs rt (Some m) None p q = absurd (q m p.0)
  one_meeting s t rs rt (Some m) (Some n) p q = ap (λ x. Some x) (at_most_both k m n (p.1 n q.0) (q.1 m p.0))

  one_through : (near : Option (ℕ × V)) (v : ℕ) (m n : Option V) → Through k g near v m → Through k g near v n → m ≡ n
  one_through None v m n p q = p ∙ sym q
  one_through (Some near) v None None p q = refl
  one_through (Some near) v None (Some n) p q = absurd (p q.1.walk q.1.joins)
  one_through (Some near) v (Some m) None p q = absurd (q p.1.walk p.1.joins)
  one_through (Some near) v (Some m) (Some n) p q = ap (λ x. Some x) (p.2 ∙ ap (k.plus near.1) (one_distance k g near.0 v p.0 q.0 p.1 q.1) ∙ sym q.2)

  one_hub_total : (b : Bool) (s t : ℕ) (near_s near_t : Option (ℕ × V)) (m n : Option V) → HubTotalBy b k g s t near_s near_t m → HubTotalBy b k g s t near_s near_t n → m ≡ n
  one_hub_total true s t near_s near_t m n p q = one_through near_s t m n p q
  one_hub_total false s t near_s near_t m n p q = one_through near_t s m n p q

  module _ (hubs : List ℕ) (s t : ℕ) where
    pub one_totals : (m m' h h' : Option V) → Totals k g hubs s t m h → Totals k g hubs s t m' h' → (m ≡ m') × (h ≡ h')
    one_totals m m' h h' p q = (
      one_meeting s t (radius_of q.near_s) (radius_of q.near_t) m m' (subst (λ (x : Option (ℕ × V)). Meeting k g s t (radius_of x) (radius_of q.near_t) m) same_s (subst (λ (x : Option (ℕ × V)). Meeting k g s t (radius_of p.near_s) (radius_of x) m) same_t p.is_meeting)) q.is_meeting,
      one_hub_total (no_wider k (radius_of q.near_s) (radius_of q.near_t)) s t q.near_s q.near_t h h' (subst (λ (x : Option (ℕ × V)). HubTotal k g s t x q.near_t h) same_s (subst (λ (x : Option (ℕ × V)). HubTotal k g s t p.near_s x h) same_t p.is_hub)) q.is_hub,
    )
      where
        same_s : p.near_s ≡ q.near_s
        same_s = one_radius hubs s p.near_s q.near_s p.radius_s q.radius_s

        same_t : p.near_t ≡ q.near_t
        same_t = one_radius hubs t p.near_t q.near_t p.radius_t q.radius_t

    pub one_figure : (one other : V × ℕ) → Figure k g hubs s t one.0 one.1 → Figure k g hubs s t other.0 other.1 → one ≡ other
    one_figure one other p q =
        ⊎_elim
        (λ (a : (s ≡ t) × (s < g.sites) × (one.0 ≡ k.zero) × (one.1 ≡ 0)).
        ⊎_elim
        (λ (b : (s ≡ t) × (s < g.sites) × (other.0 ≡ k.zero) × (other.1 ≡ 0)). λ i. ((a.2 ∙ sym b.2) i, (a.3 ∙ sym b.3) i))
        (λ (b : (m : Option V) × (h : Option V) × Totals k g hubs s t m h × (lesser k m h ≡ Some (other.0, other.1))). absurd (b.2.apart a.0))
        q)
        (λ (a : (m : Option V) × (h : Option V) × Totals k g hubs s t m h × (lesser k m h ≡ Some (one.0, one.1))).
        ⊎_elim
        (λ (b : (s ≡ t) × (s < g.sites) × (other.0 ≡ k.zero) × (other.1 ≡ 0)). absurd (a.2.apart b.0))
        (λ (b : (m : Option V) × (h : Option V) × Totals k g hubs s t m h × (lesser k m h ≡ Some (other.0, other.1))).
        let same = one_totals a.0 b.0 a.1 b.1 a.2 b.2 in
        let e : ◌≡◌ {A = Option (V × ℕ)} (Some one) (Some other) = sym a.3 ∙ ap (λ x. lesser k x a.1) same.0 ∙ ap (lesser k b.0) same.1 ∙ b.3 in
        cc)
        q)
        p
