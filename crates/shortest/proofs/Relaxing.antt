-- The links at the site of a settled label, looked at one by one.
use Rattle.std.proofs.Common.{◌≡◌, ℕ, List, [], ◌∷◌, drop, Option, sym, refl, ap, ◌∙◌, subst, inl, inr, ⊎_elim}
use mathlib.Core.List.{Memᴰ}
use Rattle.std.proofs.lemmas.Bool.{cases_eq}
use Rattle.std.specs.List.{ContainsAt as Has}
use Rattle.weight.specs.Algebra.{Algebra, AtMost}
use Rattle.network.specs.Graph as graph
use Rattle.network.specs.Graph.{Graph, At}
use Rattle.network.specs.declared.link.Link.{Link}
use Rattle.network.proofs.Orders.{at_most_refl, at_most_from_less}
use Rattle.shortest.specs.Progress.{Searching, links_of, led}
use Rattle.shortest.specs.Queues.{State, Spared, Waits, Offering, Outcome, entered, lowered, left_waiting, left_settled, settled_of}
use Rattle.shortest.proofs.Sound.{Sound}
use Rattle.shortest.specs.Searches.{OfferedBelow, offered, not_below, Relaxed}
use Rattle.shortest.specs.declared.waiting.Label.{Label}
use Rattle.shortest.proofs.Settled.{waiting_one}
use Rattle.shortest.proofs.Searching.{Taken, at_place, link_passed, link_offered, links_done}

has_member : {X : Type 0} (xs : List X) (x : X) → Has xs x → Memᴰ x xs
has_member xs x h = subst (λ y. Memᴰ y xs) (h.2 x) (at_place xs h.0 x h.1)

module _ {V : Type 0} (k : Algebra V) where
  -- what an offered label does to the waiting ones
  pub taken : (source : ℕ) (g : Graph V) (cut : Option V) (q q' : State V) (x : Label V) → Sound k q → Offering k q x q' → Taken k g source cut (settled_of q) (Waits q) x (Waits q')
  taken source g cut q q' x sound o = by o.outcome
    where
      by : Outcome k q x q' → Taken k g source cut (settled_of q) (Waits q) x (Waits q')
      by (entered none fresh t) = record {
        after = λ y w. ⊎_elim (λ (e : y ≡ x). inr e) (λ (p : Waits q y × (y.site ≡ x.site → ⊥)). inl p.0) (t.came y w);
        before = λ y w. inl (t.kept y w (none y w));
        known = (x, refl, inr (t.new, at_most_refl k x.distance));
      }
      by (lowered old there same less t) = record {
        after = λ y w. ⊎_elim (λ (e : y ≡ x). inr e) (λ (p : Waits q y × (y.site ≡ x.site → ⊥)). inl p.0) (t.came y w);
        before = λ y w.
            ⊎_elim
            (λ (e : y.site ≡ x.site).
            let one : old ≡ y = waiting_one sound old y there w (same ∙ sym e) in
            inr (e, subst (λ z. AtMost k x.distance z.distance) one (at_most_from_less k x.distance old.distance less), t.new))
            (λ (ne : y.site ≡ x.site → ⊥). inl (t.kept y w ne))
            (cases_eq y.site x.site);
        known = (x, refl, inr (t.new, at_most_refl k x.distance));
      }
      by (left_waiting old there same least e) = record {
        after = λ y w. inl (subst (λ z. Waits z y) e w);
        before = λ y w. inl (subst (λ z. Waits z y) (sym e) w);
        known = (old, same, inr (subst (λ z. Waits z old) (sym e) there, least));
      }
      by (left_settled old there same e) = record {
        after = λ y w. inl (subst (λ z. Waits z y) e w);
        before = λ y w. inl (subst (λ z. Waits z y) (sym e) w);
        known = (old, same, inl (has_member (settled_of q) old there));
      }

pub spared_same : {V : Type 0} (q : State V) → Spared q q
spared_same q = record { sites = refl; size = refl; beyond = refl }

pub spared_on : {V : Type 0} (q q' q'' : State V) → Spared q q' → Spared q' q'' → Spared q q''
spared_on q q' q'' a b = record {
  sites = b.sites ∙ a.sites;
  size = b.size ∙ a.size;
  beyond = ap (λ n. drop n q''.places) (sym a.sites) ∙ b.beyond ∙ ap (λ n. drop n q'.places) a.sites ∙ a.beyond;
}

module _ {V : Type 0} (k : Algebra V) (g : Graph V) (cut : Option V) (q : State V) (x : Label V) where
  abbrev links : List (Link V)
  links = g.links x.site

  -- all links were looked at but those that are left
  pub record UnderWay (q' : State V) (left : List (Link V)) : Type 0 where
    pub spared : Spared q q'
    pub settled : settled_of q' ≡ settled_of q
    pub among : (l : Link V) → Memᴰ l left → At g x.site l
    pub goes : (source : ℕ) → Memᴰ x (settled_of q) → ((y : Label V) → Memᴰ y (settled_of q) → AtMost k y.distance x.distance)
        → Searching k g source cut (settled_of q) (Waits q) (links_of x links) → Searching k g source cut (settled_of q) (Waits q') (links_of x left)

  module _ {q' : State V} {l : Link V} {left : List (Link V)} (u : UnderWay q' (l ∷ left)) where
    pub link_there : At g x.site l
    link_there = u.among l (Memᴰ.head refl)

    pub one_link_more : graph.Sound g → Sound k q' → {q'' : State V} → OfferedBelow k cut q' (led k x l) q'' → UnderWay q'' left
    one_link_more shows sound {q''} = elim [
      | offered b o ↦ record {
        spared = spared_on q q' q'' u.spared o.spared;
        settled = o.settled ∙ u.settled;
        among = fewer;
        goes = λ source among last s.
            link_offered k g source cut shows (settled_of q) x among last (Waits q') (Waits q'') l left (u.goes source among last s) link_there b
            (subst (λ xs. Taken k g source cut xs (Waits q') (led k x l) (Waits q'')) u.settled (taken k source g cut q' q'' (led k x l) sound o));
      }
      | not_below n e ↦ subst (λ z. UnderWay z left) (sym e) (record {
        spared = u.spared;
        settled = u.settled;
        among = fewer;
        goes = λ source among last s. link_passed k g source cut shows (settled_of q) x among last (Waits q') (Waits q') l left (u.goes source among last s) n;
      })
    ]
      where
        fewer : (m : Link V) → Memᴰ m left → At g x.site m
        fewer m h = u.among m (Memᴰ.tail h)

  pub all_looked_at : graph.Sound g → {q' : State V} → UnderWay q' [] → Relaxed k g cut q x q'
  all_looked_at shows {q'} u = record {
    spared = u.spared;
    settled = u.settled;
    goes = λ source among last s. links_done k g source cut shows (settled_of q) x among last (Waits q') (u.goes source among last s);
  }
