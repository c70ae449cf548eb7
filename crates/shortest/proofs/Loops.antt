-- The loop of a search, from its first label to its last.
use Rattle.std.proofs.Common.{◌≡◌, ℕ, ◌-◌, ◌<◌, true, false, [], ◌∷◌, ◌++◌, length, Option, sym, refl, ap, ◌∙◌, subst, inl, inr, ⊎_elim, arith}
use mathlib.Core.List.Memᴰ
use mathlib.Core.List.{Memᴰ}
use Rattle.std.proofs.lemmas.List.{length_push, nil_from_length}
use Rattle.std.proofs.lemmas.Bool.{cases_Bool, cases_eq, cond-true, both_ways}
use Rattle.std.specs.List.{ContainsAt as Has}
use Rattle.weight.specs.Algebra.{Algebra, AtMost}
use Rattle.network.specs.Graph.{Graph}
use Rattle.network.proofs.Orders.{at_most_refl}
use Rattle.shortest.specs.Finding.{source_label}
use Rattle.shortest.specs.Order.{sooner}
use Rattle.shortest.specs.Progress.{Searching, nothing, links_of}
use Rattle.shortest.specs.Queues.{State, Spared, Waits, Outcome, entered, lowered, left_waiting, left_settled, Settling, settled_of}
use Rattle.shortest.proofs.Sound.{Sound}
use Rattle.shortest.specs.Searches.{OfferedBelow, offered, not_below, Relaxed, Searched}
use Rattle.shortest.specs.declared.waiting.Label.{Label}
use Rattle.shortest.proofs.Relaxing.{spared_same, spared_on}
use Rattle.shortest.proofs.Searching.{pushed_cases, started, settled_more, found}
use Rattle.shortest.proofs.Settled.{settled_count, settled_once, settled_one, waiting_one}

-- a label that is not sooner is not nearer
not_nearer : {V : Type 0} (k : Algebra V) (x y : Label V) → sooner k y x ≡ false → AtMost k x.distance y.distance
not_nearer k x y h =
    ⊎_elim
    (λ (e : k.less y.distance x.distance ≡ true). absurd (both_ways (sooner k y x) h (cond-true (k.less y.distance x.distance) true _ e)))
    (λ (e : k.less y.distance x.distance ≡ false). e)
    (cases_Bool (k.less y.distance x.distance))

module _ {V : Type 0} {k : Algebra V} {q : State V} (sound : Sound k q) where
  pub settled_size : length (settled_of q) ≡ q.settled
  settled_size = settled_count sound

  none_settled : q.settled ≡ 0 → settled_of q ≡ []
  none_settled e = nil_from_length (settled_of q) (settled_size ∙ e)

  none_waits : q.count ≡ 0 → (x : Label V) → Waits q x → ⊥
  none_waits e x w = omega (arith, w.1.0)

pub offered_spared : {V : Type 0} {k : Algebra V} {cut : Option V} {q q' : State V} {x : Label V} → OfferedBelow k cut q x q' → Spared q q'
offered_spared (offered b o) = o.spared
offered_spared {q} (not_below n e) = subst (Spared q) (sym e) (spared_same q)

module _ {V : Type 0} (k : Algebra V) (g : Graph V) (source : ℕ) (cut : Option V) where
  -- what holds at each turn
  pub record Running (start q : State V) : Type 0 where
    pub spared : Spared start q
    pub searching : Searching k g source cut (settled_of q) (Waits q) nothing

  -- ---- the start

  module _ {q q' : State V} (there : source < g.sites) (sound : Sound k q) (no_count : q.count ≡ 0) (no_settled : q.settled ≡ 0) where
    pub running : OfferedBelow k cut q (source_label k source) q' → Running q q'
    running = elim [
      | offered b o ↦ record {
        spared = o.spared;
        searching = subst (λ xs. Searching k g source cut xs (Waits q') nothing) (sym (o.settled ∙ none_settled sound no_settled))
            (started k g source cut (Waits q') there (λ x w. (only o.outcome x w, b)) (λ b. new o.outcome));
      }
      | not_below n e ↦ subst (Running q) (sym e) (record {
        spared = spared_same q;
        searching = subst (λ xs. Searching k g source cut xs (Waits q) nothing) (sym (none_settled sound no_settled))
            (started k g source cut (Waits q) there (λ x w. absurd (none_waits sound no_count x w)) (λ b. absurd (n b)));
      })
    ]
      where
        not_settled : (x : Label V) → Has (settled_of q) x → ⊥
        not_settled x h = omega (arith, h.1, settled_size sound)

        only : Outcome k q (source_label k source) q' → (x : Label V) → Waits q' x → x ≡ source_label k source
        only (entered none fresh t) x w = ⊎_elim (λ (e : x ≡ source_label k source). e) (λ (p : Waits q x × (x.site ≡ source → ⊥)). absurd (none_waits sound no_count x p.0)) (t.came x w)
        only (lowered old waits same less t) x w = absurd (none_waits sound no_count old waits)
        only (left_waiting old waits same least e) x w = absurd (none_waits sound no_count old waits)
        only (left_settled old settled same e) x w = absurd (not_settled old settled)

        new : Outcome k q (source_label k source) q' → Waits q' (source_label k source)
        new (entered none fresh t) = t.new
        new (lowered old waits same less t) = t.new
        new (left_waiting old waits same least e) = absurd (none_waits sound no_count old waits)
        new (left_settled old settled same e) = absurd (not_settled old settled)

    pub running_from : {x : Label V} → x ≡ source_label k source → OfferedBelow k cut q x q' → Running q q'
    running_from e o = running (subst (λ y. OfferedBelow k cut q y q') e o)

  pub here : {start q : State V} → Running start q → Running q q
  here {q} run = record { spared = spared_same q; searching = run.searching }

  -- ---- one turn

  module _ {start q q' q'' : State V} {x : Label V} (sound : Sound k q) (run : Running start q) (s : Settling k q x q') (spared : Spared q q') (r : Relaxed k g cut q' x q'') where
    one : (y : Label V) → Waits q y → y.site ≡ x.site → y ≡ x
    one y w e = waiting_one sound y x w s.waited e

    settled_now : Searching k g source cut (settled_of q ++ x ∷ []) (Waits q') (links_of x (g.links x.site))
    settled_now =
        settled_more k g source cut (settled_of q) (Waits q) (Waits q') x run.searching s.waited
        (λ y w. (s.came y w).0)
        (λ y w. ⊎_elim (λ (e : y.site ≡ x.site). inr (one y w e)) (λ (ne : y.site ≡ x.site → ⊥). inl (s.kept y w ne)) (cases_eq y.site x.site))
        (λ y w. not_nearer k x y (s.least y w))
        (λ y w. (s.came y w).1)

    last : (y : Label V) → Memᴰ y (settled_of q ++ x ∷ []) → AtMost k y.distance x.distance
    last y m =
        ⊎_elim (λ (a : Memᴰ y (settled_of q)). run.searching.later y x a s.waited) (λ (e : y ≡ x). subst (λ z. AtMost k z.distance x.distance) (sym e) (at_most_refl k x.distance))
        (pushed_cases (settled_of q) x y m)

    pub running_on : Running start q''
    running_on = record {
      spared = spared_on start q q'' run.spared (spared_on q q' q'' spared r.spared);
      searching = subst (λ xs. Searching k g source cut xs (Waits q'') nothing) (sym r.settled)
          (r.goes source
          (subst (Memᴰ x) (sym s.settled) (Memᴰ.append_right (settled_of q) (Memᴰ.head refl)))
          (λ y m. last y (subst (Memᴰ y) s.settled m))
          (subst (λ xs. Searching k g source cut xs (Waits q') (links_of x (g.links x.site))) (sym s.settled) settled_now));
    }

    pub fewer_unsettled : Sound k q' → q''.sites - length (settled_of q'') < q.sites - length (settled_of q)
    fewer_unsettled sound' =
        omega (arith, ap length r.settled, ap length s.settled, length_push (settled_of q) x, r.spared.sites, spared.sites, settled_size sound', sound'.room)

  -- ---- the end

  pub searched : {first start q q' : State V} → Sound k q → Spared first start → Running start q → (q.count ≡ 0) × (q' ≡ q) → Searched k g source cut first q'
  searched {first} {start} {q} sound spared run none =
      subst (Searched k g source cut first) (sym none.1) (record {
        spared = spared_on first start q spared run.spared;
        none = none.0;
        found = found k g source cut (settled_of q) (Waits q) run.searching (none_waits sound none.0)
            (settled_once sound)
            (settled_one sound);
      })
