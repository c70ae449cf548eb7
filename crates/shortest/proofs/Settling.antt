-- The first label is settled: it trades places with the last one that waits, and is then laid at the next settled place.
use Rattle.std.proofs.Common.{◌≡◌, ℕ, ◌+◌, ◌-◌, ◌<◌, ◌≤◌, List, [], ◌∷◌, ◌++◌, length, get_or, drop, Some, Option, sym, refl, ap, ◌∙◌, subst, inl, inr, ⊎_elim, add-one, arith}
use Rattle.std.proofs.lemmas.List.{get_or_default}
use Rattle.std.proofs.lemmas.Bool.{cases_lt}
use Rattle.weight.specs.Algebra.{Algebra}
use Rattle.shortest.specs.declared.waiting.Label.{Label}
use Rattle.shortest.specs.declared.waiting.Waiting.{Waiting}
use Rattle.shortest.specs.Places.{blank_place, label_at, relabelled, put_label, put_at, pointed, swapped, Inside, Moves}
use Rattle.shortest.specs.Places as places
use Rattle.shortest.specs.Order.{parent, Ordered, OrderedUnder}
use Rattle.shortest.specs.Queues.{Linked, InUse, listed, settled_labels, Spared, SettledOne, Settling}
use Rattle.shortest.proofs.Sound.{Queued}
use Rattle.shortest.proofs.Edits.{some_inside, trade, trade_right, trade_rest, label_swapped}
use Rattle.shortest.proofs.Entering.{queue_of}
use Rattle.shortest.proofs.Heaps.{carried, none_before_front}
use Rattle.shortest.proofs.Links.{Moved, moved, held, of_label, one_place, linked_inside, laid_in, laid_long, laid_new, laid_old, laid_drop, laid_linked}
use Rattle.shortest.proofs.Sifted.{Sifted, sifted, settled_same}

module _ {V : Type 0} {a : Algebra V} {ws : List (Waiting V)} {sites count done : ℕ} (q : Queued a ws sites count done) (some : count ≡ 0 → ⊥) where
  pub first_inside : 0 < length ws
  first_inside = omega (arith, q.fits, q.room)

  pub last_inside : count - 1 < length ws
  last_inside = omega (arith, q.fits, q.room)

  -- the first label, as it is read
  pub first_label : (d : Waiting V) → (x : Label V) × ((label_at ws 0 ≡ Some x) × ((get_or ws 0 d).label ≡ Some x))
  first_label d =
      let h = held ws sites (InUse sites count done) q.linked 0 (inl (omega arith)) in
      (h.0, (h.1.0, ap (λ (w : Waiting V). w.label) (get_or_default ws 0 d blank_place first_inside) ∙ h.1.0))

  module _ {vs : List (Waiting V)} (swap : vs ≡ swapped ws 0 (count - 1)) where
    turned : Moved count sites count done ws vs
    turned =
        moved count sites count done ws vs (omega arith) (omega (arith, q.room)) q.fits q.linked
        (places.trade ws vs 0 (count - 1) (omega arith) (omega arith) swap places.stay)

    vs_fits : sites ≤ length vs
    vs_fits = omega (arith, turned.size, q.fits)

    vs_label : (k : ℕ) → label_at vs k ≡ label_at ws (trade 0 (count - 1) k)
    vs_label k = ap (λ z. label_at z k) swap ∙ label_swapped ws 0 (count - 1) first_inside last_inside k

    vs_last : label_at vs (count - 1) ≡ label_at ws 0
    vs_last = vs_label (count - 1) ∙ ap (label_at ws) (trade_right 0 (count - 1))

    vs_rest : (k : ℕ) → (k ≡ 0 → ⊥) → (k ≡ count - 1 → ⊥) → label_at vs k ≡ label_at ws k
    vs_rest k n0 nl = vs_label k ∙ ap (label_at ws) (trade_rest 0 (count - 1) k n0 nl)

    end_below : sites - 1 - done < sites
    end_below = omega (arith, q.room)

    module _ {x : Label V} (first : label_at ws 0 ≡ Some x) where
      vs_x : label_at vs (count - 1) ≡ Some x
      vs_x = vs_last ∙ first

      x_below : x.site < sites
      x_below = (of_label vs sites (InUse sites count done) turned.linked (count - 1) x (inl (omega arith)) vs_x).0

      -- what else is in use afterwards was so before, and is not the label of x
      others : (k : ℕ) → InUse sites (count - 1) (done + 1) k → (k ≡ sites - 1 - done → ⊥) → InUse sites count done k × ((y : Label V) → label_at vs k ≡ Some y → y.site ≡ x.site → ⊥)
      others k u ne =
          let used : InUse sites count done k =
          ⊎_elim (λ (h : k < count - 1). inl (omega arith))
          (λ h. inr (⊎_elim (λ (l : k + done < sites). absurd (ne (omega (arith, h.0)))) (λ l. l) (cases_lt (k + done) sites), h.1)) u in
          let other : k ≡ count - 1 → ⊥ = λ z. ⊎_elim (λ (h : k < count - 1). omega arith) (λ h. ne (omega (arith, h.0, q.room))) u in
          (used, λ y e s. other (one_place vs sites (InUse sites count done) turned.linked k (count - 1) y x used (inl (omega arith)) e vs_x s))

      abbrev end_laid : List (Waiting V)
      end_laid = laid_in vs (sites - 1 - done) x

      -- the two writes lay the label
      pub us_is : {o : Option (Label V)} {ms us : List (Waiting V)} → o ≡ Some x → ms ≡ put_label vs (sites - 1 - done) o → us ≡ pointed o (Some (sites - 1 - done)) ms → us ≡ laid_in vs (sites - 1 - done) x
      us_is {o} {ms} is wrote pointed_at =
          pointed_at ∙ ap (λ p. pointed p (Some (sites - 1 - done)) ms) is ∙ ap (λ z. put_at z x.site (Some (sites - 1 - done))) (wrote ∙ ap (put_label vs (sites - 1 - done)) is)

      module _ {us : List (Waiting V)} (again : us ≡ end_laid) where
        us_linked : Linked us sites (InUse sites (count - 1) (done + 1))
        us_linked =
            subst (λ (z : List (Waiting V)). Linked z sites (InUse sites (count - 1) (done + 1))) (sym again)
            (laid_linked vs sites (InUse sites count done) turned.linked x (sites - 1 - done) x_below vs_fits end_below (InUse sites (count - 1) (done + 1)) others)

        us_size : length us ≡ length vs
        us_size = ap length again ∙ laid_long vs sites (InUse sites count done) turned.linked x (sites - 1 - done) x_below vs_fits end_below (InUse sites (count - 1) (done + 1)) others

        us_end : label_at us (sites - 1 - done) ≡ Some x
        us_end = ap (λ z. label_at z (sites - 1 - done)) again ∙ laid_new vs sites (InUse sites count done) turned.linked x (sites - 1 - done) x_below vs_fits end_below (InUse sites (count - 1) (done + 1)) others

        us_rest : (k : ℕ) → (k ≡ sites - 1 - done → ⊥) → label_at us k ≡ label_at vs k
        us_rest k ne = ap (λ z. label_at z k) again ∙ laid_old vs sites (InUse sites count done) turned.linked x (sites - 1 - done) x_below vs_fits end_below (InUse sites (count - 1) (done + 1)) others k ne

        us_front : (k : ℕ) → k < count - 1 → label_at us k ≡ label_at vs k
        us_front k lt = us_rest k (λ z. omega (arith, q.room))

        us_kept : (k : ℕ) → 0 < k → k < count - 1 → label_at us k ≡ label_at ws k
        us_kept k k0 lt = us_front k lt ∙ vs_rest k (λ z. omega arith) (λ z. omega arith)

        pub sink_long : count - 1 ≤ length us
        sink_long = omega (arith, us_size, vs_fits, q.room)

        pub sink_inside : Inside us (count - 1)
        sink_inside = linked_inside us sites (InUse sites (count - 1) (done + 1)) us_linked (count - 1) (λ k lt. inl lt) (omega (arith, us_size, vs_fits))

        pub sink_near : OrderedUnder a us (count - 1) 0
        sink_near = record {
          others = λ k k0 kn ne.
              carried a _ _ (label_at ws k) (label_at ws (parent k)) (us_kept k k0 kn)
              (us_kept (parent k) (⊎_elim (λ (h : 0 < parent k). h) (λ (h : parent k ≤ 0). absurd (ne (omega arith))) (cases_lt 0 (parent k))) (omega arith))
              (q.ordered k k0 (omega arith));
          grand = λ k k0 kn e pos. absurd (omega arith);
        }

        module _ {zs : List (Waiting V)} (ordered : Ordered a zs (count - 1)) (moves : Moves (count - 1) us zs) where
          sunk : Sifted a sites (count - 1) (done + 1) us zs
          sunk = sifted a (count - 1) sites (count - 1) (done + 1) us zs (omega arith) (omega (arith, q.room)) (omega (arith, us_size, vs_fits)) us_linked moves ordered

          pub settled_sound : Queued a zs sites (count - 1) (done + 1)
          settled_sound = sunk.queued

          pub settled_spared : Spared (queue_of ws sites count done) (queue_of zs sites (count - 1) (done + 1))
          settled_spared = record {
            sites = refl;
            size = sunk.size ∙ us_size ∙ turned.size;
            beyond = sunk.beyond ∙ ap (drop sites) again
                ∙ laid_drop vs sites (InUse sites count done) turned.linked x (sites - 1 - done) x_below vs_fits end_below (InUse sites (count - 1) (done + 1)) others ∙ turned.beyond;
          }

          -- the settled labels, with the new one
          more : settled_labels zs sites (done + 1) ≡ settled_labels ws sites done ++ x ∷ []
          more =
              sunk.settled ∙ ap (settled_labels us sites) (add-one done)
              ∙ ap (λ z. z ++ listed (label_at us (sites - 1 - done)))
              (settled_same ws us sites done (omega (arith, q.room))
              (λ k low lt. us_rest k (λ z. omega (arith, q.room)) ∙ vs_rest k (λ z. omega (arith, q.room)) (λ z. omega (arith, q.room))))
              ∙ ap (λ o. settled_labels ws sites done ++ listed o) us_end

          front_settled : Settling a (queue_of ws sites count done) x (queue_of zs sites (count - 1) (done + 1))
          front_settled = record {
            waited = (0, (omega arith, first));
            least = λ y w.
                carried a (Some y) (Some x) (label_at ws w.0) (label_at ws 0) (sym w.1.1) (sym first) (none_before_front a ws count q.ordered w.0 w.1.0);
            number = refl;
            settled = more;
            kept = λ y w ne.
                let v = turned.kept y w in
                let other : v.0 ≡ count - 1 → ⊥ = λ z. ne (ap (λ l. l.site) (some_inside y x (sym v.1.1 ∙ ap (label_at vs) z ∙ vs_x))) in
                let below : v.0 < count - 1 = ⊎_elim (λ (l : v.0 < count - 1). l) (λ (l : count - 1 ≤ v.0). absurd (other (omega (arith, v.1.0)))) (cases_lt v.0 (count - 1)) in
                sunk.kept y (v.0, (below, us_front v.0 below ∙ v.1.1));
            came = λ y w.
                let v = sunk.came y w in
                let there : label_at vs v.0 ≡ Some y = sym (us_front v.0 v.1.0) ∙ v.1.1 in (
                  turned.came y (v.0, (omega (arith, v.1.0), there)),
                  λ s.
                      let z : v.0 ≡ count - 1 = one_place vs sites (InUse sites count done) turned.linked v.0 (count - 1) y x (inl (omega (arith, v.1.0))) (inl (omega arith)) there vs_x s in
                      omega (arith, v.1.0),
                );
          }

          pub settled_one : {o : Option (Label V)} → o ≡ Some x → SettledOne a (queue_of ws sites count done) o (queue_of zs sites (count - 1) (done + 1))
          settled_one is = subst (λ (p : Option (Label V)). SettledOne a (queue_of ws sites count done) p (queue_of zs sites (count - 1) (done + 1))) (sym is) front_settled
