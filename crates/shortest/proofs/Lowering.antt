-- A label takes the place of one of its site that waits at a larger distance.
use Rattle.std.proofs.Common.{◌≡◌, ℕ, ◌+◌, ◌<◌, true, List, length, get_or, Some, sym, refl, ap, ◌∙◌, subst, inl, inr, ⊎_elim, arith, length-set, drop-set-lt}
use Rattle.std.proofs.lemmas.Bool.{cases_eq}
use Rattle.weight.specs.Algebra.{Algebra}
use Rattle.shortest.specs.declared.waiting.Label.{Label}
use Rattle.shortest.specs.declared.waiting.Waiting.{Waiting}
use Rattle.shortest.specs.Places.{blank_place, label_at, place_of, relabelled, put_label, Moves}
use Rattle.shortest.specs.Order.{earlier, parent, Ordered, OrderedBut}
use Rattle.shortest.specs.Queues.{Linked, InUse, Farther, Offering, lowered}
use Rattle.shortest.proofs.Sound.{Queued}
use Rattle.shortest.proofs.Edits.{some_inside, label_put_same, label_put_other, at_put_label}
use Rattle.shortest.proofs.Entering.{queue_of}
use Rattle.shortest.proofs.Heaps.{carried}
use Rattle.shortest.proofs.Links.{links_on, held, of_label, one_place}
use Rattle.shortest.proofs.Rank.{nearer_sooner, not_trans, not_below}
use Rattle.shortest.proofs.Sifted.{Sifted, sifted, settled_same}

module _ {V : Type 0} {a : Algebra V} {ws : List (Waiting V)} {sites count done : ℕ} (q : Queued a ws sites count done) (at : ℕ) (x : Label V) (waits : at < count) (far : Farther a ws at x) where
  abbrev replaced : List (Waiting V)
  replaced = put_label ws at (Some x)

  pub replaced_size : length replaced ≡ length ws
  replaced_size = length-set ws at (relabelled (Some x) (get_or ws at blank_place))

  pub at_inside : at < length ws
  at_inside = omega (arith, q.fits, q.room)

  at_site : at < sites
  at_site = omega (arith, q.room)

  label_new : label_at replaced at ≡ Some x
  label_new = label_put_same ws at (Some x) at_inside

  label_old : (k : ℕ) → (k ≡ at → ⊥) → label_at replaced k ≡ label_at ws k
  label_old k ne = label_put_other ws at (Some x) k ne

  place_same : (s : ℕ) → place_of replaced s ≡ place_of ws s
  place_same s = at_put_label ws at (Some x) s

  old_place : (far.old.site < sites) × (place_of ws far.old.site ≡ Some at)
  old_place = of_label ws sites (InUse sites count done) q.linked at far.old (inl waits) far.here

  replaced_linked : Linked replaced sites (InUse sites count done)
  replaced_linked k u =
      ⊎_elim
      (λ (e : k ≡ at).
      links_on replaced sites k x (ap (label_at replaced) e ∙ label_new) (subst (λ (s : ℕ). s < sites) far.site old_place.0) (place_same x.site ∙ ap (place_of ws) (sym far.site) ∙ old_place.1 ∙ ap Some (sym e)))
      (λ (ne : k ≡ at → ⊥).
      let h = held ws sites (InUse sites count done) q.linked k u in
      links_on replaced sites k h.0 (label_old k ne ∙ h.1.0) h.1.1 (place_same h.0.site ∙ h.1.2))
      (cases_eq k at)

  sooner_now : earlier a (label_at replaced at) (label_at ws at) ≡ true
  sooner_now = ap (λ o. earlier a o (label_at ws at)) label_new ∙ ap (earlier a (Some x)) far.here ∙ nearer_sooner a x far.old far.farther

  replaced_ordered : OrderedBut a replaced count at
  replaced_ordered = record {
    others = λ k k0 kn ne.
        ⊎_elim
        (λ (e : parent k ≡ at).
        carried a _ _ (label_at ws k) (label_at replaced at) (label_old k ne) (ap (label_at replaced) e)
        (not_below a (label_at replaced at) (label_at ws at) (label_at ws k) sooner_now (carried a _ _ (label_at ws k) (label_at ws (parent k)) refl (ap (label_at ws) (sym e)) (q.ordered k k0 kn))))
        (λ (np : parent k ≡ at → ⊥). carried a _ _ (label_at ws k) (label_at ws (parent k)) (label_old k ne) (label_old (parent k) np) (q.ordered k k0 kn))
        (cases_eq (parent k) at);
    children = λ k k0 kn e pos.
        carried a _ _ (label_at ws k) (label_at ws (parent at)) (label_old k (λ z. omega arith)) (label_old (parent at) (λ z. omega arith))
        (not_trans a (label_at ws k) (label_at ws at) (label_at ws (parent at)) (carried a _ _ (label_at ws k) (label_at ws (parent k)) refl (ap (label_at ws) (sym e)) (q.ordered k k0 kn)) (q.ordered at pos waits));
  }

  module _ {vs : List (Waiting V)} (wrote : vs ≡ replaced) where
    module _ {zs : List (Waiting V)} (ordered : (n : ℕ) → at < n → OrderedBut a vs n at → Ordered a zs n) (moves : Moves (at + 1) vs zs) where
      done_it : Sifted a sites count done replaced zs
      done_it =
          sifted a (at + 1) sites count done replaced zs (omega arith) q.room (omega (arith, replaced_size, q.fits)) replaced_linked
          (subst (λ (z : List (Waiting V)). Moves (at + 1) z zs) wrote moves)
          (ordered count waits (subst (λ (z : List (Waiting V)). OrderedBut a z count at) (sym wrote) replaced_ordered))

      pub lowered_sound : Queued a zs sites count done
      lowered_sound = done_it.queued

      pub lowered_offering : Offering a (queue_of ws sites count done) x (queue_of zs sites count done)
      lowered_offering = record {
        spared = record {
          sites = refl;
          size = done_it.size ∙ replaced_size;
          beyond = done_it.beyond ∙ drop-set-lt sites ws at (relabelled (Some x) (get_or ws at blank_place)) at_site;
        };
        number = refl;
        settled = done_it.settled ∙ settled_same ws replaced sites done (omega (arith, q.room)) (λ k h lt. label_old k (λ z. omega (arith, q.room)));
        outcome = lowered far.old (at, (waits, far.here)) far.site far.farther
            (record {
              new = done_it.kept x (at, (waits, label_new));
              kept = λ y w ne.
                  let other : w.0 ≡ at → ⊥ = λ z. ne (ap (λ v. v.site) (some_inside y far.old (sym w.1.1 ∙ ap (label_at ws) z ∙ far.here)) ∙ far.site) in
                  done_it.kept y (w.0, (w.1.0, label_old w.0 other ∙ w.1.1));
              came = λ y w.
                  let v = done_it.came y w in
                  ⊎_elim
                  (λ (e : v.0 ≡ at). inl (some_inside y x (sym v.1.1 ∙ ap (label_at replaced) e ∙ label_new)))
                  (λ (ne : v.0 ≡ at → ⊥).
                  let old : label_at ws v.0 ≡ Some y = sym (label_old v.0 ne) ∙ v.1.1 in
                  inr (
                    (v.0, (v.1.0, old)),
                    (λ s. ne (one_place ws sites (InUse sites count done) q.linked v.0 at y far.old (inl v.1.0) (inl waits) old far.here (s ∙ sym far.site))),
                  ))
                  (cases_eq v.0 at);
            });
      }
