-- A label is offered for a site that has one.
use Rattle.std.proofs.Common.{◌≡◌, ℕ, ◌+◌, ◌<◌, ◌≤◌, Bool, true, false, List, length, get_or, Some, None, Option, sym, refl, ap, ◌∙◌, ⊎_elim, arith}
use Rattle.std.proofs.lemmas.List.{get_or_default}
use Rattle.std.proofs.lemmas.Bool.{both_ways, eqb-true}
use Rattle.weight.specs.Algebra.{Algebra}
use Rattle.shortest.specs.declared.waiting.Label.{Label}
use Rattle.shortest.specs.declared.waiting.Waiting.{Waiting}
use Rattle.shortest.specs.Places.{blank_place, label_at, place_of}
use Rattle.shortest.specs.Queues.{InUse, NamedUsed, of_site, Farther, beats, Offering, Outcome, left_waiting, left_settled}
use Rattle.shortest.proofs.Sound.{Queued}
use Rattle.shortest.proofs.Entering.{queue_of}
use Rattle.shortest.proofs.Links.{of_label}
use Rattle.shortest.proofs.Sifted.{settled_has}

-- a place in use is there
pub place_inside : {V : Type 0} {a : Algebra V} {ws : List (Waiting V)} {sites count done : ℕ} (q : Queued a ws sites count done) {i : ℕ} → InUse sites count done i → i < length ws
place_inside {sites} {count} {done} q {i} = ⊎_elim (λ (h : i < count). omega (arith, q.fits, q.room)) (λ (h : (sites ≤ i + done) × (i < sites)). omega (arith, q.fits, h.1))

module _ {V : Type 0} {a : Algebra V} {ws : List (Waiting V)} {sites count done : ℕ} (q : Queued a ws sites count done) (x : Label V) (there : x.site < sites)
    (d : Waiting V) {named : Option ℕ} (read : named ≡ (get_or ws x.site d).at) where
  -- a label of the site is where the site says
  at_named : (k : ℕ) (y : Label V) → InUse sites count done k → label_at ws k ≡ Some y → y.site ≡ x.site → named ≡ Some k
  at_named k y u e z =
      read ∙ ap (λ (w : Waiting V). w.at) (get_or_default ws x.site d blank_place (omega (arith, q.fits))) ∙ ap (place_of ws) (sym z)
      ∙ (of_label ws sites (InUse sites count done) q.linked k y u e).1

  module _ {i : ℕ} (told : NamedUsed sites count done named (Some i)) where
    module _ (f : Waiting V) where
      abbrev held : Option (Label V)
      held = (get_or ws i f).label

      here : label_at ws i ≡ held
      here = ap (λ (w : Waiting V). w.label) (get_or_default ws i blank_place f (place_inside q told.1))

      module _ (own : true ≡ of_site x.site held) where
        -- the label that the site has
        known : (y : Label V) × ((label_at ws i ≡ Some y) × (y.site ≡ x.site))
        known = by held here own
          where
            by : (o : Option (Label V)) → label_at ws i ≡ o → true ≡ of_site x.site o → (y : Label V) × ((label_at ws i ≡ Some y) × (y.site ≡ x.site))
            by None e t = absurd (both_ways false refl (sym t))
            by (Some y) e t = (y, (e, eqb-true y.site x.site (sym t)))

        left : Outcome a (queue_of ws sites count done) x (queue_of ws sites count done) → Offering a (queue_of ws sites count done) x (queue_of ws sites count done)
        left o = record { spared = record { sites = refl; size = refl; beyond = refl }; number = refl; settled = refl; outcome = o }

        pub left_done : count ≤ i → Offering a (queue_of ws sites count done) x (queue_of ws sites count done)
        left_done le =
            left (left_settled known.0
            (⊎_elim (λ (h : i < count). absurd (omega arith)) (λ h. settled_has ws sites done i known.0 (omega (arith, q.room)) h.0 h.1 known.1.0) told.1)
            known.1.1 refl)

        module _ (waits : i < count) where
          told_here : (r : Bool) → r ≡ beats a x.distance held → a.less x.distance known.0.distance ≡ r
          told_here r t = ap (beats a x.distance) (sym known.1.0 ∙ here) ∙ sym t

          pub to_lower : true ≡ beats a x.distance held → Farther a ws i x
          to_lower t = record { old = known.0; here = known.1.0; site = known.1.1; farther = told_here true t }

          pub left_near : false ≡ beats a x.distance held → Offering a (queue_of ws sites count done) x (queue_of ws sites count done)
          left_near t = left (left_waiting known.0 (i, (waits, known.1.0)) known.1.1 (told_here false t) refl)
