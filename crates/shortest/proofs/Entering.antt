-- The label of a site that has none is put in.
use Rattle.std.proofs.Common.{◌≡◌, ℕ, ◌+◌, ◌<◌, ◌≤◌, List, length, get_or, Some, sym, refl, ap, ◌∙◌, subst, inl, inr, ⊎_elim, arith, length-set}
use Rattle.std.proofs.lemmas.Bool.{cases_eq, cases_lt}
use Rattle.weight.specs.Algebra.{Algebra}
use Rattle.shortest.specs.declared.waiting.Label.{Label}
use Rattle.shortest.specs.declared.waiting.Waiting.{Waiting}
use Rattle.shortest.specs.Places.{blank_place, label_at, relabelled, put_label, put_at, Inside, Moves}
use Rattle.shortest.specs.Order.{parent, Ordered, OrderedBut}
use Rattle.shortest.specs.Queues.{Linked, InUse, State, Unlabelled, Offering, entered}
use Rattle.shortest.proofs.Sound.{Queued}
use Rattle.shortest.proofs.Edits.{some_inside}
use Rattle.shortest.proofs.Heaps.{carried}
use Rattle.shortest.proofs.Links.{linked_inside, laid_in, laid_long, laid_new, laid_old, laid_drop, laid_linked}
use Rattle.shortest.proofs.Pigeons.{free_place}
use Rattle.shortest.proofs.Sifted.{Sifted, sifted, settled_same, settled_place}

-- a queue by its parts
abbrev pub queue_of : {V : Type 0} → List (Waiting V) → ℕ → ℕ → ℕ → State V
queue_of ws sites count done = record { places = ws; sites = sites; count = count; settled = done }

module _ {V : Type 0} {a : Algebra V} {ws : List (Waiting V)} {sites count done : ℕ} (q : Queued a ws sites count done) (x : Label V) (there : x.site < sites) (none : Unlabelled ws (InUse sites count done) x.site) where
  pub room_left : count + done < sites
  room_left = free_place ws sites count done q.linked x.site there none

  abbrev laid : List (Waiting V)
  laid = put_label ws count (Some x)

  pub laid_size : length laid ≡ length ws
  laid_size = length-set ws count (relabelled (Some x) (get_or ws count blank_place))

  pub count_inside : count < length ws
  count_inside = omega (arith, room_left, q.fits)

  used_before : (k : ℕ) → (k ≡ count → ⊥) → InUse sites (count + 1) done k → InUse sites count done k
  used_before k ne = ⊎_elim (λ (h : k < count + 1). inl (⊎_elim (λ (l : k < count). l) (λ (l : count ≤ k). absurd (ne (omega arith))) (cases_lt k count))) inr

  others : (k : ℕ) → InUse sites (count + 1) done k → (k ≡ count → ⊥) → InUse sites count done k × ((y : Label V) → label_at ws k ≡ Some y → y.site ≡ x.site → ⊥)
  others k u ne = (used_before k ne u, λ y e s. none k y (used_before k ne u) e s)

  count_below : count < sites
  count_below = omega (arith, room_left)

  abbrev put_in : List (Waiting V)
  put_in = laid_in ws count x

  pub put_in_size : length put_in ≡ length ws
  put_in_size = laid_long ws sites (InUse sites count done) q.linked x count there q.fits count_below (InUse sites (count + 1) done) others

  label_new : label_at put_in count ≡ Some x
  label_new = laid_new ws sites (InUse sites count done) q.linked x count there q.fits count_below (InUse sites (count + 1) done) others

  label_old : (k : ℕ) → (k ≡ count → ⊥) → label_at put_in k ≡ label_at ws k
  label_old = laid_old ws sites (InUse sites count done) q.linked x count there q.fits count_below (InUse sites (count + 1) done) others

  put_in_linked : Linked put_in sites (InUse sites (count + 1) done)
  put_in_linked = laid_linked ws sites (InUse sites count done) q.linked x count there q.fits count_below (InUse sites (count + 1) done) others

  put_in_ordered : OrderedBut a put_in (count + 1) count
  put_in_ordered = record {
    others = λ k k0 kn ne.
        carried a _ _ (label_at ws k) (label_at ws (parent k)) (label_old k ne) (label_old (parent k) (λ z. omega arith))
        (q.ordered k k0 (⊎_elim (λ (l : k < count). l) (λ (l : count ≤ k). absurd (ne (omega arith))) (cases_lt k count)));
    children = λ k k0 kn e pos. absurd (omega arith);
  }

  module _ {vs us : List (Waiting V)} (wrote : vs ≡ laid) (pointed : us ≡ put_at vs x.site (Some count)) where
    us_is : us ≡ put_in
    us_is = pointed ∙ ap (λ z. put_at z x.site (Some count)) wrote

    pub entered_long : count < length us
    entered_long = omega (arith, ap length us_is, put_in_size, count_inside)

    pub entered_inside : Inside us (count + 1)
    entered_inside =
        subst (λ (z : List (Waiting V)). Inside z (count + 1)) (sym us_is)
        (linked_inside put_in sites (InUse sites (count + 1) done) put_in_linked (count + 1) (λ k lt. inl lt) (omega (arith, put_in_size, q.fits)))

    module _ {zs : List (Waiting V)} (ordered : (n : ℕ) → count < n → OrderedBut a us n count → Ordered a zs n) (moves : Moves (count + 1) us zs) where
      done_it : Sifted a sites (count + 1) done put_in zs
      done_it =
          sifted a (count + 1) sites (count + 1) done put_in zs (omega arith) (omega (arith, room_left)) (omega (arith, put_in_size, q.fits)) put_in_linked
          (subst (λ (z : List (Waiting V)). Moves (count + 1) z zs) us_is moves)
          (ordered (count + 1) (omega arith) (subst (λ (z : List (Waiting V)). OrderedBut a z (count + 1) count) (sym us_is) put_in_ordered))

      pub entered_sound : Queued a zs sites (count + 1) done
      entered_sound = done_it.queued

      pub entered_offering : Offering a (queue_of ws sites count done) x (queue_of zs sites (count + 1) done)
      entered_offering = record {
        spared = record {
          sites = refl;
          size = done_it.size ∙ put_in_size;
          beyond = done_it.beyond ∙ laid_drop ws sites (InUse sites count done) q.linked x count there q.fits count_below (InUse sites (count + 1) done) others;
        };
        number = refl;
        settled = done_it.settled ∙ settled_same ws put_in sites done (omega (arith, room_left)) (λ k h lt. label_old k (λ z. omega (arith, room_left)));
        outcome = entered
            (λ y w s. none w.0 y (inl w.1.0) w.1.1 s)
            (λ y h s. let p = settled_place ws sites done y (omega (arith, room_left)) h in none p.0 y (inr (p.1.0, p.1.1)) p.1.2 s)
            (record {
              new = done_it.kept x (count, (omega arith, label_new));
              kept = λ y w ne. done_it.kept y (w.0, (omega (arith, w.1.0), label_old w.0 (λ z. omega (arith, w.1.0)) ∙ w.1.1));
              came = λ y w.
                  let v = done_it.came y w in
                  ⊎_elim
                  (λ (e : v.0 ≡ count). inl (some_inside y x (sym v.1.1 ∙ ap (label_at put_in) e ∙ label_new)))
                  (λ (ne : v.0 ≡ count → ⊥).
                  let below : v.0 < count = ⊎_elim (λ (l : v.0 < count). l) (λ (l : count ≤ v.0). absurd (ne (omega (arith, v.1.0)))) (cases_lt v.0 count) in
                  let old : label_at ws v.0 ≡ Some y = sym (label_old v.0 ne) ∙ v.1.1 in
                  inr ((v.0, (below, old)), λ s. none v.0 y (inl below) old s))
                  (cases_eq v.0 count);
            });
      }
