-- What sifting keeps of a queue, and where settled labels are.
use Rattle.std.proofs.Common.{◌≡◌, ℕ, zero, suc, ◌+◌, ◌-◌, ◌<◌, ◌≤◌, ◌⊎◌, List, ◌++◌, length, drop, Some, None, Option, sym, refl, ap, ◌∙◌, subst, inl, inr, ⊎_elim, arith}
use Rattle.std.specs.List.{ContainsAt as Has}
use Rattle.std.proofs.ByRecursion.{has_push, has_push_cases, has_append_left}
use Rattle.std.proofs.lemmas.List.{append-nil}
use Rattle.std.proofs.lemmas.Bool.{cases_eq, cases_lt}
use Rattle.weight.specs.Algebra.{Algebra}
use Rattle.shortest.specs.declared.waiting.Label.{Label}
use Rattle.shortest.specs.declared.waiting.Waiting.{Waiting}
use Rattle.shortest.specs.Places.{label_at, Moves}
use Rattle.shortest.specs.Order.{Ordered}
use Rattle.shortest.specs.Queues.{Linked, InUse, WaitsIn, listed, settled_labels}
use Rattle.shortest.proofs.Sound.{Queued}
use Rattle.shortest.proofs.Links.{moved}

-- settled labels depend on the last places alone
pub settled_same : {V : Type 0} (ws us : List (Waiting V)) (sites n : ℕ) → n ≤ sites → ((k : ℕ) → sites ≤ k + n → k < sites → label_at us k ≡ label_at ws k)
    → settled_labels us sites n ≡ settled_labels ws sites n
settled_same ws us sites zero le same = refl
settled_same ws us sites (suc n) le same =
    ap (λ z. z ++ listed (label_at us (sites - 1 - n))) (settled_same ws us sites n (omega arith) (λ k h lt. same k (omega arith) lt))
    ∙ ap (λ o. settled_labels ws sites n ++ listed o) (same (sites - 1 - n) (omega arith) (omega arith))

one_more : {V : Type 0} (xs : List (Label V)) (o : Option (Label V)) (x : Label V) → Has (xs ++ listed o) x → Has xs x ⊎ (o ≡ Some x)
one_more xs None x h = inl (subst (λ zs. Has zs x) (append-nil xs) h)
one_more xs (Some y) x h = ⊎_elim inl (λ e. inr (ap Some e)) (has_push_cases xs y x h)

has_listed : {V : Type 0} (xs : List (Label V)) (o : Option (Label V)) (x : Label V) → o ≡ Some x → Has (xs ++ listed o) x
has_listed xs o x e = subst (λ (p : Option (Label _)). Has (xs ++ listed p) x) (sym e) (has_push xs x)

-- a settled label has a place among the last ones
pub settled_place : {V : Type 0} (ws : List (Waiting V)) (sites n : ℕ) (x : Label V) → n ≤ sites → Has (settled_labels ws sites n) x
    → (k : ℕ) × ((sites ≤ k + n) × (k < sites) × (label_at ws k ≡ Some x))
settled_place ws sites zero x le h = absurd (omega (arith, h.1))
settled_place ws sites (suc n) x le h =
    ⊎_elim
    (λ p. let q = settled_place ws sites n x (omega arith) p in (q.0, (omega (arith, q.1.0), q.1.1, q.1.2)))
    (λ e. (sites - 1 - n, (omega arith, omega arith, e)))
    (one_more (settled_labels ws sites n) (label_at ws (sites - 1 - n)) x h)

-- and what has such a place is settled
pub settled_has : {V : Type 0} (ws : List (Waiting V)) (sites n k : ℕ) (x : Label V) → n ≤ sites → sites ≤ k + n → k < sites → label_at ws k ≡ Some x → Has (settled_labels ws sites n) x
settled_has ws sites zero k x le low lt e = absurd (omega arith)
settled_has ws sites (suc n) k x le low lt e =
    ⊎_elim
    (λ (z : k ≡ sites - 1 - n). has_listed (settled_labels ws sites n) (label_at ws (sites - 1 - n)) x (ap (label_at ws) (sym z) ∙ e))
    (λ (ne : k ≡ sites - 1 - n → ⊥).
    has_append_left (settled_labels ws sites n) (listed (label_at ws (sites - 1 - n))) x
    (settled_has ws sites n k x (omega arith) (⊎_elim (λ (h : k + n < sites). absurd (ne (omega arith))) (λ h. h) (cases_lt (k + n) sites)) lt e))
    (cases_eq k (sites - 1 - n))

pub record Sifted {V : Type 0} (a : Algebra V) (sites count done : ℕ) (ws us : List (Waiting V)) : Type 0 where
  pub queued : Queued a us sites count done
  pub size : length us ≡ length ws
  pub beyond : drop sites us ≡ drop sites ws
  pub settled : settled_labels us sites done ≡ settled_labels ws sites done
  pub kept : (x : Label V) → WaitsIn ws count x → WaitsIn us count x
  pub came : (x : Label V) → WaitsIn us count x → WaitsIn ws count x

pub sifted : {V : Type 0} (a : Algebra V) (n sites count done : ℕ) (ws us : List (Waiting V)) → n ≤ count → count + done ≤ sites → sites ≤ length ws
    → Linked ws sites (InUse sites count done) → Moves n ws us → Ordered a us count → Sifted a sites count done ws us
sifted a n sites count done ws us nc room fits linked moves ordered =
    let m = moved n sites count done ws us nc (omega arith) fits linked moves in
    record {
      queued = record { fits = omega (arith, m.size); room = room; linked = m.linked; ordered = ordered };
      size = m.size;
      beyond = m.beyond;
      settled = settled_same ws us sites done (omega arith) (λ k h lt. m.above k (omega arith));
      kept = m.kept;
      came = m.came;
    }
