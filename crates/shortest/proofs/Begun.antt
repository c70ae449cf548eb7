-- A search over lent places, whatever they hold, to the labels that it leaves.
use Rattle.std.proofs.Common.{◌≡◌, ℕ, ◌-◌, ◌<◌, ◌≤◌, List, length, get_or, drop, Some, Option, sym, ◌∙◌, subst, arith}
use Rattle.weight.specs.Algebra.{Algebra}
use Rattle.network.specs.Graph.{Graph}
use Rattle.shortest.specs.Places.{label_at}
use Rattle.shortest.specs.Queues.{State, InUse, settled_labels}
use Rattle.shortest.proofs.Sound.{Queued, Sound}
use Rattle.shortest.specs.Finding.{Found}
use Rattle.shortest.specs.Searches.{Searched, SearchedIn}
use Rattle.shortest.specs.declared.waiting.Label.{Label}
use Rattle.shortest.specs.declared.waiting.Waiting.{Waiting}
use Rattle.shortest.proofs.Links.{of_label}
use Rattle.shortest.proofs.Settled.{settled_count, settled_at, settled_used}

-- what the search left in its queue, told of the lent places
module _ {V : Type 0} (k : Algebra V) (g : Graph V) (source : ℕ) (cut : Option V) (ws us : List (Waiting V)) (sites done : ℕ) (as_many : sites ≡ g.sites) where
  abbrev start : State V
  start = record { places = ws; sites = sites; count = 0; settled = 0 }

  pub left_in : (q : State V) → Sound k q → Searched k g source cut start q → source < sites → sites ≤ length ws → us ≡ q.places → done ≡ q.settled → SearchedIn k g source cut ws done us
  left_in q kept s there room e n =
      subst (λ zs. SearchedIn k g source cut ws done zs) (sym e) (subst (λ m. SearchedIn k g source cut ws m q.places) (sym n) all)
    where
      sound : Queued k q.places g.sites q.count q.settled
      sound = subst (λ m. Queued k q.places m q.count q.settled) (s.spared.sites ∙ as_many) kept

      labels : (i : ℕ) → i < q.settled → (d : Label V) → label_at q.places (g.sites - 1 - i) ≡ Some (get_or (settled_labels q.places g.sites q.settled) i d)
      labels i lt d = settled_at sound i lt d

      all : SearchedIn k g source cut ws q.settled q.places
      all = record {
        there = omega arith;
        room = omega arith;
        size = s.spared.size;
        beyond = subst (λ m. drop m q.places ≡ drop m ws) as_many s.spared.beyond;
        few = omega (arith, sound.room);
        count = settled_count sound;
        found = subst (λ m. Found k g source cut (settled_labels q.places m q.settled)) (s.spared.sites ∙ as_many) s.found;
        labels = labels;
        placed = λ i lt d.
            (of_label q.places g.sites (InUse g.sites q.count q.settled) sound.linked (g.sites - 1 - i) _
            (settled_used sound i lt) (labels i lt d)).1;
      }
