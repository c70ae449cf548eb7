-- What the type of a queue says of it.
use Rattle.std.proofs.Common.{ℕ, ◌+◌, ◌≤◌, List, length}
use Rattle.weight.specs.Algebra.{Algebra}
use Rattle.weight.specs.declared.Weight.{Ghosts}
use Rattle.shortest.specs.declared.queue.Queue.{Queue}
use Rattle.shortest.specs.declared.waiting.Waiting.{Waiting}
use Rattle.shortest.specs.Order.{Ordered}
use Rattle.shortest.specs.Queues.{Linked, InUse, State}
use Rattle.shortest.specs.States.{state}

-- the facts that the type keeps, told of places and counts
pub record Queued {V : Type 0} (a : Algebra V) (ws : List (Waiting V)) (sites count done : ℕ) : Type 0 where
  pub fits : sites ≤ length ws
  pub room : count + done ≤ sites
  pub linked : Linked ws sites (InUse sites count done)
  pub ordered : Ordered a ws count

abbrev pub Sound : {V : Type 0} → Algebra V → State V → Type 0
Sound a q = Queued a q.places q.sites q.count q.settled

pub sound : {V : Type 0} {w : Ghosts V} (q : Queue V w) → Sound w.algebra (state q)
sound q = record { fits = q.fits; room = q.room; linked = q.linked; ordered = q.ordered }
