-- A queue as it stands.
use Rattle.weight.specs.declared.Weight.{Ghosts}
use Rattle.shortest.specs.declared.queue.Queue.{Queue}
use Rattle.shortest.specs.Queues.{State}

abbrev pub state : {V : Type 0} {w : Ghosts V} → Queue V w → State V
state q = record { places = q.places.now; sites = q.sites; count = q.count; settled = q.settled }
