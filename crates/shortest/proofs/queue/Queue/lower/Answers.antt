use Rattle.shortest.proofs.Lowering.{lowered_sound, lowered_offering}
use Rattle.shortest.proofs.Sound.{sound}
use Rattle.shortest.proofs.queue.Queue.lower.Goals as goal

pub invariant_of-self : goal.invariant_of-self
invariant_of-self g c =
    let s = lowered_sound (sound c.args.self.now) c.args.at c.args.label c.requires.waits c.requires.farther c.write_label.ensures c.sift_up.ensures.ordered c.sift_up.ensures.moves in
    record { fits = s.fits; room = s.room; linked = s.linked; ordered = s.ordered }

pub returns-clause-offered : goal.returns-clause-offered
returns-clause-offered g c =
    lowered_offering (sound c.args.self.now) c.args.at c.args.label c.requires.waits c.requires.farther c.write_label.ensures c.sift_up.ensures.ordered c.sift_up.ensures.moves
