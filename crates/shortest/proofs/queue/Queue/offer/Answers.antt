use Rattle.std.proofs.Common.{refl}
use Rattle.shortest.proofs.Offers.{left_done, to_lower, left_near}
use Rattle.shortest.proofs.Sound.{sound}
use Rattle.shortest.proofs.queue.Queue.offer.Goals as goal
use Rattle.shortest.proofs.queue.Queue.offer.Goals.{else-at-self-via-then-at-self+else-nearer, else-at-self-via-else-at-self}

pub returns-else-at-self-clause-offered : goal.returns-else-at-self-clause-offered
returns-else-at-self-clause-offered g c =
    let q = sound c.args.self.now in
    elim c.else-at-self.branch [
      | else-at-self-via-then-at-self+else-nearer w ↦
          left_near q c.args.label c.requires.there _ refl c.in-Some.ensures _ c.if-not-is_of.ensures w.if-at-self.true w.if-nearer.ensures
      | else-at-self-via-else-at-self w ↦
          left_done q c.args.label c.requires.there _ refl c.in-Some.ensures _ c.if-not-is_of.ensures w.if-at-self.false
    ]

pub lower-requires-clause-farther : goal.lower-requires-clause-farther
lower-requires-clause-farther g c =
    to_lower (sound c.args.self.now) c.args.label c.requires.there _ refl c.in-Some.ensures _ c.if-not-is_of.ensures c.if-at-self.true c.if-nearer.ensures
