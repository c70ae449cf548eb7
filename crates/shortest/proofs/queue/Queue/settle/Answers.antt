use Rattle.shortest.proofs.Settling.{first_label, us_is, sink_long, sink_inside, sink_near, settled_sound, settled_spared, settled_one}
use Rattle.shortest.proofs.Sound.{sound}
use Rattle.shortest.proofs.queue.Queue.settle.Goals as goal

pub sift_down-requires : goal.sift_down-requires
sift_down-requires g c =
    let q = sound c.args.self.now in
    let first = first_label q c.if-self-eq0.false c.index-places-0.result in
    let laid = us_is q c.if-self-eq0.false c.swap_labels.ensures first.1.0 first.1.1 c.write_label.ensures c.point.ensures in
    record {
      there = sink_long q c.if-self-eq0.false c.swap_labels.ensures first.1.0 laid;
      inside = sink_inside q c.if-self-eq0.false c.swap_labels.ensures first.1.0 laid;
      near = sink_near q c.if-self-eq0.false c.swap_labels.ensures first.1.0 laid;
    }

pub invariant_of-self : goal.invariant_of-self
invariant_of-self g c =
    let q = sound c.args.self.now in
    let first = first_label q c.if-self-eq0.false c.index-places-0.result in
    let laid = us_is q c.if-self-eq0.false c.swap_labels.ensures first.1.0 first.1.1 c.write_label.ensures c.point.ensures in
    let s = settled_sound q c.if-self-eq0.false c.swap_labels.ensures first.1.0 laid c.sift_down.ensures.ordered c.sift_down.ensures.moves in
    record { fits = s.fits; room = s.room; linked = s.linked; ordered = s.ordered }

pub returns-clause-spared : goal.returns-clause-spared
returns-clause-spared g c =
    let q = sound c.args.self.now in
    let first = first_label q c.if-self-eq0.false c.index-places-0.result in
    let laid = us_is q c.if-self-eq0.false c.swap_labels.ensures first.1.0 first.1.1 c.write_label.ensures c.point.ensures in
    settled_spared q c.if-self-eq0.false c.swap_labels.ensures first.1.0 laid c.sift_down.ensures.ordered c.sift_down.ensures.moves

pub returns-clause-one : goal.returns-clause-one
returns-clause-one g c =
    let q = sound c.args.self.now in
    let first = first_label q c.if-self-eq0.false c.index-places-0.result in
    let laid = us_is q c.if-self-eq0.false c.swap_labels.ensures first.1.0 first.1.1 c.write_label.ensures c.point.ensures in
    settled_one q c.if-self-eq0.false c.swap_labels.ensures first.1.0 laid c.sift_down.ensures.ordered c.sift_down.ensures.moves first.1.1
