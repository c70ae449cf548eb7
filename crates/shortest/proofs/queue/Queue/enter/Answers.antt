use Rattle.std.proofs.Common.{◌<◌, arith, rules}
use Rattle.shortest.proofs.Entering.{room_left, count_inside, entered_long, entered_inside, entered_sound, entered_offering}
use Rattle.shortest.proofs.Sound.{sound}
use Rattle.shortest.proofs.queue.Queue.enter.Goals as goal

pub write_label-requires : goal.write_label-requires
write_label-requires g c = count_inside (sound c.args.self.now) c.args.label c.requires.there c.requires.new

pub sift_up-requires : goal.sift_up-requires
sift_up-requires g c =
    let q = sound c.args.self.now in
    record {
      there = entered_long q c.args.label c.requires.there c.requires.new c.write_label.ensures c.point.ensures;
      inside = entered_inside q c.args.label c.requires.there c.requires.new c.write_label.ensures c.point.ensures;
    }

pub overflow_add-self : goal.overflow_add-self
overflow_add-self g c =
    let q = c.args.self.now in
    let lt : q.count < q.sites = omega (arith, room_left (sound q) c.args.label c.requires.there c.requires.new) in
    search rules

pub invariant_of-self : goal.invariant_of-self
invariant_of-self g c =
    let s = entered_sound (sound c.args.self.now) c.args.label c.requires.there c.requires.new c.write_label.ensures c.point.ensures c.sift_up.ensures.ordered c.sift_up.ensures.moves in
    record { fits = s.fits; room = s.room; linked = s.linked; ordered = s.ordered }

pub returns-clause-offered : goal.returns-clause-offered
returns-clause-offered g c =
    entered_offering (sound c.args.self.now) c.args.label c.requires.there c.requires.new c.write_label.ensures c.point.ensures c.sift_up.ensures.ordered c.sift_up.ensures.moves
