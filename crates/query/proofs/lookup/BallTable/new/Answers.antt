use Rattle.std.proofs.Common.{◌+◌, sym, subst}
use Rattle.query.proofs.Tabulating.{Tabulating, none_tabled, one_tabled, one_beyond}
use Rattle.query.proofs.lookup.BallTable.new.Goals as goal
use Rattle.query.proofs.lookup.BallTable.new.Goals.{then-site-places, else-site-places}

pub loop-place-init : goal.loop-place-init
loop-place-init g c = none_tabled c.args.ball.now c.args.places.now c.requires.zeros

pub loop-place-preserved : goal.loop-place-preserved
loop-place-preserved g c =
    let ball = c.args.ball.now in
    let n = c.loop-place.place in
    let e = c.index-ball-place.result in
    elim c.if-site-places.branch [
      | then-site-places w ↦ subst (Tabulating ball (n + 1)) (sym w.places-is) (one_tabled ball n c.loop-place.places c.loop-place.invariant c.loop-place-test.true e c.index-ball-place.is w.if-site-places.true)
      | else-site-places w ↦ subst (Tabulating ball (n + 1)) (sym w.places-is) (one_beyond ball n c.loop-place.places c.loop-place.invariant c.loop-place-test.true e c.index-ball-place.is w.if-site-places.false)
    ]
