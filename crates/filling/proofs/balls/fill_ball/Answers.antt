use Rattle.std.proofs.Common.{refl}
use Rattle.filling.proofs.Entries.{ball_filled}
use Rattle.filling.proofs.balls.fill_ball.Goals as goal

pub returns : goal.returns
returns g c = ball_filled _ _ _ _ _ _ _ c.in_ok-count.ensures _ _ _ _ refl c.if-end-entries.false _ c.sites.ensures c.write_ball.ensures
