use Rattle.std.proofs.Common.{arith}
use Rattle.filling.proofs.Laying.{laid_more, no_room, all_laid}
use Rattle.filling.proofs.balls.fill_balls.Goals as goal

pub returns-in_default : goal.returns-in_default
returns-in_default g c = no_room c.loop-site.invariant (omega arith) c.requires.places c.index-site_places-site.result c.in_default.ensures

pub loop-site-preserved : goal.loop-site-preserved
loop-site-preserved g c = laid_more c.loop-site.invariant (omega arith) c.requires.places c.index-site_places-site.result c.in-Some.ensures

pub returns : goal.returns
returns g c = all_laid c.loop-site.invariant (omega arith)
