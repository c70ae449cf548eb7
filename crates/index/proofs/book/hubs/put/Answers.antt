use Rattle.index.proofs.Moving.{moved_up_is}
use Rattle.index.proofs.book.hubs.put.Goals as goal

pub returns : goal.returns
returns c = moved_up_is c.args.hub_list.now c.args.hubs c.args.at _ c.requires.within.0 c.requires.within.1 _ c.rotate_right.ensures.after
