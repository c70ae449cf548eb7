use Rattle.std.proofs.Common.{◌≡◌, Err}
use Rattle.filling.specs.declared.tables.Unfilled.TheVariants as unfilled
use Rattle.index.proofs.Building.{build_granted, build_exceeding}
use Rattle.index.proofs.book.Book.build.Goals as goal

pub returns-in-Ok : goal.returns-in-Ok
returns-in-Ok g c =
    build_granted g.W.Weight.algebra _ c.args.waiting.now _ c.args.self.now c.fill.new.self c.requires.agreed c.in-Ok.ensures.rest c.in-Ok.count c.in-Ok.ensures.filled

pub returns-in-Err-NoRoom : goal.returns-in-Err-NoRoom
returns-in-Err-NoRoom g c =
    let is : c.fill.result ≡ Err (unfilled.NoRoom c.in-Err-NoRoom.site) = cc in
    build_exceeding g.W.Weight.algebra _ c.args.waiting.now _ c.args.self.now c.fill.new.self c.requires.agreed c.fill.ensures.rest c.in-Err-NoRoom.site c.fill.result is c.fill.ensures.filled
