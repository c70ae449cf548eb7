use Rattle.index.proofs.Lending.{rest_kept, filled_back}
use Rattle.index.proofs.book.Book.fill.Goals as goal

pub returns-clause-rest : goal.returns-clause-rest
returns-clause-rest g c = rest_kept c.args.self.now _ _ _ c.fill.auto.site_places c.fill.auto.rows c.fill.auto.entries

pub returns-clause-filled : goal.returns-clause-filled
returns-clause-filled g c =
    filled_back c.args.self.now _ _ _ c.fill.auto.site_places c.fill.auto.rows c.fill.auto.entries g.W.Weight.algebra _ c.args.waiting.now c.fill.new.waiting c.fill.result c.fill.ensures
