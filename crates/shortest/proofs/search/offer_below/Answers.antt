use Rattle.std.proofs.Common.{rules}
use Rattle.shortest.specs.Searches.{offered}
use Rattle.shortest.proofs.search.offer_below.Goals as goal

pub returns-then-is_below-clause-offered : goal.returns-then-is_below-clause-offered
returns-then-is_below-clause-offered g c = offered (search rules) c.offer.ensures.offered
