use Rattle.std.proofs.Common.{sym, arith}
use Rattle.std.proofs.lemmas.List.{length-take-le}
use Rattle.index.proofs.Calling.{hubs_within, hub_sought}
use Rattle.index.proofs.book.Book.find_hub.Goals as goal

pub slice_bounds-binary_search-end : goal.slice_bounds-binary_search-end
slice_bounds-binary_search-end g c =
    let b = c.args.self.now in
    sym (length-take-le _ b.hub_list.now (omega (arith, b.counted, hubs_within b, b.held.1)))

pub returns : goal.returns
returns g c =
    let b = c.args.self.now in
    hub_sought b c.args.site _ _ b.counted c.binary_search.ensures.position
