use Rattle.std.proofs.Common.{arith}
use Rattle.index.specs.Books.{state, hubs_of}
use Rattle.index.proofs.Calling.{place_within, named_lists, named}
use Rattle.index.proofs.Listing.{length-insert}
use Rattle.index.proofs.Sizing.{site_there}
use Rattle.index.proofs.book.Book.name.Goals as goal

pub put-requires : goal.put-requires
put-requires g c =
    let b = c.args.self.now in
    record { within = (place_within b c.args.site _ _ c.hubs-hubs.ensures c.in-Err.ensures, omega (arith, b.held.1)) }

pub invariant_of-self-clause-ordered : goal.invariant_of-self-clause-ordered
invariant_of-self-clause-ordered g c =
    let b = c.args.self.now in
    (named_lists b c.args.site _ _ c.hubs-hubs.ensures c.in-Err.ensures (site_there (state b) c.args.site c.in_ok-check_site.ensures) c.if-hubs-self.false _ c.put.ensures).order

pub invariant_of-self-clause-counted : goal.invariant_of-self-clause-counted
invariant_of-self-clause-counted g c =
    let b = c.args.self.now in
    let l = named_lists b c.args.site _ _ c.hubs-hubs.ensures c.in-Err.ensures (site_there (state b) c.args.site c.in_ok-check_site.ensures) c.if-hubs-self.false _ c.put.ensures in
    omega (arith, l.counted, length-insert c.args.site (hubs_of (state b)), c.hubs-hubs.ensures)

pub returns : goal.returns
returns g c =
    let b = c.args.self.now in
    let k = g.W.Weight.algebra in
    let l = named_lists b c.args.site _ _ c.hubs-hubs.ensures c.in-Err.ensures (site_there (state b) c.args.site c.in_ok-check_site.ensures) c.if-hubs-self.false _ c.put.ensures in
    named b c.args.site _ _ c.hubs-hubs.ensures c.in-Err.ensures k (site_there (state b) c.args.site c.in_ok-check_site.ensures) c.if-hubs-self.false _ _ l c.unbuild.ensures
