use Rattle.std.proofs.Common.{arith}
use Rattle.index.specs.Books.{state}
use Rattle.index.proofs.Calling.{place_below, hubs_within, less, unnamed_lists, unnamed}
use Rattle.index.proofs.Sizing.{site_there}
use Rattle.index.proofs.book.Book.unname.Goals as goal

pub take_out-requires : goal.take_out-requires
take_out-requires g c =
    let b = c.args.self.now in
    record { within = (place_below b c.args.site _ _ c.hubs-hubs.ensures c.in-Ok.ensures, omega (arith, c.hubs-hubs.ensures, hubs_within b, b.held.1)) }

pub invariant_of-self-clause-ordered : goal.invariant_of-self-clause-ordered
invariant_of-self-clause-ordered g c =
    (unnamed_lists c.args.self.now c.args.site _ _ c.hubs-hubs.ensures c.in-Ok.ensures _ c.take_out.ensures).order

pub invariant_of-self-clause-counted : goal.invariant_of-self-clause-counted
invariant_of-self-clause-counted g c =
    let b = c.args.self.now in
    let l = unnamed_lists b c.args.site _ _ c.hubs-hubs.ensures c.in-Ok.ensures _ c.take_out.ensures in
    omega (arith, l.counted, less b c.args.site _ _ c.hubs-hubs.ensures c.in-Ok.ensures, c.hubs-hubs.ensures)

pub returns : goal.returns
returns g c =
    let b = c.args.self.now in
    let k = g.W.Weight.algebra in
    let l = unnamed_lists b c.args.site _ _ c.hubs-hubs.ensures c.in-Ok.ensures _ c.take_out.ensures in
    unnamed b c.args.site _ _ c.hubs-hubs.ensures c.in-Ok.ensures k (site_there (state b) c.args.site c.in_ok-check_site.ensures) _ _ l c.unbuild.ensures
