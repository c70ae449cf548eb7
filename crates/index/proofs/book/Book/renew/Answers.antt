use Rattle.std.proofs.Common.{None, refl}
use Rattle.index.specs.Books.{state}
use Rattle.index.proofs.Blanking.{blanked_is, none_ordered}
use Rattle.index.proofs.Sizing.{hubs_held}
use Rattle.index.proofs.book.Book.renew.Goals as goal

pub invariant_of-self-clause-ordered : goal.invariant_of-self-clause-ordered
invariant_of-self-clause-ordered g c =
    let xs = c.args.self.now.hub_list.now in
    let n = c.args.sizes.hub_places in
    let held = hubs_held (state c.args.self.now) c.args.sizes.sites n c.args.sizes.entry_places c.in_ok-check_sizes.ensures in
    none_ordered c.args.sizes.sites n xs _ (blanked_is xs n _ _ held c.overwrite.ensures None refl)
