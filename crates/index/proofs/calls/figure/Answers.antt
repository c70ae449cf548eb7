use Rattle.index.specs.Books.{state}
use Rattle.index.proofs.Asking.{asked}
use Rattle.index.proofs.calls.figure.Goals as goal

pub returns : goal.returns
returns g c =
    asked g.N.W.Weight.algebra (g.N.Network.graph (g.N.Network.means c.args.network.now)) (state c.args.book.now) c.args.s c.args.t
    c.in_ok-check_agreed.ensures c.in_ok-check_site.ensures c.in_ok-check_site-2.ensures c.in_ok-check_built.ensures
    c.ask.result c.ask.ensures _ c.ok_or.ensures.value
