use Rattle.std.proofs.Common.{refl, ap, ◌∙◌, arith}
use Rattle.shortest.proofs.Loops.{offered_spared, running_from, here, running_on, fewer_unsettled, searched}
use Rattle.shortest.proofs.Sound.{sound}
use Rattle.shortest.proofs.search.search.Goals as goal

pub loop-label-init : goal.loop-label-init
loop-label-init g c =
    let k = g.N.W.Weight.algebra in
    let graph = g.N.Network.graph (g.N.Network.means c.args.network.now) in (
      here k graph c.args.source c.args.cut
          (running_from k graph c.args.source c.args.cut
          (omega (arith, c.requires.there, c.requires.sites)) (sound c.args.queue.now) c.requires.empty.0 c.requires.empty.1
          (ap (λ d. record { site = c.args.source; distance = d; before = c.args.source; mark = 0 }) c.zero.ensures) c.offer_below.ensures.offered),
      refl,
    )

pub loop-label-smaller : goal.loop-label-smaller
loop-label-smaller g c =
    fewer_unsettled g.N.W.Weight.algebra (g.N.Network.graph (g.N.Network.means c.args.network.now)) c.args.source c.args.cut
    (sound c.loop-label.queue) c.loop-label.invariant.0 c.in-Some.ensures.one c.settle.ensures.spared c.relax.ensures.relaxed (sound c.settle.new.self)

pub loop-label-preserved : goal.loop-label-preserved
loop-label-preserved g c = (
  running_on g.N.W.Weight.algebra (g.N.Network.graph (g.N.Network.means c.args.network.now)) c.args.source c.args.cut
      (sound c.loop-label.queue) c.loop-label.invariant.0 c.in-Some.ensures.one c.settle.ensures.spared c.relax.ensures.relaxed,
  c.relax.ensures.lender ∙ c.settle.ensures.lender ∙ c.loop-label.invariant.1,
)

pub returns : goal.returns
returns g c =
    let offered = offered_spared c.offer_below.ensures.offered in
    record {
      lender = c.settle.ensures.lender ∙ c.loop-label.invariant.1 ∙ c.offer_below.ensures.lender;
      searched = searched g.N.W.Weight.algebra (g.N.Network.graph (g.N.Network.means c.args.network.now)) c.args.source c.args.cut
          (sound c.loop-label.queue) offered c.loop-label.invariant.0 c.in_default.ensures.one;
    }
