use Rattle.std.proofs.Common.{◌∙◌, arith, subst}
use Rattle.shortest.specs.States.{state}
use Rattle.shortest.proofs.Relaxing.{UnderWay, link_there, one_link_more, all_looked_at}
use Rattle.shortest.proofs.Sound.{sound}
use Rattle.shortest.proofs.search.relax.Goals as goal

pub relax_link-requires : goal.relax_link-requires
relax_link-requires g c =
    let net = c.args.network.now in
    let graph = g.N.Network.graph (g.N.Network.means net) in
    let shows = g.N.Network.lawful.sound (g.N.Network.means net) (g.N.Network.lawful.valid net) in
    let u = c.loop-link.invariant.0 in
    let there = link_there g.N.W.Weight.algebra graph c.args.cut (state c.args.queue.now) c.args.from (subst (UnderWay g.N.W.Weight.algebra graph c.args.cut (state c.args.queue.now) c.args.from (state c.loop-link.queue)) c.in-Some.ensures.steps u) in
    omega (arith, shows.far_exists c.args.from.site c.in-Some.link there, u.spared.sites, c.requires.sites)

pub loop-link-preserved : goal.loop-link-preserved
loop-link-preserved g c =
    let net = c.args.network.now in
    let graph = g.N.Network.graph (g.N.Network.means net) in
    let shows = g.N.Network.lawful.sound (g.N.Network.means net) (g.N.Network.lawful.valid net) in
    let u = subst (UnderWay g.N.W.Weight.algebra graph c.args.cut (state c.args.queue.now) c.args.from (state c.loop-link.queue)) c.in-Some.ensures.steps c.loop-link.invariant.0 in (
      one_link_more g.N.W.Weight.algebra graph c.args.cut (state c.args.queue.now) c.args.from u shows (sound c.loop-link.queue) c.relax_link.ensures.offered,
      c.relax_link.ensures.lender ∙ c.loop-link.invariant.1,
    )

pub returns-clause-relaxed : goal.returns-clause-relaxed
returns-clause-relaxed g c =
    let net = c.args.network.now in
    let graph = g.N.Network.graph (g.N.Network.means net) in
    let shows = g.N.Network.lawful.sound (g.N.Network.means net) (g.N.Network.lawful.valid net) in
    all_looked_at g.N.W.Weight.algebra graph c.args.cut (state c.args.queue.now) c.args.from shows (subst (UnderWay g.N.W.Weight.algebra graph c.args.cut (state c.args.queue.now) c.args.from (state c.loop-link.queue)) c.in-None.ensures.steps.0 c.loop-link.invariant.0)
