use Rattle.query.proofs.Meetings.{one_site, all_sites}
use Rattle.query.proofs.meeting.meet_sites.Goals as goal

pub loop-entry-preserved : goal.loop-entry-preserved
loop-entry-preserved g c =
    one_site g.N.W.Weight.algebra (g.N.Network.graph (g.N.Network.means c.args.network.now)) c.args.ball.now c.args.there.now.ball.now c.loop-entry.entry-index c.entry-item.result c.loop-entry.best c.meet_site-best.result
    c.loop-entry-test.true c.entry-item.is c.loop-entry.invariant c.meet_site-best.ensures

pub returns : goal.returns
returns g c = all_sites g.N.W.Weight.algebra (g.N.Network.graph (g.N.Network.means c.args.network.now)) c.args.ball.now c.args.there.now.ball.now c.loop-entry.entry-index c.loop-entry.best c.loop-entry-test.false c.loop-entry.invariant
