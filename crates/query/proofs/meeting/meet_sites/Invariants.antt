use Rattle.query.proofs.Meetings.{MeetingOver}
use Rattle.query.proofs.meeting.meet_sites.Given as goal

abbrev pub invariant-loop-entry : goal.invariant-loop-entry
invariant-loop-entry g l = MeetingOver g.N.W.Weight.algebra (g.N.Network.graph (g.N.Network.means l.network)) l.ball l.there.ball.now l.entry-index l.best
