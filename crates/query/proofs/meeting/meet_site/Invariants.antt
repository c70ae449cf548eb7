use Rattle.std.proofs.Common.{◌≡◌, length}
use Rattle.network.specs.Links.{left_at, first}
use Rattle.query.proofs.Meetings.{MeetingAt}
use Rattle.query.proofs.meeting.meet_site.Given as goal

abbrev pub invariant-loop-link : goal.invariant-loop-link
invariant-loop-link g l =
    let links = (g.N.Network.graph (g.N.Network.means l.network)).links l.from.site in
    MeetingAt g.N.W.Weight.algebra l.there.ball.now l.from.distance links (left_at links l.link) l.initial.best l.best × (l.link ≡ first (left_at links l.link))

abbrev pub decreases-loop-link : goal.decreases-loop-link
decreases-loop-link g l = length (left_at ((g.N.Network.graph (g.N.Network.means l.network)).links l.from.site) l.link)
