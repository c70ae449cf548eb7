use Rattle.query.proofs.Meetings.{met_one}
use Rattle.query.proofs.meeting.meet_link.Goals as goal

pub returns-in-Some : goal.returns-in-Some
returns-in-Some g c =
    let k = g.W.Weight.algebra in
    met_one k c.args.there.now.ball.now c.args.distance c.args.link c.args.best c.in-Some.rest c.add-in-Some.result c.in-Some.ensures
    (cc) c.lesser_of.result c.lesser_of.ensures
