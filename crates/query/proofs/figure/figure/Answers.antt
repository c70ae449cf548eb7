use Rattle.std.proofs.Common.{subst}
use Rattle.query.specs.Hubs.{HubTold}
use Rattle.query.proofs.Asking.{apart_right}
use Rattle.query.proofs.figure.figure.Goals as goal

pub returns : goal.returns
returns g c =
    let k = g.N.W.Weight.algebra in
    let net = c.args.network.now in
    let graph = g.N.Network.graph (g.N.Network.means net) in
    let shows = g.N.Network.lawful.sound (g.N.Network.means net) (g.N.Network.lawful.valid net) in
    λ asked n stand.
    apart_right k graph shows c.args.hub_list.now c.args.site_places.now c.args.rows.now c.args.entries.now c.args.s c.args.t n asked stand c.if-s-t.false
    c.index-site_places-s.result c.index-site_places-t.result c.index-site_places-s.is c.index-site_places-t.is c.meet_balls-meeting.result c.total-hub.result c.meet_balls-meeting.ensures
    (subst (λ m. HubTold k c.args.hub_list.now c.args.rows.now m c.index-site_places-s.result c.index-site_places-t.result c.args.s c.args.t c.total-hub.result) c.sites-sites.ensures c.total-hub.ensures)
    c.lesser.result c.lesser.ensures
