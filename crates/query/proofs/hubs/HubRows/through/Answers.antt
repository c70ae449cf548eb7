use Rattle.std.proofs.Common.{◌+◌, ◌*◌, ◌<◌, length, ◌∙◌, rules}
use Rattle.query.specs.Hubs.{unlisted, unreached, reached}
use Rattle.query.proofs.Placing.{row_fits, row_distance}
use Rattle.query.proofs.hubs.HubRows.through.Goals as goal

pub bounds-self-row : goal.bounds-self-row
bounds-self-row g c = row_fits c.in_ok-row.row (length c.args.self.now.hub_list.now) c.args.self.now.sites c.args.to (length c.args.self.now.rows.now) c.in_ok-row.ensures.0 c.requires c.args.self.now.row_each

pub offset_bounds-self-row : goal.offset_bounds-self-row
offset_bounds-self-row g c = let lt : c.in_ok-row.row * c.args.self.now.sites + c.args.to < length c.args.self.now.rows.now = bounds-self-row g c in search rules

pub returns-in_err-row : goal.returns-in_err-row
returns-in_err-row g c = unlisted c.in_ok-place.field-0 c.in_ok-place.was c.in_err-row.ensures c.from_residual-in_err-row.ensures

pub returns-in_err-rest : goal.returns-in_err-rest
returns-in_err-rest g c = unreached c.in_ok-place.field-0 c.in_ok-row.row c.in_ok-place.was c.in_ok-row.ensures (row_distance c.args.self.now.rows.now _ c.index-self-row.result (row_fits c.in_ok-row.row (length c.args.self.now.hub_list.now) c.args.self.now.sites c.args.to (length c.args.self.now.rows.now) c.in_ok-row.ensures.0 c.requires c.args.self.now.row_each) ∙ c.in_err-rest.was) c.from_residual-in_err-rest.ensures

pub returns : goal.returns
returns g c =
    reached c.in_ok-radius.radius c.in_ok-place.field-0 c.in_ok-row.row c.in_ok-rest.rest c.in_ok-radius.was c.in_ok-place.was c.in_ok-row.ensures
    (row_distance c.args.self.now.rows.now _ c.index-self-row.result (row_fits c.in_ok-row.row (length c.args.self.now.hub_list.now) c.args.self.now.sites c.args.to (length c.args.self.now.rows.now) c.in_ok-row.ensures.0 c.requires c.args.self.now.row_each) ∙ c.in_ok-rest.was)
    cc
