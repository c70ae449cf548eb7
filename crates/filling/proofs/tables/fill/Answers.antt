use Rattle.std.proofs.Common.{length, ap, sym, ◌∙◌, arith}
use lib.ListN.{length-replicate}
use Rattle.filling.specs.Places.{blank_site}
use Rattle.filling.proofs.Filling.{all_filled, none_filled}
use Rattle.filling.proofs.tables.fill.Goals as goal

pub fill_balls-filled-requires-clause-places : goal.fill_balls-filled-requires-clause-places
fill_balls-filled-requires-clause-places g c =
    let fits = c.fit.ensures.0 c.if-not-fit.false in
    c.fill_rows.ensures.place_size ∙ ap length c.blank_all.ensures.sites ∙ length-replicate (length c.args.site_places.now) blank_site ∙ fits.one_each ∙ c.sites-sites.ensures

pub fill_balls-filled-requires-clause-room : goal.fill_balls-filled-requires-clause-room
fill_balls-filled-requires-clause-room g c =
    let fits = c.fit.ensures.0 c.if-not-fit.false in
    omega (arith, fits.room, c.fill_rows.ensures.spared.size)

pub slice_bounds-overwrite-end : goal.slice_bounds-overwrite-end
slice_bounds-overwrite-end g c =
    let fits = c.fit.ensures.0 c.if-not-fit.false in
    omega (arith, fits.room, c.fill_rows.ensures.spared.size, c.fill_balls-filled.ensures.spared.size)

pub returns-else-is_err : goal.returns-else-is_err
returns-else-is_err g c =
    let blanks = c.blank_all.ensures in
    all_filled _ _ c.sites-sites.ensures (c.fit.ensures.0 c.if-not-fit.false) blanks.sites blanks.rows blanks.entries c.fill_rows.ensures
    _ _ c.default.ensures c.overwrite.ensures c.fill_balls-filled.ensures (sym c.if-is_err.ensures.value)

pub returns-then-is_err : goal.returns-then-is_err
returns-then-is_err g c =
    let blanks = c.blank_all.ensures in
    let again = c.blank_all-then-is_err.ensures in
    none_filled _ _ c.sites-sites.ensures (c.fit.ensures.0 c.if-not-fit.false) blanks.sites blanks.rows blanks.entries c.fill_rows.ensures
    _ _ c.default.ensures c.overwrite.ensures c.fill_balls-filled.ensures (sym c.if-is_err.ensures.value) again.sites again.rows again.entries
