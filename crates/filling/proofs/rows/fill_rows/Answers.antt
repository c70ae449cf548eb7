use Rattle.std.proofs.Common.{◌*◌, ◌≤◌, length, arith, rules}
use borrow.Author.Rules.{scaled_fits≤}
use Rattle.filling.proofs.Rowing.{no_rows, row_ends, row_blank, rows_more, all_rows, listed_to_blank}
use Rattle.filling.proofs.rows.fill_rows.Goals as goal

pub loop-at-init : goal.loop-at-init
loop-at-init g c = no_rows c.requires.places

pub slice_bounds-fill_row-end : goal.slice_bounds-fill_row-end
slice_bounds-fill_row-end g c = row_ends c.loop-at.invariant c.requires.rows c.loop-at-test.true c.sites-sites.ensures

pub offset_bounds-rows-first : goal.offset_bounds-rows-first
offset_bounds-rows-first g c =
    let inside : c.loop-at.at * c.sites-sites.result ≤ length c.args.rows.now = omega (arith, slice_bounds-fill_row-end g c, c.loop-at.auto.rows) in
    search (rules, scaled_fits≤)

pub fill_row-requires-clause-row : goal.fill_row-requires-clause-row
fill_row-requires-clause-row g c = row_blank c.loop-at.invariant c.requires.rows c.loop-at-test.true c.sites-sites.ensures

pub loop-at-preserved : goal.loop-at-preserved
loop-at-preserved g c = rows_more c.loop-at.invariant c.requires.rows c.loop-at-test.true c.sites-sites.ensures c.in-Some.is c.fill_row.ensures

pub returns-in_default : goal.returns-in_default
returns-in_default g c = all_rows c.loop-at.invariant (listed_to_blank c.args.hub_list.now c.loop-at.at c.loop-at-test.true c.in_default.is)
