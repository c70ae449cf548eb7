use Rattle.std.proofs.Common.{length, ap, ◌∙◌}
use lib.ListN.{length-replicate}
use Rattle.network.proofs.Sound.{shown}
use Rattle.filling.specs.Places.{blank_row}
use Rattle.filling.proofs.Hubs.{labels_within, row_searched, row_left}
use Rattle.filling.proofs.rows.fill_row.Goals as goal
use Rattle.filling.proofs.rows.fill_row.Goals.{in-Some, in_default}

pub write_row-requires : goal.write_row-requires
write_row-requires g c = labels_within c.in-Some.ensures c.sites.ensures (ap length c.requires.row ∙ length-replicate _ blank_row)

pub returns : goal.returns
returns g c =
    let sound = shown g.N.Network.lawful c.args.network.now in
    elim c.match-search_from.branch [
      | in-Some w ↦ row_searched sound c.requires.row c.requires.places c.note_row.ensures w.in-Some.ensures w.sites.ensures w.row-is w.write_row.ensures
      | in_default w ↦ row_left sound c.requires.row c.requires.places c.note_row.ensures c.requires.room w.in_default.ensures w.row-is
    ]
