use Rattle.report.proofs.Listed.{is_row}
use Rattle.report.proofs.Puts.{room_as, put_as}
use Rattle.report.proofs.rows.Rows.put_row.Goals as goal

pub put_line-requires : goal.put_line-requires
put_line-requires c =
    room_as (is_row _ _ _ _ _ _ c.next_place.ensures c.saturating_sub-size.ensures) c.requires.room

pub returns : goal.returns
returns c = put_as (is_row _ _ _ _ _ _ c.next_place.ensures c.saturating_sub-size.ensures) c.put_line.ensures
