use mathlib.Core.Path.{sym}
use Rattle.report.specs.Report.{line, spaced, closed}
use Rattle.report.proofs.Puts.{room_as, room_front, room_then, put_as, put_then}
use Rattle.report.proofs.line.put_line.Goals as goal

pub put_field-second-requires : goal.put_field-second-requires
unfolding line spaced closed
put_field-second-requires c = room_front _ (room_front _ (room_front _ c.requires))

pub put_field-third-requires : goal.put_field-third-requires
unfolding line spaced closed
put_field-third-requires c =
    room_then c.put_field-second.ensures _ (room_front _ (room_front _ c.requires))

pub put_text-fourth-requires : goal.put_text-fourth-requires
unfolding line spaced closed
put_text-fourth-requires c =
    room_as (sym c.part_name.ensures) (room_then (put_then c.put_field-second.ensures c.put_field-third.ensures) _ (room_front _ c.requires))

pub put_field-requires : goal.put_field-requires
unfolding line spaced closed
put_field-requires c =
    room_then (put_then (put_then c.put_field-second.ensures c.put_field-third.ensures) (put_as (sym c.part_name.ensures) c.put_text-fourth.ensures)) _
    c.requires

pub returns : goal.returns
unfolding line spaced closed
returns c =
    put_then (put_then (put_then c.put_field-second.ensures c.put_field-third.ensures) (put_as (sym c.part_name.ensures) c.put_text-fourth.ensures))
    c.put_field.ensures
