use Rattle.report.proofs.Puts.{room_then, put_byte}
use native.Mathlib.Omega.{arith}
use Rattle.report.proofs.field.put_field.Goals as goal

pub returns : goal.returns
returns c =
    let l = room_then c.put_number-last.ensures _ c.requires in put_byte c.put_number-last.ensures _
    (omega (arith, c.put_number-last.ensures))
