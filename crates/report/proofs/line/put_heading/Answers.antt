use native.Mathlib.Omega.{arith}
use Rattle.report.specs.Report.{decimal, spaced, closed}
use Rattle.report.proofs.Puts.{room_as, room_front, room_then, put_as, put_then}
use Rattle.report.proofs.Words.{is_passed, is_unfinished, is_refused}
use Rattle.report.proofs.line.put_heading.Goals as goal

pub put_text-at-requires : goal.put_text-at-requires
unfolding spaced closed
put_text-at-requires c = room_front _ (room_as (is_passed _ c.in-0.is) c.requires)

pub put_field-requires : goal.put_field-requires
unfolding spaced closed
put_field-requires c = room_then c.put_text-at.ensures _ (room_as (is_passed _ c.in-0.is) c.requires)

pub returns-in-0 : goal.returns-in-0
unfolding spaced closed
returns-in-0 c = put_as (is_passed _ c.in-0.is) (put_then c.put_text-at.ensures c.put_field.ensures)

pub put_text-at-requires-in-7 : goal.put_text-at-requires-in-7
unfolding spaced closed
put_text-at-requires-in-7 c = room_front _ (room_as (is_unfinished _ c.in-7.is) c.requires)

pub put_field-requires-in-7 : goal.put_field-requires-in-7
unfolding spaced closed
put_field-requires-in-7 c = room_then c.put_text-at-in-7.ensures _ (room_as (is_unfinished _ c.in-7.is) c.requires)

pub returns-in-7 : goal.returns-in-7
unfolding spaced closed
returns-in-7 c = put_as (is_unfinished _ c.in-7.is) (put_then c.put_text-at-in-7.ensures c.put_field-in-7.ensures)

pub put_text-second-requires : goal.put_text-second-requires
unfolding spaced closed
put_text-second-requires c =
    room_front (spaced (decimal c.args.a.number)) (room_front _ (room_as (is_refused _ (λ e. omega arith) (λ e. omega arith)) c.requires))

pub put_field-third-requires : goal.put_field-third-requires
unfolding spaced closed
put_field-third-requires c =
    room_then c.put_text-second.ensures _ (room_front _ (room_as (is_refused _ (λ e. omega arith) (λ e. omega arith)) c.requires))

pub put_field-requires-in_default : goal.put_field-requires-in_default
unfolding spaced closed
put_field-requires-in_default c =
    room_then (put_then c.put_text-second.ensures c.put_field-third.ensures) _
    (room_as (is_refused _ (λ e. omega arith) (λ e. omega arith)) c.requires)

pub returns-in_default : goal.returns-in_default
unfolding spaced closed
returns-in_default c =
    put_as (is_refused _ (λ e. omega arith) (λ e. omega arith))
    (put_then (put_then c.put_text-second.ensures c.put_field-third.ensures) c.put_field-in_default.ensures)
