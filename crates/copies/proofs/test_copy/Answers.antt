use native.Mathlib.Omega.{arith}
use Rattle.std.proofs.lemmas.Bool.{not_from_true, not_from_false}
use Rattle.record.proofs.Tests.{failed}
use Rattle.keylist.proofs.Records.{copy_lies}
use Rattle.copies.proofs.Copies.{Sought, sought, no_row, never, mark_is, none_there, there, copy_read, copy_passed, copy_bad, copy_wrong, copy_fits}
use Rattle.copies.proofs.test_copy.Goals as goal

pub returns-in_default : goal.returns-in_default
returns-in_default c = copy_bad _ _ _ _ c.read_copy.ensures c.in_default.is

pub returns-in_default-seek_row : goal.returns-in_default-seek_row
returns-in_default-seek_row c =
    copy_wrong _ _ _ _ c.read_copy.ensures c.in-Some.is
    (λ up h. never _ (no_row _ c.in-Some.k.seekkey up c.seek_row.ensures c.in_default-seek_row.is) h.0)

pub returns-in_default-read_record : goal.returns-in_default-read_record
returns-in_default-read_record c =
    copy_wrong _ _ _ _ c.read_copy.ensures c.in-Some.is
    (λ up h. never _ (none_there _ _ c.read_record.ensures.key c.in_default-read_record.is) h.1.0)

pub returns-then-not-same_at : goal.returns-then-not-same_at
returns-then-not-same_at c =
    copy_wrong _ _ _ _ c.read_copy.ensures c.in-Some.is
    (λ up h. failed _ _ c.same_at.ensures (not_from_false _ c.if-not-same_at.true) h.1.1.0)

pub returns-then-k-list : goal.returns-then-k-list
returns-then-k-list c = copy_wrong _ _ _ _ c.read_copy.ensures c.in-Some.is (λ up h. c.if-k-list.true h.1.1.1.0)

pub overflow_add-result : goal.overflow_add-result
overflow_add-result c =
    omega (arith, copy_lies _ _ _ (copy_read _ c.args.start.now c.args.list _ c.read_copy.ensures c.in-Some.is), c.ranges)

pub returns : goal.returns
returns c =
    let row : Sought c.args.start.now c.in-Some.k.seekkey c.in-Some-seek_row.row = sought _ _ _ c.seek_row.ensures c.in-Some-seek_row.is in
    let e = there _ _ c.read_record.ensures.key c.in-Some-read_record.is in
    copy_fits _ _ _ _ c.read_copy.ensures c.in-Some.is
    (copy_passed _ _ _ _ c.in-Some.k row.start e c.same_at.ensures (not_from_true _ c.if-not-same_at.false) c.if-k-list.false)
    row (mark_is _ _ e c.mark_of.ensures)
