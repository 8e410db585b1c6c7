use native.Mathlib.Omega.{arith}
use Rattle.std.proofs.lemmas.Result.{err_from_is_err_and}
use Rattle.audit.proofs.Listings.{same_self, same_then}
use Rattle.audit.proofs.Turns.{rounds_began, rounds_ended, rounds_fault, rounds_less, rounds_again}
use Rattle.audit.proofs.keys.Rows.list_dirs.Goals as goal

pub loop-listed-init : goal.loop-listed-init
loop-listed-init c = (rounds_began _ _ c.requires, same_self)

pub returns-in_err-listed-clause-is : goal.returns-in_err-listed-clause-is
returns-in_err-listed-clause-is c =
    let s = c.loop-listed.invariant.1 in
    let g = rw (s.file, s.head, s.start) at c.in_err-listed.ensures.is in
    let p = err_from_is_err_and c.from_residual.result c.from_residual.ensures.1 in
    rw (p.1, p.2) (rounds_fault c.loop-listed.invariant.0 (omega (arith, c.loop-listed-test.true)) _ _ _ g)

pub loop-listed-smaller : goal.loop-listed-smaller
loop-listed-smaller c =
    let s = c.loop-listed.invariant.1 in
    let g = rw (s.file, s.head, s.start) at c.in_ok-listed.ensures.is in
    rounds_less c.loop-listed.invariant.0 (omega (arith, c.loop-listed-test.true)) _ _ _ g

pub loop-listed-preserved : goal.loop-listed-preserved
loop-listed-preserved c =
    let s = c.loop-listed.invariant.1 in
    let a = c.take_dir.ensures.same in
    let g = rw (s.file, s.head, s.start) at c.in_ok-listed.ensures.is in
    (rounds_again c.loop-listed.invariant.0 (omega (arith, c.loop-listed-test.true)) _ _ _ g a.parts a.owners, same_then s a)

pub returns-clause-is : goal.returns-clause-is
returns-clause-is c = rounds_ended c.loop-listed.invariant.0 (omega (arith, c.loop-listed-test.false))
