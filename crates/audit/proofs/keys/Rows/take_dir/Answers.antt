use native.Mathlib.Omega.{arith}
use Rattle.std.proofs.lemmas.Result.{err_from_is_err_and}
use Rattle.waiting.proofs.Keeping.{one_waits}
use Rattle.audit.proofs.Turns.{round_fault, round_done}
use Rattle.audit.proofs.keys.Rows.take_dir.Goals as goal

pub list_dir-requires : goal.list_dir-requires
list_dir-requires c =
    (c.requires.0, omega (arith, (one_waits c.requires.0.waiting c.requires.1).0, c.requires.0.sized.parts))

pub returns-in_err-listed-clause-is : goal.returns-in_err-listed-clause-is
returns-in_err-listed-clause-is c =
    let p = err_from_is_err_and c.from_residual.result c.from_residual.ensures.1 in
    rw (p.1, p.2) (round_fault _ _ c.requires.0 c.requires.1 _ _ _ c.in_err-listed.ensures.is)

pub returns-clause-is : goal.returns-clause-is
returns-clause-is c =
    let s = c.list_dir.ensures.same in
    round_done _ _ c.requires.0 c.requires.1 _ _ _ c.in_ok-listed.ensures.is _
    s.parts c.settle.ensures.settled (rw s.start at c.settle.ensures.kept)
