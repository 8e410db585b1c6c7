use native.Mathlib.Omega.{arith}
use Rattle.std.proofs.lemmas.Result.{err_from_is_err_and}
use Rattle.card.proofs.Loops.{scan_turn, scan_found, scan_ended}
use Rattle.card.proofs.test_blocks.Goals as goal

pub returns-in_err-test_block : goal.returns-in_err-test_block
returns-in_err-test_block c =
    let p = err_from_is_err_and c.from_residual.result c.from_residual.ensures.1 in
    rw (p.1, p.2) (scan_found _ _ _ c.loop-number.invariant _ (omega arith) c.in_err-test_block.ensures)

pub loop-number-preserved : goal.loop-number-preserved
loop-number-preserved c = scan_turn _ _ _ c.loop-number.invariant (omega arith) c.in_ok-test_block.ensures

pub returns : goal.returns
returns c = scan_ended _ _ _ c.loop-number.invariant (omega arith)
