use native.Mathlib.Omega.{arith}
use mathlib.Core.Path.{◌∙◌}
use Rattle.std.proofs.lemmas.Result.{err_from_is_err_and}
use Rattle.chain.proofs.Walks.{stepped, turn, stored, skipped, faulted}
use Rattle.chain.proofs.walk.Goals as goal
use Rattle.chain.proofs.walk.Goals.{then-n-start, else-n-start}

pub loop-at-preserved : goal.loop-at-preserved
loop-at-preserved c =
    turn _ _ _ _ _ _ _ c.loop-at.invariant (stepped _ _ c.in_ok-size.ensures)
    (elim c.if-n-start.branch [
      | then-n-start w ↦ w.start-is ∙ stored c.loop-at.invariant w.if-n-start.true
      | else-n-start w ↦ w.start-is ∙ skipped c.loop-at.invariant w.if-n-start.false
    ])

pub returns-in_err-size : goal.returns-in_err-size
returns-in_err-size c =
    let p = err_from_is_err_and c.from_residual.result c.from_residual.ensures.1 in
    rw (p.1, p.2) (faulted c.loop-at.invariant (omega arith) c.in_err-size.ensures)
