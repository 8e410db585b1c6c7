use Rattle.report.proofs.Listed.{fit_began, fit_turn, fit_failed}
use Rattle.report.proofs.rows.Rows.fit.Goals as goal

pub loop-i-init : goal.loop-i-init
loop-i-init c = fit_began _ _ _ _ _ c.in-Some.ensures.0 c.in-Some.ensures.1

pub returns-then-left-size : goal.returns-then-left-size
returns-then-left-size c =
    fit_failed _ _ _ _ _ c.loop-i.i c.args.first c.args.room _ _ c.loop-i.invariant c.row_length-size.ensures c.loop-i-test.true c.if-left-size.true

pub loop-i-preserved : goal.loop-i-preserved
loop-i-preserved c = fit_turn _ _ _ _ _ c.loop-i.i c.args.first c.args.room _ _ c.loop-i.invariant c.row_length-size.ensures c.if-left-size.false
