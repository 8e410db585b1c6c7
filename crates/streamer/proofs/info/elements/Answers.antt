use native.Mathlib.Omega.{arith}
use borrow.Author.Rules.{rules}
use Rattle.streamer.specs.Info.{elements_at}
use Rattle.streamer.proofs.Runs.{read_more, read_stopped}
use Rattle.streamer.proofs.info.elements.Goals as goal

pub returns-in_err-rows-clause-run : goal.returns-in_err-rows-clause-run
unfolding elements_at
returns-in_err-rows-clause-run c =
    read_stopped c.loop.invariant.0 _ _ _ _ _ _ (omega arith) c.element.ensures.run c.in_err-rows.was (search rules)

pub loop-preserved : goal.loop-preserved
loop-preserved c =
    let more = read_more c.loop.invariant.0 _ c.element.ensures.run c.in_ok-rows.was (search rules) in
    (more, omega (arith, c.in_ok-rows.ensures.grown, c.loop.invariant.1))
