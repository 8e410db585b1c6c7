use native.Mathlib.Omega.{arith}
use borrow.Author.Rules.{rules}
use Rattle.streamer.proofs.Runs.{read_more, read_stopped}
use Rattle.streamer.proofs.info.list_objects.Goals as goal

pub returns-in_err-rows : goal.returns-in_err-rows
returns-in_err-rows c =
    read_stopped c.loop-class.invariant.0 _ _ _ _ _ _ (omega arith) c.list_object.ensures.run c.in_err-rows.was (search rules)

pub loop-class-preserved : goal.loop-class-preserved
loop-class-preserved c =
    let more = read_more c.loop-class.invariant.0 _ c.list_object.ensures.run c.in_ok-rows.was (search rules) in
    (more, omega (arith, c.in_ok-rows.ensures.grown, c.loop-class.invariant.1))
