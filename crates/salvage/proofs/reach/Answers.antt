use native.Mathlib.Omega.{arith}
use Rattle.chain.proofs.Walks.{stepped}
use Rattle.salvage.proofs.Reaches.{try_began, try_stopped, try_on}
use Rattle.salvage.proofs.reach.Goals as goal

pub loop-next-init : goal.loop-next-init
loop-next-init c = try_began _ _ _ _ c.requires.0 c.requires.1 c.requires.2

pub returns-in_default : goal.returns-in_default
returns-in_default c = try_stopped c.loop-next.invariant (omega arith) c.in_default.ensures

pub loop-next-preserved : goal.loop-next-preserved
loop-next-preserved c =
    try_on c.loop-next.invariant (omega arith) c.mark.ensures (stepped _ _ c.in-Ok.ensures) c.mark.auto.seen
