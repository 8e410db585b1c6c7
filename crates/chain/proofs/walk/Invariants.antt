use Prim.Native.Nat.{◌-◌}
use lib.ListN.{length}
use Rattle.chain.proofs.Walks.{Walking}
use Rattle.chain.proofs.walk.Given as goal

abbrev pub invariant-loop-at : goal.invariant-loop-at
invariant-loop-at l = Walking l.file l.initial.start l.start l.at l.n

abbrev pub decreases-loop-at : goal.decreases-loop-at
decreases-loop-at l = length l.file - l.at
