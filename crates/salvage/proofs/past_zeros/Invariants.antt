use Prim.Native.Nat.{◌-◌}
use Rattle.salvage.specs.Mark.{Passed}
use Rattle.salvage.proofs.past_zeros.Given as goal

abbrev pub invariant-loop-q : goal.invariant-loop-q
invariant-loop-q l = Passed l.file l.from l.stop l.q

abbrev pub decreases-loop-q : goal.decreases-loop-q
decreases-loop-q l = l.stop - l.q
