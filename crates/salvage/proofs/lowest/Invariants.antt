use Prim.Native.Nat.{◌-◌}
use Rattle.salvage.proofs.Reaches.{Lowering}
use Rattle.salvage.proofs.lowest.Given as goal

abbrev pub invariant-loop-q : goal.invariant-loop-q
invariant-loop-q l = Lowering l.file l.base l.stop l.initial.seen l.seen l.q

abbrev pub decreases-loop-q : goal.decreases-loop-q
decreases-loop-q l = l.stop - l.q
