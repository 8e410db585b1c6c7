use Rattle.waiting.proofs.Trees.{Climbing}
use Rattle.waiting.proofs.climb.Given as goal

abbrev pub invariant-loop-i : goal.invariant-loop-i
invariant-loop-i l = Climbing l.initial.part l.from l.part l.i l.v

abbrev pub decreases-loop-i : goal.decreases-loop-i
decreases-loop-i l = l.i
