use Rattle.buffer.proofs.Stores.{Storing}
use Rattle.buffer.proofs.copy.Given as goal

abbrev pub invariant-loop-i : goal.invariant-loop-i
invariant-loop-i l = Storing l.initial.part l.from l.part l.i
