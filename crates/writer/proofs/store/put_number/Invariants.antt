use Rattle.writer.proofs.Stores.{Storing}
use Rattle.writer.proofs.store.put_number.Given as goal

abbrev pub invariant-loop-i : goal.invariant-loop-i
invariant-loop-i l = Storing l.initial.part l.w l.v l.part l.i l.rest

abbrev pub decreases-loop-i : goal.decreases-loop-i
decreases-loop-i l = l.i
