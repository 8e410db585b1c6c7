use Rattle.writer.proofs.Stores.{Laying}
use Rattle.writer.proofs.store.put_values.Given as goal

abbrev pub invariant-loop-w : goal.invariant-loop-w
invariant-loop-w l = Laying l.initial.part l.numbers l.part l.at l.w-index
