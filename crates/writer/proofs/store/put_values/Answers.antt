use Rattle.writer.proofs.Stores.{lay_room, lay_turn}
use native.Mathlib.Omega.{arith}
use Rattle.writer.proofs.store.put_values.Goals as goal

pub put_number-requires : goal.put_number-requires
put_number-requires c = omega (arith, lay_room c.loop-w.invariant (omega arith))

pub overflow_add-at : goal.overflow_add-at
overflow_add-at c = omega (arith, lay_room c.loop-w.invariant (omega arith), c)

pub loop-w-preserved : goal.loop-w-preserved
loop-w-preserved c = lay_turn c.loop-w.invariant (omega arith) c.put_number.ensures
