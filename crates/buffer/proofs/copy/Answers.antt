use native.Mathlib.Omega.{arith}
use Rattle.buffer.proofs.Stores.{store_ended}
use Rattle.buffer.proofs.copy.Goals as goal

pub returns-after-loop-i : goal.returns-after-loop-i
returns-after-loop-i c = store_ended c.loop-i.invariant (omega (arith, c.loop-i-test.false))
