use native.Mathlib.Omega.{arith}
use Rattle.salvage.proofs.Reaches.{pass_on}
use Rattle.salvage.proofs.past_zeros.Goals as goal

pub loop-q-preserved : goal.loop-q-preserved
loop-q-preserved c = pass_on c.loop-q.invariant (omega arith) c.requires.1 c.be64.ensures c.if-be64-eq0.true
