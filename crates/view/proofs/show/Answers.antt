use native.Mathlib.Omega.{arith}
use Rattle.view.proofs.Lists.{over_all}
use Rattle.view.proofs.show.Goals as goal

pub returns : goal.returns
returns c = over_all _ c.args.list.now c.loop-i.i c.loop-i.invariant (omega arith)
