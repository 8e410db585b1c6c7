use mathlib.Core.Path.{refl}
use Rattle.waiting.proofs.Trees.{climb_again}
use Rattle.waiting.proofs.climb.Goals as goal

pub loop-i-preserved : goal.loop-i-preserved
loop-i-preserved c =
    climb_again c.loop-i.invariant c.loop-i-test.true c.node_at-beside.ensures
    c.max-v.ensures _ refl
