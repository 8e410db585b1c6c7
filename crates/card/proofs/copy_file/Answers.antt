use Prim.Native.Nat.{ℕ, ◌+◌, ◌*◌}
use mathlib.Core.Path.{refl, ap}
use native.Mathlib.Omega.{arith}
use Rattle.card.proofs.Fills.{copy_began, copy_spans, copy_turn_law}
use Rattle.card.proofs.copy_file.Goals as goal

pub loop-i-init : goal.loop-i-init
loop-i-init c = copy_began _ _ _ c.blocks_for-i-end.ensures (omega arith) (omega arith)

pub overflow_sub-end : goal.overflow_sub-end
overflow_sub-end c = (copy_spans c.loop-i.invariant (omega arith)).0

pub loop-i-preserved : goal.loop-i-preserved
loop-i-preserved c =
    copy_turn_law c.loop-i.invariant (omega arith) refl refl (ap (λ (k : ℕ). c.loop-i.i * 512 + 4 + k) c.least.ensures) c.copy.ensures
