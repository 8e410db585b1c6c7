use native.Mathlib.Omega.{arith}
use mathlib.Core.Path.{refl}
use Rattle.cardstore.proofs.Fills.{write_began, write_to, write_turn}
use Rattle.cardstore.proofs.put_card.Goals as goal

pub loop-i-init : goal.loop-i-init
loop-i-init c = write_began _ _ (omega arith) (omega arith) (omega arith)

pub slice_bounds-put_block-count-in-loop-i : goal.slice_bounds-put_block-count-in-loop-i
slice_bounds-put_block-count-in-loop-i c = (write_to c.loop-i.invariant (omega arith) c.least-to.ensures).0

pub slice_bounds-put_block-start-in-loop-i : goal.slice_bounds-put_block-start-in-loop-i
slice_bounds-put_block-start-in-loop-i c =
    let f = write_to c.loop-i.invariant (omega arith) c.least-to.ensures in
    omega arith

pub loop-i-preserved : goal.loop-i-preserved
loop-i-preserved c =
    write_turn c.loop-i.invariant (omega arith) refl refl c.least-to.ensures c.put_block.ensures
