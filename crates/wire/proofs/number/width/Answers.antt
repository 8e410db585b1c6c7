use native.Mathlib.Omega.{arith}
use Rattle.wire.specs.Layout.{width_of}
use Rattle.wire.proofs.number.width.Goals as goal

pub returns-then-wide : goal.returns-then-wide
unfolding width_of
returns-then-wide c = rw c.if-wide.true (omega arith)

pub returns : goal.returns
unfolding width_of
returns c = rw c.if-wide.false (omega arith)
