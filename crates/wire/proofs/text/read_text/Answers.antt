use native.Mathlib.Omega.{arith}
use Rattle.wire.proofs.Texts.{is_cut, none_left, short_past, short_held}
use Rattle.wire.proofs.text.read_text.Goals as goal

pub returns-then-s-end : goal.returns-then-s-end
returns-then-s-end c = is_cut _ _ _ (λ h. omega (arith, h))

pub returns-then-end-at : goal.returns-then-end-at
returns-then-end-at c = none_left _ _ _ (omega arith)

pub returns-then-end-at-2 : goal.returns-then-end-at-2
returns-then-end-at-2 c = short_past _ _ _ c.be8-len.ensures (omega arith) (omega arith)

pub returns : goal.returns
returns c = short_held _ _ _ c.be8-len.ensures (omega arith) (omega arith) (omega arith)
