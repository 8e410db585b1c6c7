use native.Mathlib.Omega.{arith}
use mathlib.Core.Path.{sym}
use Rattle.wire.proofs.Numbers.{num_in, num_out, value1}
use Rattle.wire.proofs.number.be8.Goals as goal

pub returns-then-s-at : goal.returns-then-s-at
returns-then-s-at c = sym (num_out 1 _ _ (omega arith))

pub returns : goal.returns
returns c =
    let a = c.args in
    omega (arith, num_in 1 a.s.now a.at (omega arith), value1 a.s.now a.at)
