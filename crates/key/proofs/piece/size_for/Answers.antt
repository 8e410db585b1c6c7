use mathlib.Core.Path.{sym}
use native.Mathlib.Omega.{arith}
use Rattle.key.proofs.Pieces.{plus, minus}
use Rattle.key.proofs.piece.size_for.Goals as goal

pub returns-then-n-lt2147483648 : goal.returns-then-n-lt2147483648
returns-then-n-lt2147483648 c = sym (plus _ (omega arith))

pub returns : goal.returns
returns c = let a = c.args in omega (arith, minus a.n (omega arith) (omega arith))
