use mathlib.Core.Path.{refl}
use native.Mathlib.Omega.{arith}
use Rattle.date.specs.Date.{packed}
use Rattle.date.proofs.Dates.{taken}
use Rattle.date.proofs.pack_date.Goals as goal

pub returns : goal.returns
unfolding packed
returns c = taken _ _ refl (omega arith)
