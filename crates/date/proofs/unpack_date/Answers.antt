use mathlib.Core.Path.{refl}
use native.Mathlib.Omega.{arith}
use Rattle.date.specs.Date.{unpacked}
use Rattle.date.proofs.Dates.{pack_unpack}
use Rattle.date.proofs.unpack_date.Goals as goal

pub returns : goal.returns
unfolding unpacked
returns c = pack_unpack _ (omega arith) refl
