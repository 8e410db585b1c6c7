use native.Mathlib.Omega.{arith}
use mathlib.Core.Path.{refl}
use Rattle.classname.specs.Name.{name_of}
use Rattle.classname.specs.Length.{shorter_in}
use Rattle.classname.proofs.Tables.{counted}
use Rattle.classname.proofs.name.rows_of.Goals as goal

pub returns : goal.returns
unfolding name_of shorter_in
returns c = counted _ refl _ (omega arith) (omega arith) c.be8.ensures c.be8-2.ensures
