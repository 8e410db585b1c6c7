use native.Mathlib.Omega.{arith}
use mathlib.Core.Path.{refl}
use Rattle.classname.specs.Name.{name_of}
use Rattle.classname.proofs.Lengths.{decides}
use Rattle.classname.proofs.Tables.{no_class, no_candidate, row_below, candidate_at}
use Rattle.classname.proofs.name.candidate.Goals as goal

pub returns-then-len-lt-SHORTEST : goal.returns-then-len-lt-SHORTEST
returns-then-len-lt-SHORTEST c = decides (no_class _ _ (λ d h e. omega (arith, h, e)))

pub returns-in_err-i : goal.returns-in_err-i
unfolding name_of
returns-in_err-i c = rw c.from_residual.ensures (decides (no_candidate _ _ c.rows_of-first.ensures _ refl c.first_byte.ensures c.in_err-i.was))

pub overflow_add-first : goal.overflow_add-first
unfolding name_of
overflow_add-first c = omega (arith, row_below _ _ c.rows_of-first.ensures _ refl c.first_byte.ensures c.in_ok-i.was)

pub returns : goal.returns
unfolding name_of
returns c = decides (candidate_at _ _ c.rows_of-first.ensures _ refl c.first_byte.ensures c.in_ok-i.was _ refl c.be8.ensures)
