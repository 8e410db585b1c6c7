use mathlib.Core.Path.{◌≡◌}
use mir.Val.{to_z, of_z}
use mir.Syntax.{w32}
use Rattle.capi.proofs.Shown.{cycle_bits}
use borrow.Author.Rules.{rules}
use Rattle.capi.proofs.stored_cycle.Goals as goal

pub returns-in-Some : goal.returns-in-Some
returns-in-Some c =
    let i : to_z w32 (of_z w32 c.args.z) ≡ c.args.z = search rules in
    cycle_bits c.in-Some.is c.bits_of.ensures i

pub returns-in-None : goal.returns-in-None
returns-in-None c =
    let i : to_z w32 (of_z w32 c.args.z) ≡ c.args.z = search rules in
    cycle_bits c.in-None.is c.bits_of.ensures i
