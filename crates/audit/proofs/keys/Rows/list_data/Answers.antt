use native.Mathlib.Omega.{arith}
use mathlib.Core.Path.{refl}
use Prim.Native.Nat.{◌+◌, ◌≤◌}
use Rattle.std.proofs.lemmas.Result.{err_from_is_err_and}
use Rattle.audit.proofs.Listings.{faulted}
use Rattle.audit.proofs.Turns.{data_short, data_fault, data_left, data_ended}
use Rattle.audit.proofs.keys.Rows.list_data.Goals as goal

pub returns-then-list-from-lt4-clause-is : goal.returns-then-list-from-lt4-clause-is
returns-then-list-from-lt4-clause-is c = faulted _ _ _ _ refl (data_short _ _ _ _ _ _ _ _ _ (omega (arith, c.if-list-from-lt4.true, c.requires)))

pub returns-in_err-listed-clause-is : goal.returns-in_err-listed-clause-is
returns-in_err-listed-clause-is c =
    let room : c.args.from + 4 ≤ c.args.list.end = omega (arith, c.if-list-from-lt4.false, c.requires) in
    let p = err_from_is_err_and c.from_residual.result c.from_residual.ensures.1 in
    rw (p.1, p.2) (data_fault _ _ _ _ _ _ _ _ _ room c.be32-count.ensures _ _ _ c.in_err-listed.ensures.is)

pub returns-then-listed-list-clause-is : goal.returns-then-listed-list-clause-is
returns-then-listed-list-clause-is c =
    let room : c.args.from + 4 ≤ c.args.list.end = omega (arith, c.if-list-from-lt4.false, c.requires) in
    data_left _ _ _ _ _ _ _ _ _ room c.be32-count.ensures _ _ _ c.in_ok-listed.ensures.is c.if-listed-list.true

pub returns-clause-is : goal.returns-clause-is
returns-clause-is c =
    let room : c.args.from + 4 ≤ c.args.list.end = omega (arith, c.if-list-from-lt4.false, c.requires) in
    data_ended _ _ _ _ _ _ _ _ _ room c.be32-count.ensures _ _ _ c.in_ok-listed.ensures.is c.if-listed-list.false
