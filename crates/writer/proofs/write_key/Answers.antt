use native.Mathlib.Omega.{arith}
use mathlib.Core.Path.{refl}
use Rattle.std.proofs.lemmas.Result.{err_from_is_err_and}
use borrow.Author.Rules.{rules}
use Rattle.writer.proofs.Tested.{bits_told, strings_fit, refused, written}
use Rattle.writer.proofs.write_key.Goals as goal

pub returns-in_err-cycle : goal.returns-in_err-cycle
returns-in_err-cycle c =
    let p = err_from_is_err_and c.from_residual.result c.from_residual.ensures.1 in
    rw (p.1, p.2) (refused _ _ _ _ _ c.sum_for-sum.ensures c.in_err-cycle.ensures (omega arith))

pub put_numbers-requires : goal.put_numbers-requires
put_numbers-requires c =
    let h = strings_fit _ _ _ _ _ c.sum_for-sum.ensures c.in_ok-cycle.ensures in (bits_told _ _ _ _ c.in_ok-cycle.ensures, omega arith)

pub slice_bounds-put_names-count : goal.slice_bounds-put_names-count
slice_bounds-put_names-count c = let h = strings_fit _ _ _ _ _ c.sum_for-sum.ensures c.in_ok-cycle.ensures in omega (arith, c)

pub slice_bounds-put_names-start : goal.slice_bounds-put_names-start
slice_bounds-put_names-start c = let h = strings_fit _ _ _ _ _ c.sum_for-sum.ensures c.in_ok-cycle.ensures in search rules

pub put_names-requires : goal.put_names-requires
put_names-requires c = let h = strings_fit _ _ _ _ _ c.sum_for-sum.ensures c.in_ok-cycle.ensures in omega (arith, c)

pub returns : goal.returns
returns c = written _ _ _ _ _ c.sum_for-sum.ensures c.in_ok-cycle.ensures c.fixed_part-fixed.ensures.0 (omega arith) c.put_numbers.ensures c.put_names.ensures refl
