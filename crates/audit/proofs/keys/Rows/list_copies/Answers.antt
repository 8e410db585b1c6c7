use Prim.Native.Nat.{◌+◌, ◌-◌}
use mathlib.Core.Path.{◌≡◌}
use Rattle.std.proofs.lemmas.Bool.{not_from_true, not_from_false}
use Rattle.std.proofs.lemmas.Result.{err_from_is_err_and}
use native.Mathlib.Omega.{arith}
use Rattle.audit.proofs.Listings.{test_stopped, claim_stopped, copied, all_copied, same_then}
use Rattle.audit.proofs.keys.Rows.list_copies.Goals as goal

pub returns-in_err-g-clause-is : goal.returns-in_err-g-clause-is
returns-in_err-g-clause-is c =
    let s = c.loop-i.invariant.1 in
    let t = rw (s.file, s.start) at c.test_copy.ensures in
    let p = err_from_is_err_and c.from_residual.result c.from_residual.ensures.1 in
    rw (p.1, p.2) (test_stopped c.loop-i.invariant.0 (omega arith) t _ _ c.in_err-g.was)

pub returns-then-not-assign_part-clause-is : goal.returns-then-not-assign_part-clause-is
returns-then-not-assign_part-clause-is c =
    let s = c.loop-i.invariant.1 in
    let t = rw (s.file, s.start) at c.test_copy.ensures in
    claim_stopped c.loop-i.invariant.0 (omega arith) t c.in_ok-g.was
    c.assign_part.ensures.is _ _ (not_from_false _ c.if-not-assign_part.true)

pub loop-i-preserved : goal.loop-i-preserved
loop-i-preserved c =
    let s = c.loop-i.invariant.1 in
    let a = c.assign_part.ensures.same in
    let b = c.mark_dir-kept.ensures.same in
    let t = rw (s.file, s.start) at c.test_copy.ensures in
    let m = rw (a.start, s.start) at c.mark_dir-kept.ensures.is in
    let e : c.args.count - (c.loop-i._i + 1) ≡ c.args.count - c.loop-i._i - 1 = omega arith in (
      rw (e, c.mark_dir-kept.ensures.owners)
          (copied c.loop-i.invariant.0 (omega arith) t c.in_ok-g.was
          c.assign_part.ensures.is (not_from_true _ c.if-not-assign_part.false) m a.parts b.parts a.owners),
      same_then (same_then s a) b,
    )

pub returns-clause-is : goal.returns-clause-is
returns-clause-is c = all_copied c.loop-i.invariant.0 (omega arith)
