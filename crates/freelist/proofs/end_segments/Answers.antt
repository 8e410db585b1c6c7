use Prim.Native.Nat.{◌+◌, ◌-◌}
use native.Mathlib.Omega.{arith}
use mathlib.Core.Path.{◌≡◌, sym, ◌∙◌}
use Rattle.freelist.proofs.Segments.{next_passed, next_bad, last_left}
use Rattle.freelist.proofs.end_segments.Goals as goal

pub returns-in_default : goal.returns-in_default
returns-in_default c =
    next_bad c.loop-i.invariant (sym c.in_default.is ∙ c.read_segment.ensures) (omega arith)

pub loop-i-preserved : goal.loop-i-preserved
loop-i-preserved c =
    let e : c.args.count + 1 - (c.loop-i._i + 1) ≡ c.args.count + 1 - c.loop-i._i - 1 = omega arith in
    rw e (next_passed c.loop-i.invariant (sym c.in-Some.is ∙ c.read_segment.ensures) (omega arith))

pub returns : goal.returns
returns c = last_left c.loop-i.invariant (omega arith) c.is_final.ensures
