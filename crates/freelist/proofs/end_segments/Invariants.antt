use Prim.Native.Nat.{◌+◌, ◌-◌}
use Rattle.freelist.proofs.Segments.{Passing}
use Rattle.freelist.proofs.end_segments.Given as goal

abbrev pub invariant-loop-i : goal.invariant-loop-i
invariant-loop-i l = Passing l.wide l.file l.end l.count l.from l.at (l.count + 1 - l._i)
