use Prim.Native.Nat.{◌+◌}
use lib.ListN.{length}
use mathlib.Core.Path.{◌≡◌}
use Rattle.report.specs.Put.{lines_of}
use Rattle.report.proofs.rows.Rows.fit.Given as goal

abbrev pub invariant-loop-i : goal.invariant-loop-i
invariant-loop-i l = l.first + length (lines_of l.self l.i) + l.left ≡ l.room
