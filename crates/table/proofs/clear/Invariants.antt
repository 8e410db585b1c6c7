use Rattle.std.proofs.Common.{◌≡◌, take}
use lib.ListN.{replicate}
use Rattle.table.proofs.clear.Given as goal

abbrev pub invariant-loop-number : goal.invariant-loop-number
invariant-loop-number g l = take l.number-index l.number-items ≡ replicate l.number-index g.T.Number.ZERO
