use Rattle.card.proofs.Loops.{Scanning}
use Rattle.card.proofs.test_blocks.Given as goal

abbrev pub invariant-loop-number : goal.invariant-loop-number
invariant-loop-number l = Scanning l.card l.n l.number
