use Rattle.card.proofs.Fills.{Copying}
use Rattle.card.proofs.copy_file.Given as goal

abbrev pub invariant-loop-i : goal.invariant-loop-i
invariant-loop-i l = Copying l.card l.end l.initial.out l.i-end l.out l.i
