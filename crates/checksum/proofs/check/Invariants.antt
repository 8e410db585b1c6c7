use Rattle.checksum.proofs.Fifths.{Fifths}
use Rattle.checksum.proofs.check.Given as goal

abbrev pub invariant-loop-i : goal.invariant-loop-i
invariant-loop-i l = Fifths l.bytes l.n l.a l.b l.c l.d l.e l.i
