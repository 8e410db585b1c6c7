use Rattle.report.specs.Put.{Put, lines_of}
use Rattle.report.proofs.rows.Rows.put.Given as goal

abbrev pub invariant-loop-i : goal.invariant-loop-i
invariant-loop-i l = Put l.initial.out l.first (lines_of l.self l.i) l.out l.at
