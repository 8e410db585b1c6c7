use Rattle.freelist.proofs.Segments.{Matching}
use Rattle.freelist.proofs.match_segments.Given as goal

abbrev pub invariant-loop-place : goal.invariant-loop-place
invariant-loop-place l = Matching l.wide l.file l.start l.end l.count l.from l.at l.left l.place-index
