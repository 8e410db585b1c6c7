use native.Mathlib.Omega.{arith}
use Rattle.freelist.proofs.Segments.{ended}
use Rattle.freelist.proofs.match_segments.Goals as goal

pub returns : goal.returns
returns c = ended c.loop-place.invariant (omega arith) (omega arith) c.is_final.ensures
