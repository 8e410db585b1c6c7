use mathlib.Core.Path.{◌∙◌}
use native.Mathlib.Omega.{arith}
use lib.ListN.{length-take, length-drop}
use Rattle.listing.proofs.Reading.{reads_on}
use Rattle.listing.proofs.fill.Goals as goal

pub loop-n-preserved : goal.loop-n-preserved
loop-n-preserved g c =
    reads_on _ _ _ c.loop-n.buffer c.read.new.buf c.loop-n.n c.in_ok-read.read (c.read.auto.buf ∙ simp (length-take, length-drop) (omega arith))
    c.in_ok-read.ensures.bound.0 c.loop-n.invariant.0 c.loop-n.invariant.1 c.in_ok-read.ensures.bytes.0
