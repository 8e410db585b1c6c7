use Rattle.std.proofs.Common.{arith}
use Rattle.checksum.proofs.Checksums.{rest_checked}
use Rattle.checksum.proofs.Fifths.{fifths_turn, fifths_ended}
use Rattle.checksum.proofs.check.Goals as goal

pub loop-i-preserved : goal.loop-i-preserved
loop-i-preserved c =
    fifths_turn c.loop-i.invariant (omega arith) c.more-a.ensures c.more-b.ensures c.more-c.ensures
    c.more-d.ensures c.more-e.ensures

pub returns : goal.returns
returns c =
    rest_checked _ _
    (fifths_ended c.loop-i.invariant (omega arith) c.power-p.ensures c.join.ensures c.join-2.ensures
    c.join-3.ensures c.join-front.ensures)
    c.more_bytes.ensures
