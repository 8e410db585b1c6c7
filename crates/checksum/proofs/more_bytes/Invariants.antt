use Rattle.checksum.proofs.Checksums.{Checking}
use Rattle.checksum.proofs.more_bytes.Given as goal

abbrev pub invariant-loop-byte : goal.invariant-loop-byte
invariant-loop-byte l = Checking l.check l.bytes l.sum l.byte-index
