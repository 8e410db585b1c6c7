use native.Mathlib.Omega.{arith}
use Rattle.wire.proofs.Texts.{long_short, long_past, long_held}
use Rattle.wire.proofs.text.long_text.Goals as goal

pub returns-then-len-lt-LEAST_LONG : goal.returns-then-len-lt-LEAST_LONG
returns-then-len-lt-LEAST_LONG c = long_short _ _ _ c.be32-len.ensures c.requires.0 (omega arith)

pub returns-then-end-at : goal.returns-then-end-at
returns-then-end-at c =
    long_past _ _ _ c.be32-len.ensures c.requires.0 (omega arith) (omega arith)

pub returns : goal.returns
returns c =
    long_held _ _ _ c.be32-len.ensures c.requires.0 (omega arith) (omega arith) (omega arith)
