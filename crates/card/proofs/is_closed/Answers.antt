use native.Mathlib.Omega.{arith}
use Rattle.card.proofs.Fills.{more_bytes, by_padding}
use Rattle.card.proofs.is_closed.Goals as goal

pub returns-then-card-long : goal.returns-then-card-long
returns-then-card-long c =
    more_bytes _ c.requires.0 c.requires.1 c.blocks_for-n.ensures (λ e. omega arith)

pub returns : goal.returns
returns c =
    by_padding _ c.requires.0 c.requires.1 c.blocks_for-n.ensures (omega arith) (omega arith) (omega arith) c.all_zero.ensures
