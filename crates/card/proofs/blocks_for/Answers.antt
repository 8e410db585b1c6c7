use native.Mathlib.Omega.{arith}
use Rattle.card.specs.Card.{blocks_for}
use Rattle.card.proofs.blocks_for.Goals as goal

pub returns : goal.returns
unfolding blocks_for
returns c = omega arith
