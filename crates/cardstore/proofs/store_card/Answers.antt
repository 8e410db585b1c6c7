use native.Mathlib.Omega.{arith}
use Rattle.wire.proofs.Checks.{false_true}
use Rattle.cardstore.proofs.Stored.{stored_not, stored_all}
use Rattle.cardstore.proofs.store_card.Goals as goal

pub returns-then-not-fit : goal.returns-then-not-fit
returns-then-not-fit c = stored_not _ _ c.blocks_for-n.ensures (λ h. false_true (c.if-not-fit.ensures.1 h))

pub returns : goal.returns
returns c = stored_all _ _ c.blocks_for-n.ensures (omega arith) (omega arith) c.put_card.ensures
