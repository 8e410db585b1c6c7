use mathlib.Core.Path.{refl}
use native.Mathlib.Omega.{arith}
use Rattle.cardstore.proofs.Fills.{body_whole}
use Rattle.cardstore.proofs.put_body.Goals as goal

pub returns : goal.returns
returns c =
    body_whole _ _ _ (omega arith) (omega arith) c.put32.ensures c.copy.ensures refl refl c.clear.ensures
