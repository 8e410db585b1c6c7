use mathlib.Core.Path.{refl}
use native.Mathlib.Omega.{arith}
use Rattle.waiting.proofs.Keeping.{parts_put, give_kept}
use Rattle.waiting.proofs.give.Goals as goal

pub returns : goal.returns
returns c =
    record {
      entry = refl;
      given = parts_put c.args.part.now c.args.row _ _ (omega arith) (omega arith) refl;
      kept = λ k l h. give_kept c.args.row c.args.new _ k l h refl;
    }
