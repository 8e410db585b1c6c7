use mathlib.Core.Path.{ap, ◌∙◌}
use Prim.Native.Nat.{ℕ, ◌+◌}
use lib.ListN.{set}
use Rattle.waiting.specs.Waiting.{parts_in}
use Rattle.waiting.proofs.Keeping.{settled_part, found_kept}
use Rattle.waiting.proofs.found.Goals as goal

pub returns : goal.returns
returns c =
    record {
      marked = c.put_part.ensures.0 ∙ ap (λ (k : ℕ). set (parts_in c.args.part.now) c.args.row (k + 8)) (settled_part c.args.part.now c.args.row);
      kept = λ k l h. found_kept c.args.row k l h _ c.put_part.ensures (ap (λ (v : ℕ). v + 1) c.min.ensures) c.lowest.ensures;
    }
