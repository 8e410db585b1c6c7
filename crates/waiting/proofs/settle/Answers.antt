use mathlib.Core.Path.{ap, ◌∙◌}
use lib.ListN.{set}
use Rattle.waiting.specs.Waiting.{parts_in}
use Rattle.waiting.proofs.Keeping.{settled_part, settle_kept}
use Rattle.waiting.proofs.settle.Goals as goal

pub returns : goal.returns
returns c =
    record {
      settled = c.put_part.ensures.0 ∙ ap (set (parts_in c.args.part.now) c.args.row) (settled_part c.args.part.now c.args.row);
      kept = λ k l h. settle_kept k c.args.row l h _ c.put_part.ensures c.saturating_sub.ensures c.lowest.ensures;
    }
