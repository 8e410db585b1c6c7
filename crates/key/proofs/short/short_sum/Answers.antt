use Rattle.key.proofs.Shorts.{sums_to}
use Rattle.key.proofs.short.short_sum.Goals as goal

pub returns : goal.returns
returns c =
    λ l. sums_to _ _ c.requires.0 c.fixed_part-class.ensures.0 c.be8.ensures c.be8-2.ensures c.be8-3.ensures
