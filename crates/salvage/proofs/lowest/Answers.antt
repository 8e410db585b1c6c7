use Rattle.salvage.proofs.Reaches.{low_found, low_on}
use Rattle.salvage.proofs.lowest.Goals as goal

pub returns-then-reach : goal.returns-then-reach
returns-then-reach c = low_found c.loop-q.invariant c.past_zeros-next.ensures c.reach.ensures c.if-reach.true

pub loop-q-preserved : goal.loop-q-preserved
loop-q-preserved c = low_on c.loop-q.invariant c.past_zeros-next.ensures c.reach.ensures c.if-reach.false c.reach.auto.seen
