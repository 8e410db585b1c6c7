use Rattle.wire.specs.Layout.{width_of}
use Rattle.wire.proofs.number.greatest.Goals as goal

pub returns-then-wide : goal.returns-then-wide
unfolding width_of
returns-then-wide c = rw c.if-wide.true

pub returns : goal.returns
unfolding width_of
returns c = rw c.if-wide.false
