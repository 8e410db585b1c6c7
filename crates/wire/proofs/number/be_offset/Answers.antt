use Rattle.wire.specs.Layout.{width_of}
use Rattle.wire.proofs.number.be_offset.Goals as goal

pub returns-then-wide : goal.returns-then-wide
unfolding width_of
returns-then-wide c = rw c.if-wide.true c.be64.ensures

pub returns : goal.returns
unfolding width_of
returns c = rw c.if-wide.false c.be32.ensures
