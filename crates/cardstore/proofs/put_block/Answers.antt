use native.Mathlib.Omega.{arith}
use Rattle.cardstore.proofs.Fills.{block_whole}
use Rattle.cardstore.proofs.put_block.Goals as goal

pub returns : goal.returns
returns c =
    block_whole c.args.part.now c.args.i c.args.bytes.now (omega arith) (omega arith) c.put_body.ensures c.check-sum.ensures
    c.put32.ensures
