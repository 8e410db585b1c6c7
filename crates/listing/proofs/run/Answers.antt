use native.Mathlib.Omega.{arith}
use Rattle.std.proofs.lemmas.Result.{on_ok_weaker}
use Rattle.listing.proofs.Reading.{lists_input}
use Rattle.listing.proofs.run.Goals as goal

pub returns : goal.returns
returns g c =
    on_ok_weaker c.write_all.result
    (lists_input (g.R.Read.remaining c.args.input.now) _ _ (omega arith) c.in_ok-n.ensures.bytes (rw c.unwrap-count.ensures at c.list.ensures)) c.write_all.ensures.bytes
