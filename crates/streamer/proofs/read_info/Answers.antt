use native.Mathlib.Omega.{arith}
use lib.ListN.{length}
use Rattle.streamer.specs.Info.{info_answer, info_table}
use Rattle.streamer.proofs.Looks.{informs}
use Rattle.streamer.proofs.Runs.{answer_rows, answer_many, answer_stop}
use Rattle.streamer.proofs.read_info.Goals as goal

pub returns-then-rows-table : goal.returns-then-rows-table
unfolding info_answer info_table
returns-then-rows-table c =
    informs (answer_rows (length c.args.table.now) _ _ _ c.read_record.ensures c.clear.ensures c.in-Ok.is (omega arith))

pub returns-else-rows-table : goal.returns-else-rows-table
unfolding info_answer info_table
returns-else-rows-table c =
    informs (answer_many (length c.args.table.now) _ _ _ c.read_record.ensures {m = length c.read_record.new.table} c.clear-in-Ok.ensures (omega arith) c.in-Ok.is (omega arith))

pub returns-in-Err : goal.returns-in-Err
unfolding info_answer info_table
returns-in-Err c =
    informs (answer_stop (length c.args.table.now) _ _ _ c.read_record.ensures {m = length c.read_record.new.table} c.clear-in-Err.ensures (omega arith) c.in-Err.is)
