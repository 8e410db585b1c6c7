use Rattle.report.proofs.Listed.{list_began, row_room, list_turn}
use Rattle.report.proofs.rows.Rows.put.Goals as goal

pub loop-i-init : goal.loop-i-init
loop-i-init c = list_began _ _ _ _ _ c.requires

pub put_row-at-requires-clause-room : goal.put_row-at-requires-clause-room
put_row-at-requires-clause-room c = row_room _ _ _ _ _ c.loop-i.i c.loop-i.invariant c.loop-i-test.true c.requires

pub loop-i-preserved : goal.loop-i-preserved
loop-i-preserved c = list_turn _ _ _ _ _ c.loop-i.i c.loop-i.invariant c.put_row-at.ensures
