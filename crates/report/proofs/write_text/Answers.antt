use Rattle.report.proofs.Reports.{no_room, in_room}
use Rattle.report.proofs.write_text.Goals as goal

pub returns-then-out-text : goal.returns-then-out-text
returns-then-out-text c = no_room _ _ c.if-out-text.true

pub returns : goal.returns
returns c = in_room _ _ c.put_text.ensures
