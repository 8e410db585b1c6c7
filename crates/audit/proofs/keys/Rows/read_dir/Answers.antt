use Rattle.audit.proofs.Turns.{head_dir, sub_dir}
use Rattle.audit.proofs.keys.Rows.read_dir.Goals as goal

pub returns-then-place-eq100 : goal.returns-then-place-eq100
returns-then-place-eq100 c = head_dir _ _ _ _ c.if-place-eq100.true c.read_head.ensures.is

pub returns : goal.returns
returns c = sub_dir _ _ _ _ c.if-place-eq100.false c.read_sub.ensures.is
