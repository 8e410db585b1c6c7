use Rattle.audit.proofs.Verdicts.{rows_of, audited}
use Rattle.audit.proofs.audit_within.Goals as goal

pub returns : goal.returns
returns c =
    audited _ _ _ _ _ _ _ _ _ _ c.examine-r.ensures.0 (rows_of c.examine-r.result c.examine-r.ensures c.unwrap_or-n.ensures)
    c.examine-r.auto.start c.examine-r.auto.part c.examine-r.auto.owner c.clear.ensures c.clear-2.ensures c.clear-3.ensures
