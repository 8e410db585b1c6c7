use Rattle.listing.proofs.Listings.{is_long, zeros, is_listed}
use Rattle.listing.proofs.list.Goals as goal

pub returns-then-file-gt-LIMIT : goal.returns-then-file-gt-LIMIT
returns-then-file-gt-LIMIT c = is_long _ _ c.if-file-gt-LIMIT.true c.write_text.ensures

pub returns : goal.returns
returns c =
    is_listed c.audit-verdict.ensures zeros zeros zeros
    c.if-file-gt-LIMIT.false _ (rw c.from-told.ensures at c.write_report.ensures)
