use Rattle.report.proofs.Listed.{cut_rows}
use Rattle.report.proofs.Reports.{report_put, report_long}
use Rattle.report.proofs.write_report.Goals as goal

pub returns-then-fit : goal.returns-then-fit
returns-then-fit c =
    let v = c.args in
    report_put v.a v.start.now v.part.now v.owner.now v.end v.out.now
    (cut_rows _ _ _ _ v.end c.count_rows-n.ensures.within.0 c.count_rows-n.ensures.rows) c.heading_length.ensures c.fit.ensures c.put_heading-at.ensures c.put.ensures

pub returns : goal.returns
returns c =
    let v = c.args in
    report_long v.a v.start.now v.part.now v.owner.now v.end v.out.now
    (cut_rows _ _ _ _ v.end c.count_rows-n.ensures.within.0 c.count_rows-n.ensures.rows) c.heading_length.ensures c.fit.ensures c.if-fit.false
