use Rattle.view.proofs.Views.{views}
use Rattle.capi.proofs.rootmap_view.Goals as goal

-- what the audit said of the slices that it was lent again holds of those that were lent here
pub returns : goal.returns
returns c =
    let k = c.audit_within-seen.ensures in
    rw c.tell-number.ensures
    (views
    (record {
      number = k.number;
      place = k.place;
      count = k.count;
      starts = k.starts;
      parts = k.parts;
      owners = k.owners;
      demand = k.demand;
    })
    c.show.ensures)
