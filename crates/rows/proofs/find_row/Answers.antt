use Rattle.rows.proofs.Searches.{row_found}
use Rattle.rows.proofs.find_row.Goals as goal

pub returns : goal.returns
returns c =
    rw c.ok.ensures.value
    (row_found _ _ _ c.binary_search.ensures.bound c.binary_search.ensures.ok c.binary_search.ensures.position)
