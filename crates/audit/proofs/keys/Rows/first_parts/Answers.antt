use mathlib.Core.Path.{refl}
use Rattle.audit.proofs.Fills.{none_found, head_found, found_row, no_found_row}
use Rattle.audit.proofs.keys.Rows.first_parts.Goals as goal

pub returns-in-Some-clause-is : goal.returns-in-Some-clause-is
returns-in-Some-clause-is c =
    let s = c.fill_parts.ensures.same in
    let r = found_row _ (rw s.start at c.seek_row.ensures) c.in-Some.is in
    head_found _ _ _ c.requires.0 _ r.0 r.1 c.fill_parts.ensures.is refl refl refl c.found.ensures.marked (rw s.start at c.found.ensures.kept)

pub returns-in-None-clause-is : goal.returns-in-None-clause-is
returns-in-None-clause-is c =
    let s = c.fill_parts.ensures.same in
    none_found _ _ _ (no_found_row _ c.requires.0 (rw s.start at c.seek_row.ensures) c.in-None.is)
    c.fill_parts.ensures.is refl refl refl
