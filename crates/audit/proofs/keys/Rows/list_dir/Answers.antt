use mathlib.Core.Path.{sym, ◌∙◌}
use Rattle.audit.proofs.Turns.{dir_bad, dir_held}
use Rattle.audit.proofs.keys.Rows.list_dir.Goals as goal

pub returns-in_default-clause-is : goal.returns-in_default-clause-is
returns-in_default-clause-is c =
    dir_bad _ _ c.requires.0 _ _ (sym c.in_default.is ∙ c.read_dir.ensures)

pub returns-clause-is : goal.returns-clause-is
returns-clause-is c =
    dir_held _ _ c.requires.0 _ _ _ (sym c.in-Some.is ∙ c.read_dir.ensures) c.list_keys.ensures.is
