use native.Mathlib.Omega.{arith}
use mathlib.Core.Path.{sym, ◌∙◌}
use Rattle.keylist.proofs.Records.{list_lies}
use Rattle.copies.proofs.Copies.{sought, no_row, no_keys_law, keys_nowhere, keys_bad, keys_held}
use Rattle.copies.proofs.find_list.Goals as goal

pub returns-then-is_nothing : goal.returns-then-is_nothing
returns-then-is_nothing c = no_keys_law _ _ _ _ c.is_nothing.ensures c.if-is_nothing.true

pub returns-in_default : goal.returns-in_default
returns-in_default c =
    keys_nowhere _ _ _ _ c.is_nothing.ensures c.if-is_nothing.false
    (λ up. no_row _ _ up c.find_row.ensures c.in_default.is)

pub returns-in_default-read_list : goal.returns-in_default-read_list
returns-in_default-read_list c =
    keys_bad _ _ _ _ c.is_nothing.ensures c.if-is_nothing.false (sought _ _ _ c.find_row.ensures c.in-Some.is)
    (sym c.in_default-read_list.is ∙ c.read_list.ensures.is)

pub overflow_add-claim : goal.overflow_add-claim
overflow_add-claim c =
    omega (arith, list_lies _ _ _ _ (sym c.in-Some-read_list.is ∙ c.read_list.ensures.is), c)

pub returns : goal.returns
returns c =
    keys_held _ _ _ _ c.is_nothing.ensures c.if-is_nothing.false (sought _ _ _ c.find_row.ensures c.in-Some.is)
    (sym c.in-Some-read_list.is ∙ c.read_list.ensures.is)
