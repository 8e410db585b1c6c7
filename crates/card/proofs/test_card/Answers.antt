use Rattle.std.proofs.lemmas.Bool.{not_from_true, not_from_false}
use mathlib.Core.Path.{refl, sym, ◌∙◌}
use native.Mathlib.Omega.{arith}
use Rattle.std.proofs.lemmas.Result.{err_from_is_err_and}
use Rattle.card.proofs.Loops.{faults}
use Rattle.card.proofs.Promises.{no_block, end_is, blocks_are, in_block, is_31, no_31}
use Rattle.card.proofs.test_card.Goals as goal

pub returns-then-card-lt512 : goal.returns-then-card-lt512
returns-then-card-lt512 c = faults 28 c.at.ensures refl (λ e. omega arith) (no_block _ (omega arith))

pub returns-in_err-test_blocks : goal.returns-in_err-test_blocks
returns-in_err-test_blocks c =
    let p = err_from_is_err_and c.from_residual.result c.from_residual.ensures.1 in
    rw (p.1, p.2) (in_block _ _ _ (blocks_are _ (end_is _ c.end_of-end.ensures) c.blocks_for.ensures) c.in_err-test_blocks.ensures)

pub is_closed-requires : goal.is_closed-requires
is_closed-requires c =
    let e = end_is _ c.end_of-end.ensures in
    (e, sym (blocks_are _ e c.blocks_for.ensures) ∙ c.in_ok-test_blocks.ensures)

pub returns-then-not-is_closed : goal.returns-then-not-is_closed
returns-then-not-is_closed c =
    let z = sym (blocks_are _ (end_is _ c.end_of-end.ensures) c.blocks_for.ensures) ∙ c.in_ok-test_blocks.ensures in
    faults 31 c.at-then-not-is_closed.ensures refl (λ e. omega arith)
    (is_31 _ _ z c.is_closed.ensures (not_from_false _ c.if-not-is_closed.true))

pub returns : goal.returns
returns c =
    let e = end_is _ c.end_of-end.ensures in
    let z = sym (blocks_are _ e c.blocks_for.ensures) ∙ c.in_ok-test_blocks.ensures in
    (e, no_31 _ _ z c.is_closed.ensures (not_from_true _ c.if-not-is_closed.false))
