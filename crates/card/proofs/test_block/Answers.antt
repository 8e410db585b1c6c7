use mathlib.Core.Path.{refl, sym, ap, ◌∙◌}
use native.Mathlib.Omega.{arith}
use Rattle.card.specs.Read.{block_fault}
use Rattle.card.proofs.Blocks.{is_29, is_30, no_fault}
use Rattle.card.proofs.Loops.{faults, missing, block_is, block_long}
use Rattle.card.proofs.test_block.Goals as goal

pub returns-then-card-i : goal.returns-then-card-i
returns-then-card-i c = faults 28 c.at.ensures refl (λ e. omega arith) (missing _ _ (omega arith))

pub returns-then-be32-i : goal.returns-then-be32-i
returns-then-be32-i c =
    let a = c.args in
    let l = block_long a.card.now a.i (omega arith) in
    faults 29 c.at-then-be32-i.ensures refl (λ e. omega arith)
    (is_29 a.i _ l (λ e. omega (arith, c.be32.ensures)) ∙ ap (block_fault a.i) (block_is a.card.now a.i))

pub returns-then-be32-check : goal.returns-then-be32-check
returns-then-be32-check c =
    let a = c.args in
    let l = block_long a.card.now a.i (omega arith) in
    faults 30 c.at-then-be32-check.ensures refl (λ e. omega arith)
    (is_30 a.i _ l (omega (arith, c.be32.ensures)) (λ e. omega (arith, c.check.ensures)) ∙ ap (block_fault a.i) (block_is a.card.now a.i))

pub returns : goal.returns
returns c =
    let a = c.args in
    let l = block_long a.card.now a.i (omega arith) in
    sym (ap (block_fault a.i) (block_is a.card.now a.i))
    ∙ no_fault (record { long = l; number = omega (arith, c.be32.ensures); check = omega (arith, c.check.ensures) })
