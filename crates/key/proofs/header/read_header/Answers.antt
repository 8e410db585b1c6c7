use native.Mathlib.Omega.{arith}
use mathlib.Core.Path.{sym, ◌∙◌}
use Rattle.key.proofs.Headers.{fixed_at, strings_read, no_strings_read, past_file, too_short, shorter, is_good, is_bad}
use Rattle.key.proofs.header.read_header.Goals as goal

pub returns-then-s-end : goal.returns-then-s-end
returns-then-s-end c = past_file _ _ _ (omega arith)

pub returns-then-end-at : goal.returns-then-end-at
returns-then-end-at c = shorter _ _ _ (omega arith)

pub returns-then-end-at-le26 : goal.returns-then-end-at-le26
returns-then-end-at-le26 c = shorter _ _ _ (omega arith)

pub returns-then-end-at-2 : goal.returns-then-end-at-2
returns-then-end-at-2 c =
    let fixed = fixed_at _ _ c.be16-version.ensures.0 c.fixed_part-fixed.ensures.0 in
    too_short _ _ _ (omega (arith, fixed))

pub returns-in_err-names : goal.returns-in_err-names
returns-in_err-names c =
    c.from_residual.ensures
    ∙ no_strings_read _ _ _ c.be16-version.ensures.0 c.fixed_part-fixed.ensures.0 (sym c.in_err-names.was ∙ c.read_names.ensures)

pub overflow_sub-next : goal.overflow_sub-next
overflow_sub-next c =
    let held = strings_read _ _ _ c.be16-version.ensures.0 c.fixed_part-fixed.ensures.0 (sym c.in_ok-names.was ∙ c.read_names.ensures) in
    omega (arith, held.sum)

pub returns-then-is_formed : goal.returns-then-is_formed
returns-then-is_formed c =
    let held = strings_read _ _ _ c.be16-version.ensures.0 c.fixed_part-fixed.ensures.0 (sym c.in_ok-names.was ∙ c.read_names.ensures) in
    is_good _ _ _ held c.read_key-k.ensures c.is_formed.ensures c.if-is_formed.true

pub returns : goal.returns
returns c =
    let held = strings_read _ _ _ c.be16-version.ensures.0 c.fixed_part-fixed.ensures.0 (sym c.in_ok-names.was ∙ c.read_names.ensures) in
    is_bad _ _ _ held c.read_key-k.ensures c.is_formed.ensures c.if-is_formed.false
