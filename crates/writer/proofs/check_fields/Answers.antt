use native.Mathlib.Omega.{arith}
use mathlib.Core.Path.{◌≡◌, ◌∙◌, sym}
use borrow.Author.Rules.{rules}
use Rattle.std.specs.Prelude.{Some}
use Rattle.writer.proofs.Tested.{passed}
use Rattle.writer.proofs.check_fields.Goals as goal

pub returns : goal.returns
returns c =
    let some : c.bits_of.result ≡ Some c.in_ok-cycle.cycle = grind arith in
    passed _ _ _ (omega arith) (omega arith) (omega arith) (sym c.if-not-formed.false ∙ c.is_formed-formed.ensures) (search rules) (sym some ∙ c.bits_of.ensures) (omega arith)
