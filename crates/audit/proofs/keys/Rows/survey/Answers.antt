use Rattle.std.proofs.lemmas.Bool.{not_from_true, not_from_false}
use mathlib.Core.Bool.{true}
use mathlib.Core.Path.{◌≡◌, ◌∙◌, sym}
use Rattle.record.proofs.Tests.{passed}
use Rattle.rules.specs.Free.{free_holds, info_holds}
use Rattle.audit.proofs.Rulings.{no_head, no_free, no_info, go_on, all_zeros}
use Rattle.audit.proofs.keys.Rows.survey.Goals as goal

pub returns-in_default-clause-is : goal.returns-in_default-clause-is
returns-in_default-clause-is c = no_head _ _ _ _ _ _ (sym c.in_default.is ∙ c.read_head.ensures.is)

pub returns-then-not-check_free-clause-is : goal.returns-then-not-check_free-clause-is
returns-then-not-check_free-clause-is c =
    no_free _ _ _ _ _ _ (sym c.in-Some.is ∙ c.read_head.ensures.is) (c.check_free.ensures c.requires.rising) (not_from_false _ c.if-not-check_free.true)

pub returns-then-not-check_info-clause-is : goal.returns-then-not-check_info-clause-is
returns-then-not-check_info-clause-is c =
    let free : free_holds c.args.compare c.args.self.now.file.now c.args.self.now.start.now c.args.self.now.head ≡ true = passed _ _ (c.check_free.ensures c.requires.rising) (not_from_true _ c.if-not-check_free.false) in
    no_info _ _ _ _ _ _ (sym c.in-Some.is ∙ c.read_head.ensures.is) free (c.check_info.ensures c.requires.rising) (not_from_false _ c.if-not-check_info.true)

pub returns-clause-is : goal.returns-clause-is
returns-clause-is c =
    let a = c.first_parts-w.ensures.same in
    let free : free_holds c.args.compare c.args.self.now.file.now c.args.self.now.start.now c.args.self.now.head ≡ true = passed _ _ (c.check_free.ensures c.requires.rising) (not_from_true _ c.if-not-check_free.false) in
    let info : info_holds c.args.self.now.file.now c.args.self.now.start.now c.args.self.now.head ≡ true = passed _ _ (c.check_info.ensures c.requires.rising) (not_from_true _ c.if-not-check_info.false) in
    go_on _ _ _ _ _ _ (sym c.in-Some.is ∙ c.read_head.ensures.is) free _ _ _ info c.first_parts-w.ensures.is.0
    (all_zeros _ c.args.self.now.owner.now c.requires.owners c.clear.ensures) (rw (a.file, a.head, a.start, c.first_parts-w.ensures.owners) at c.list_dirs.ensures.is)
