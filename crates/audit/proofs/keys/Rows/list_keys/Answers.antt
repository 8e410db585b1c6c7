use mathlib.Core.Path.{ap, ◌∙◌}
use Rattle.std.specs.Prelude.{Ok}
use Rattle.std.proofs.lemmas.Bool.{not_from_true, not_from_false}
use Rattle.std.proofs.lemmas.Result.{err_from_is_err_and}
use Rattle.audit.proofs.Listings.{sized_kept, claim_kept}
use Rattle.audit.proofs.Turns.{keys_none, keys_stops, keys_late}
use Rattle.audit.proofs.keys.Rows.list_keys.Goals as goal

pub returns-in_err-list-clause-is : goal.returns-in_err-list-clause-is
returns-in_err-list-clause-is c =
    let p = err_from_is_err_and c.from_residual.result c.from_residual.ensures.1 in
    rw (p.1, p.2) (keys_stops c.find_list.ensures c.requires.sized.rising c.args.self.now.part.now c.args.self.now.owner.now _ _ c.in_err-list.was)

pub returns-in_default-clause-is : goal.returns-in_default-clause-is
returns-in_default-clause-is c =
    keys_none c.find_list.ensures c.requires.sized.rising _ _ c.requires.waiting (c.in_ok-list.was ∙ ap Ok c.in_default.is)

pub returns-then-not-assign_part-clause-is : goal.returns-then-not-assign_part-clause-is
returns-then-not-assign_part-clause-is c =
    keys_late c.find_list.ensures c.requires.sized.rising c.args.self.now.part.now c.args.self.now.owner.now (c.in_ok-list.was ∙ ap Ok c.in-Some.is)
    c.assign_part.ensures.is _ _ (not_from_false _ c.if-not-assign_part.true)

pub list_data-requires : goal.list_data-requires
list_data-requires c =
    let k = c.find_list.ensures.held _ (c.in_ok-list.was ∙ ap Ok c.in-Some.is) in
    let s = c.assign_part.ensures.same in
    rw (s.start, s.file) (
      record {
        sized = sized_kept c.requires.sized s.parts s.owners;
        waiting = claim_kept c.assign_part.ensures.is (not_from_true _ c.if-not-assign_part.false) c.requires.waiting;
      },
      k.begins,
      k.ends,
    )
