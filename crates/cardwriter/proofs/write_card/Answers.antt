use mathlib.Core.Path.{◌∙◌, refl, sym}
use Rattle.std.proofs.lemmas.Result.{err_from_is_err_and}
use Rattle.std.specs.Prelude.{Ok, Err}
use Rattle.wire.specs.Fault.{answer_of}
use Rattle.wire.proofs.Answers.{refusal_number}
use Rattle.cardwriter.proofs.Writes.{Seen, refused_first, written_all, written_not, not_stored, is_stored}
use Rattle.cardwriter.proofs.write_card.Goals as goal

pub returns-in_err-_pieces : goal.returns-in_err-_pieces
returns-in_err-_pieces c =
    let p = err_from_is_err_and c.from_residual.result c.from_residual.ensures.1 in
    let k = c.in_err-_pieces.ensures in
    rw (p.1, p.2)
    (refused_first _ _ _ _ _
    (record {
      number = k.number;
      place = k.place;
      count = k.count;
      starts = k.starts;
      parts = k.parts;
      owners = k.owners;
      demand = k.demand;
    })
    (refusal_number c.in_err-_pieces.field-0.0.reason) refl)

pub returns-then-is_err : goal.returns-then-is_err
returns-then-is_err c =
    let k = c.in_ok-_pieces.ensures in
    let seen : Seen c.args.file.now c.args.start.now c.args.part.now c.args.owner.now c.audit.new.start c.audit.new.part c.audit.new.owner
    (answer_of (Ok c.in_ok-_pieces._pieces)) = record {
      number = k.number;
      place = k.place;
      count = k.count;
      starts = k.starts;
      parts = k.parts;
      owners = k.owners;
      demand = k.demand;
    } in
    written_not _ _ _ _ _ seen refl c.store_card-stored.ensures (not_stored c.store_card-stored.result (sym c.is_err.ensures.value ∙ c.if-is_err.true))
    c.audit.auto.start c.audit.auto.part c.audit.auto.owner c.clear.ensures c.clear-then-is_err.ensures c.clear-then-is_err-2.ensures

pub returns-else-is_err : goal.returns-else-is_err
returns-else-is_err c =
    let k = c.in_ok-_pieces.ensures in
    let seen : Seen c.args.file.now c.args.start.now c.args.part.now c.args.owner.now c.audit.new.start c.audit.new.part c.audit.new.owner
    (answer_of (Ok c.in_ok-_pieces._pieces)) = record {
      number = k.number;
      place = k.place;
      count = k.count;
      starts = k.starts;
      parts = k.parts;
      owners = k.owners;
      demand = k.demand;
    } in
    written_all _ _ _ _ _ seen refl c.store_card-stored.ensures (is_stored c.store_card-stored.result (sym c.is_err.ensures.value ∙ c.if-is_err.false))
    refl refl refl
