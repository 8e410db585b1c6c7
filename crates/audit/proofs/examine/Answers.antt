use Rattle.std.proofs.lemmas.Result.{err_from_is_err_and}
use Rattle.audit.proofs.Verdicts.{header_refused, chain_refused, Entire, entire, Fits, entire_fits, entire_seven}
use Rattle.audit.proofs.Verdicts.{entire_tables, entire_stops, entire_passes}
use Rattle.audit.proofs.examine.Goals as goal

pub returns-in_err-head : goal.returns-in_err-head
returns-in_err-head c =
    let p = err_from_is_err_and c.from_residual.result c.from_residual.ensures.1 in
    rw (p.1, p.2) (header_refused _ _ _ _ _ _ _ c.in_err-head.ensures.is)

pub returns-in_err-n : goal.returns-in_err-n
returns-in_err-n c =
    let p = err_from_is_err_and c.from_residual-in_err-n.result c.from_residual-in_err-n.ensures.1 in
    rw (p.1, p.2) (chain_refused _ _ _ _ _ _ _ _ c.in_ok-head.ensures.is c.in_err-n.ensures)

pub returns-then-room-n : goal.returns-then-room-n
returns-then-room-n c =
    let whole : Entire c.args.file.now c.in_ok-head.head c.args.start.now c.walk.new.start c.in_ok-n.n = entire _ _ _ c.in_ok-head.ensures.is c.in_ok-n.ensures in
    entire_seven whole c.args.limit c.args.part.now c.args.owner.now c.min-room.ensures c.min-2.ensures
    c.min.ensures _ _ _ c.if-room-n.true

pub survey-requires : goal.survey-requires
survey-requires c =
    let whole : Entire c.args.file.now c.in_ok-head.head c.args.start.now c.walk.new.start c.in_ok-n.n = entire _ _ _ c.in_ok-head.ensures.is c.in_ok-n.ensures in
    let room : Fits c.args.limit c.in_ok-n.n c.args.start.now c.args.part.now c.args.owner.now =
    entire_fits whole _ _ _ c.min-room.ensures c.min-2.ensures c.min.ensures c.if-room-n.false in
    entire_tables whole room

pub returns-in_err-survey : goal.returns-in_err-survey
returns-in_err-survey c =
    let whole : Entire c.args.file.now c.in_ok-head.head c.args.start.now c.walk.new.start c.in_ok-n.n = entire _ _ _ c.in_ok-head.ensures.is c.in_ok-n.ensures in
    let room : Fits c.args.limit c.in_ok-n.n c.args.start.now c.args.part.now c.args.owner.now =
    entire_fits whole _ _ _ c.min-room.ensures c.min-2.ensures c.min.ensures c.if-room-n.false in
    let p = err_from_is_err_and c.from_residual-in_err-survey.result c.from_residual-in_err-survey.ensures.1 in
    rw (p.1, p.2) (entire_stops whole room _ _ _ _ _ _ c.in_err-survey.ensures)

pub returns : goal.returns
returns c =
    let whole : Entire c.args.file.now c.in_ok-head.head c.args.start.now c.walk.new.start c.in_ok-n.n = entire _ _ _ c.in_ok-head.ensures.is c.in_ok-n.ensures in
    let room : Fits c.args.limit c.in_ok-n.n c.args.start.now c.args.part.now c.args.owner.now =
    entire_fits whole _ _ _ c.min-room.ensures c.min-2.ensures c.min.ensures c.if-room-n.false in
    entire_passes whole room _ _ c.survey.new.part c.survey.new.owner _ _
    c.survey.auto.part c.survey.auto.owner c.in_ok-survey.ensures
