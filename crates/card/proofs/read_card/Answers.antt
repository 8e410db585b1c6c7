use mathlib.Core.Path.{refl}
use native.Mathlib.Omega.{arith}
use Rattle.std.proofs.lemmas.Result.{err_from_is_err_and}
use Rattle.wire.specs.Number.{Bytes}
use Rattle.card.proofs.Promises.{card_refused, too_short, blocks_fit, read_done}
use Rattle.card.proofs.read_card.Goals as goal

pub returns-in_err-end : goal.returns-in_err-end
unfolding Bytes
returns-in_err-end c =
    let p = err_from_is_err_and c.from_residual.result c.from_residual.ensures.1 in
    rw (p.1, p.2) (card_refused _ _ _ (λ i. omega (arith, c.type_inv.card i)) c.in_err-end.ensures)

pub returns-then-out-end : goal.returns-then-out-end
unfolding Bytes
returns-then-out-end c =
    let found = c.in_ok-end.ensures in
    too_short _ _ (λ i. omega (arith, c.type_inv.card i)) found.0 found.1 _ (omega arith) c.at.ensures

pub copy_file-requires : goal.copy_file-requires
copy_file-requires c = let found = c.in_ok-end.ensures in (blocks_fit _ found.0 found.1, omega arith)

pub returns : goal.returns
unfolding Bytes
returns c =
    let found = c.in_ok-end.ensures in
    read_done _ _ (λ i. omega (arith, c.type_inv.card i)) found.0 found.1 (omega arith) c.copy_file.ensures refl
