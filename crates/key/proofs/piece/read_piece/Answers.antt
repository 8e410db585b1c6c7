use native.Mathlib.Omega.{arith}
use mathlib.Core.Path.{◌∙◌, sym}
use Rattle.key.proofs.WriteAgain.{reads}
use Rattle.key.proofs.Pieces.{numbered, no_piece, gap_there, bad_header, other_seek, record_there_law, size_read}
use Rattle.key.proofs.piece.read_piece.Goals as goal

pub returns-then-end-at : goal.returns-then-end-at
returns-then-end-at c = reads (no_piece _ _ (λ f. omega (arith, f)))

pub returns-then-size-lt4 : goal.returns-then-size-lt4
returns-then-size-lt4 c =
    let size = size_read _ _ c.be32-n.ensures c.size_for-size.ensures in
    reads (no_piece _ _ (λ f. omega (arith, f, size)))

pub returns-then-end-at-2 : goal.returns-then-end-at-2
returns-then-end-at-2 c =
    let size = size_read _ _ c.be32-n.ensures c.size_for-size.ensures in
    reads (no_piece _ _ (λ f. omega (arith, f, size)))

pub returns-then-n-ge2147483648 : goal.returns-then-n-ge2147483648
returns-then-n-ge2147483648 c =
    let size = size_read _ _ c.be32-n.ensures c.size_for-size.ensures in
    reads (gap_there _ _ (omega arith) (omega (arith, size)) size)

pub returns-in_default : goal.returns-in_default
returns-in_default c =
    let number = numbered _ _ c.be32-n.ensures c.size_for-size.ensures (omega arith) (omega arith) (omega arith) (omega arith) in
    reads (bad_header _ _ number (sym c.in_default.is ∙ c.read_header.ensures))

pub returns-then-seekkey-at : goal.returns-then-seekkey-at
returns-then-seekkey-at c =
    let number = numbered _ _ c.be32-n.ensures c.size_for-size.ensures (omega arith) (omega arith) (omega arith) (omega arith) in
    reads (other_seek _ _ number (sym c.in-Some.is ∙ c.read_header.ensures) (λ z. omega arith))

pub returns : goal.returns
returns c =
    let number = numbered _ _ c.be32-n.ensures c.size_for-size.ensures (omega arith) (omega arith) (omega arith) (omega arith) in
    reads (record_there_law _ _ number (sym c.in-Some.is ∙ c.read_header.ensures) (omega arith))
