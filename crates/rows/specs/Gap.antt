-- Gaps, as they are told by their size.
use Rattle.std.specs.Prelude.{ℕ, Result, Ok, Err}
use Rattle.wire.specs.declared.fault.Fault.{Fault}
use Rattle.key.specs.declared.piece.Piece.{Piece}
use Rattle.key.specs.declared.piece.Piece.TheVariants.{Record, Gap}

-- the size of a gap, 0 for any other piece
abbrev pub gap_of : Result Piece Fault → ℕ
gap_of (Ok (Record k)) = 0
gap_of (Ok (Gap n)) = n
gap_of (Err f) = 0
