-- The walk over the chain of pieces, and the table that it writes.
use Rattle.std.specs.Prelude.{ℕ, ◌<◌, ◌≤◌, List, ◌++◌, ◌≡◌, Result, Ok, Err, length, take, drop}
use Rattle.wire.specs.Answer.{refusal}
use Rattle.wire.specs.Fault.{answer_of}
use Rattle.wire.specs.declared.fault.Fault.{Fault}
use Rattle.key.specs.Piece.{piece_at, piece_answer}
use Rattle.key.specs.declared.piece.Piece.{Piece}
use Rattle.key.specs.declared.piece.Piece.TheVariants.{Record, Gap}
use Rattle.rules.specs.Partition.{Partition}

-- the size of a piece, or its refusal
abbrev pub step_of : Result Piece Fault → Result ℕ Fault
step_of (Ok (Record k)) = Ok k.nbytes
step_of (Ok (Gap n)) = Ok n
step_of (Err f) = Err f

-- the table t with the list qs written over its front, as far as there is room
abbrev pub over : List ℕ → List ℕ → List ℕ
over qs t = take (length t) qs ++ drop (length qs) t

-- what a walk over the chain answers, and what its table holds afterwards: all pieces, or those before the first refusal
abbrev pub Walked : List ℕ → List ℕ → List ℕ → Result ℕ Fault → Type 0
Walked s t u (Ok n) = (qs : List ℕ) × Partition s 100 (length s) qs × (n ≡ length qs) × (u ≡ over qs t)
Walked s t u (Err f) = (qs : List ℕ) × Partition s 100 f.place qs × (f.place < length s) × (piece_at s f.place ≡ Err f) × (u ≡ over qs t)

-- what a walk promises: a file of fewer than 100 bytes has no chain, is 1 at 0, and leaves the table as it was; in any other, where it
-- is refused, number and place are those of the reader at that place
pub record Walks (s t u : List ℕ) (r : Result ℕ Fault) : Type 0 where
  pub short : length s < 100 → (answer_of r ≡ refusal 1 0) × (u ≡ t)
  pub long : 100 ≤ length s → Walked s t u r
  pub told : 100 ≤ length s → (f : Fault) → r ≡ Err f → answer_of r ≡ piece_answer s f.place
