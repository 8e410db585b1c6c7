-- Pieces: document 01, "Pieces".
use Rattle.std.specs.Prelude.{ℕ, ◌+◌, List, [], ◌∷◌, Bool, length, eqb, nat_abs}
use Rattle.std.specs.Int.Signed.{non_neg}
use Rattle.wire.specs.Check.{Check, le, all, pick}
use Rattle.wire.specs.Number.{num_at, signed_of}
use Rattle.key.specs.Header.{header_in}
use Rattle.wire.specs.Answer.{done}
use Rattle.wire.specs.Fault.{fault, fault_answer}
use Rattle.wire.specs.declared.fault.Reason.TheVariants as reason
use Rattle.wire.specs.declared.Answer.{Answer}
use Rattle.std.specs.Prelude.{Option, Some, None}
use Rattle.key.specs.declared.header.Key.{Key}
use Rattle.std.specs.Prelude.{Result, Ok, Err}
use Rattle.wire.specs.declared.fault.Fault.{Fault}
use Rattle.key.specs.declared.piece.Piece.{Piece}
use Rattle.key.specs.declared.piece.Piece.TheVariants.{Record, Gap}

-- the signed four-byte number n at p gives a record of n bytes, or a gap of −n bytes
unfoldable pub size_at : List ℕ → ℕ → ℕ
size_at s p = nat_abs (signed_of 4 (num_at 4 s p))

unfoldable pub record_there : List ℕ → ℕ → Bool
record_there s p = non_neg (signed_of 4 (num_at 4 s p))

-- its size is at least 4 and it ends at or before END, the length of the lent bytes
abbrev pub sized : List ℕ → ℕ → List Check
sized s p = le 4 (size_at s p) ∷ le (p + size_at s p) (length s) ∷ []

-- a record's header is well formed, and its SeekKey is p
abbrev pub record_of : ℕ → Option Key → Result Piece Fault
record_of p (Some k) = pick (eqb k.seekkey p) (Ok (Record k)) (Err (fault reason.Key p))
record_of p None = Err (fault reason.Key p)

-- a record, whose header is read within its n bytes only, a gap or a refusal: 5, no piece of that size; 6, record not well
-- formed, or SeekKey not p
unfoldable pub piece_at : List ℕ → ℕ → Result Piece Fault
piece_at s p =
    pick (all (sized s p))
    (pick (record_there s p) (record_of p (header_in s p (p + size_at s p))) (Ok (Gap (size_at s p))))
    (Err (fault reason.Chain p))

-- the bytes that a piece takes; a refusal takes none
abbrev pub size_of : Result Piece Fault → ℕ
size_of (Ok (Record k)) = k.nbytes
size_of (Ok (Gap n)) = n
size_of (Err f) = 0

-- number, place and count of each case: a piece is 0, 0 and its size (the paper leaves that count free); a refusal its number, its
-- place and 0
abbrev pub answer_of : Result Piece Fault → Answer
answer_of (Ok (Record k)) = done k.nbytes
answer_of (Ok (Gap n)) = done n
answer_of (Err f) = fault_answer f

-- the answer for the piece at p
unfoldable pub piece_answer : List ℕ → ℕ → Answer
piece_answer s p = answer_of (piece_at s p)

-- "whoever needs a record takes it apart and otherwise stops at once": what is said of its key, or bad for a gap and a refusal
unfoldable pub on_record : {A : Type 0} → A → (Key → A) → Result Piece Fault → A
on_record bad f (Ok (Record k)) = f k
on_record bad f (Ok (Gap n)) = bad
on_record bad f (Err e) = bad

-- the key of the record at p
unfoldable pub record_at : List ℕ → ℕ → Option Key
record_at s p = on_record None Some (piece_at s p)
