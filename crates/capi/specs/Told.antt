-- What the C functions hand back.
use Rattle.std.specs.Prelude.{ℕ, List, [], ◌∷◌, ◌≡◌, replicate, ℤ, Option, Some, None, Result, Ok, Err}
use Rattle.std.specs.Borrow.{MutBor}
use denote.Triple.Both.{Both}
use Rattle.wire.specs.Answer.{done}
use Rattle.wire.specs.Number.{bits16}
use Rattle.wire.specs.declared.Answer.{Answer}
use Rattle.date.specs.Date.{pack_answer, unpacked}
use Rattle.date.specs.declared.Date.{Date}
use Rattle.key.specs.Piece.{piece_at, piece_answer}
use Rattle.key.specs.Writer.{Reads}
use Rattle.key.specs.declared.header.Fields.{Fields}
use Rattle.key.specs.declared.header.Key.{Key}
use Rattle.wire.specs.declared.fault.Fault.{Fault}
use Rattle.key.specs.declared.piece.Piece.{Piece}
use Rattle.key.specs.declared.piece.Piece.TheVariants.{Record, Gap}

-- a number behind a pointer, at the call and at the return
abbrev pub Cell : Type 0
Cell = Both (MutBor ℕ) (MutBor ℕ)

-- an answer as C gets it: the number returned, and what stands behind the two pointers at the return
abbrev pub told : ℕ → Cell → Cell → Answer
told number place count = record { number = number; place = place.exit.now; count = count.exit.now }

abbrev pub date_of : ℕ → ℕ → ℕ → ℕ → ℕ → ℕ → Date
date_of y m d h n s = record { year = y; month = m; day = d; hour = h; minute = n; second = s }

abbrev pub date_list : Date → List ℕ
date_list d = d.year ∷ d.month ∷ d.day ∷ d.hour ∷ d.minute ∷ d.second ∷ []

-- the six fields of 32 bits, and that packing them gives the 32 bits
pub record Unpacked (v : ℕ) (fields : List ℕ) : Type 0 where
  pub fields_are : fields ≡ date_list (unpacked v)
  pub back : pack_answer (unpacked v) ≡ done v

abbrev pub fields_of : ℕ → ℕ → ℕ → ℕ → ℤ → ℕ → ℕ → Fields
fields_of nbytes version objlen datime cycle seekkey seekpdir = record {
  nbytes = nbytes;
  version = version;
  objlen = objlen;
  datime = datime;
  cycle = cycle;
  seekkey = seekkey;
  seekpdir = seekpdir;
}

abbrev pub held_bits : Option ℕ → ℕ
held_bits (Some n) = n
held_bits None = 0

-- a cycle as its 16 stored bits
unfoldable pub stored_cycle : ℤ → ℕ
stored_cycle z = held_bits (bits16 z)

-- the fifteen numbers of a record
abbrev pub record_list : Key → List ℕ
record_list k =
    1 ∷ k.nbytes ∷ k.version ∷ k.objlen ∷ k.datime ∷ k.keylen ∷ stored_cycle k.cycle ∷ k.seekkey ∷ k.seekpdir
    ∷ k.class.start ∷ k.class.len ∷ k.name.start ∷ k.name.len ∷ k.title.start ∷ k.title.len ∷ []

-- the fifteen numbers of a piece: 1 and a record's fields and strings; 2 and a gap's size; zeros for a refusal
abbrev pub piece_list : Result Piece Fault → List ℕ
piece_list (Ok (Record k)) = record_list k
piece_list (Ok (Gap n)) = 2 ∷ n ∷ replicate 13 0
piece_list (Err f) = replicate 15 0

-- the piece at p of the bytes s, as C gets it, with the reader's promise
pub record Shows (s : List ℕ) (p : ℕ) (fields : List ℕ) (a : Answer) : Type 0 where
  pub answer : a ≡ piece_answer s p
  pub fields_are : fields ≡ piece_list (piece_at s p)
  pub reads : Reads s p (piece_at s p)
