-- Copies in a keys list: document 01, "Copy", and the classes of listed records.
use Rattle.std.specs.Prelude.{ℕ, Bool, true, false, List, [], ◌∷◌, Result, Ok, Err}
use Rattle.wire.specs.Check.{Check, eq, yes, pick}
use Rattle.key.specs.Piece.{piece_at}
use Rattle.key.specs.declared.header.Key.{Key}
use Rattle.wire.specs.declared.fault.Fault.{Fault}
use Rattle.key.specs.declared.piece.Piece.{Piece}
use Rattle.key.specs.declared.piece.Piece.TheVariants.{Record, Gap}
use Rattle.wire.specs.Name.{t_directory}
use Rattle.record.specs.Name.{same_bytes, named}
use Rattle.rules.specs.Part.{listed, dir}
use Rattle.rules.specs.Row.{starts}

abbrev pub is_record : Result Piece Fault → Bool
is_record (Ok (Record k)) = true
is_record (Ok (Gap n)) = false
is_record (Err f) = false

-- a copy k at c, in the list of the directory at d: its SeekKey starts a record of the partition, the record's first KeyLen
-- bytes equal the copy, SeekPdir is the directory's place
abbrev pub entry_fits : List ℕ → List ℕ → ℕ → ℕ → Key → List Check
entry_fits s qs d c k =
    yes (starts qs k.seekkey) ∷ yes (is_record (piece_at s k.seekkey)) ∷ yes (same_bytes s c k.seekkey k.keylen)
    ∷ eq k.seekpdir d ∷ []

-- a record of class TDirectory
abbrev pub dir_class : List ℕ → Result Piece Fault → Bool
dir_class s (Ok (Record k)) = named s k.class t_directory
dir_class s (Ok (Gap n)) = false
dir_class s (Err f) = false

-- the part of a listed record
unfoldable pub listed_part : List ℕ → ℕ → ℕ
listed_part s p = pick (dir_class s (piece_at s p)) dir listed
