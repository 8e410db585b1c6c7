-- The records that the file header and the directories point to, and the copies in a keys list: document 01, "Free list",
-- "Info", "Keys list", "Copy".
use Rattle.std.specs.Prelude.{ℕ, ◌+◌, Bool, false, ◌||◌, List, ◌∷◌}
use Rattle.wire.specs.Answer.{done, refusal, Gives}
use Rattle.wire.specs.Check.{Check, eq, yes, all, pick}
use Rattle.wire.specs.Name.{t_file, t_directory}
use Rattle.wire.specs.declared.Answer.{Answer}
use Rattle.wire.specs.declared.text.Text.{Text}
use Rattle.key.specs.Header.{plain, header_in}
use Rattle.key.specs.Piece.{piece_at, on_record}
use Rattle.key.specs.declared.header.Key.{Key}
use Rattle.std.specs.Prelude.{Option, Some, None}
use Rattle.record.specs.Name.{named, plain_record, is_info}
use Rattle.keylist.specs.declared.Data.{Data}

-- data from its first byte to the place after it
abbrev pub span : ℕ → ℕ → Data
span a end = record { from = a; end = end }

-- the data of the record at p whose key passes these tests: from its KeyLen to its size
unfoldable pub data_in : (Key → List Check) → List ℕ → ℕ → Option Data
data_in fits s p = on_record None (λ k. pick (all (fits k)) (Some (span (p + k.keylen) (p + k.nbytes))) None) (piece_at s p)

-- free list: a plain unpacked record of class TFile, of this size
abbrev pub free_fits : List ℕ → ℕ → Key → List Check
free_fits s nbytes k = yes (named s k.class t_file) ∷ eq k.nbytes nbytes ∷ plain_record k

unfoldable pub free_in : List ℕ → ℕ → ℕ → Option Data
free_in s p nbytes = data_in (free_fits s nbytes) s p

-- info: of this size, its key that of the info record
abbrev pub info_fits : List ℕ → ℕ → Key → List Check
info_fits s nbytes k = eq k.nbytes nbytes ∷ is_info s k

unfoldable pub info_in : List ℕ → ℕ → ℕ → Bool
info_in s p nbytes = on_record false (λ k. all (info_fits s nbytes k)) (piece_at s p)

-- class TFile or TDirectory
unfoldable pub list_class : List ℕ → Text → Bool
list_class s t = named s t t_file || named s t t_directory

-- keys list: a plain unpacked record of this size, of class TFile or TDirectory, SeekPdir the directory's place
abbrev pub list_fits : List ℕ → ℕ → ℕ → Key → List Check
list_fits s nbytes dir k =
    yes (list_class s k.class) ∷ eq k.seekpdir dir ∷ eq k.nbytes nbytes ∷ plain_record k

unfoldable pub list_in : List ℕ → ℕ → ℕ → ℕ → Option Data
list_in s p nbytes dir = data_in (list_fits s nbytes dir) s p

-- a copy at p is a plain header, read within the list's end
abbrev pub plain_or : Option Key → Option Key
plain_or (Some k) = pick (all (plain k)) (Some k) None
plain_or None = None

unfoldable pub copy_in : List ℕ → ℕ → ℕ → Option Key
copy_in s p end = plain_or (header_in s p end)

-- number, place and count of each case: the free list's refusal is 9 where it was asked for
abbrev pub free_answer : ℕ → Option Data → Answer
free_answer p (Some d) = done 0
free_answer p None = refusal 9 p

-- a keys list's is 12 at the list, and so is that of a copy in it
abbrev pub bad_list : ℕ → Answer
bad_list p = refusal 12 p

abbrev pub list_answer : ℕ → Option Data → Answer
list_answer p (Some d) = done 0
list_answer p None = bad_list p

abbrev pub copy_answer : ℕ → Option Key → Answer
copy_answer list (Some k) = done 0
copy_answer list None = bad_list list

-- what reading a copy promises, wherever its list stands
abbrev pub GivesCopy : List ℕ → ℕ → ℕ → Option Key → Type 0
GivesCopy s p end r = (list : ℕ) → Gives (copy_answer list) r (copy_in s p end)
