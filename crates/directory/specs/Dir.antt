-- Directory headers: document 01, "Directory header (003)", "Head" and "Keys list"; document 02, request 02, for the width of their
-- offsets.
use Rattle.std.specs.Prelude.{ℕ, ◌+◌, List, [], ◌∷◌, eqb, length, get_or, Option, Some, None}
use Rattle.wire.specs.Answer.{done, refusal}
use Rattle.wire.specs.Check.{Check, le, eq, yes, all, nothing, pick}
use Rattle.wire.specs.Layout.{offset_width, version_fits, extent, values_at}
use Rattle.wire.specs.Name.{t_file}
use Rattle.wire.specs.Number.{num_at}
use Rattle.wire.specs.Text.{text_in, on_text}
use Rattle.wire.specs.declared.Answer.{Answer}
use Rattle.key.specs.Header.{unpacked_data}
use Rattle.key.specs.Piece.{piece_at, on_record}
use Rattle.key.specs.declared.header.Key.{Key}
use Rattle.record.specs.Name.{named, plain_record}
use Rattle.fileheader.specs.declared.FileHead.{FileHead}
use Rattle.directory.specs.declared.DirHead.{DirHead}

-- Version (2), two dates, NbytesKeys, NbytesName, SeekDir, SeekParent, SeekKeys
abbrev pub dir_layout : ℕ → List ℕ
dir_layout w = 2 ∷ 4 ∷ 4 ∷ 4 ∷ 4 ∷ w ∷ w ∷ w ∷ []

abbrev pub dir_from : List ℕ → DirHead
dir_from v = record {
  nbyteskeys = get_or v 3 0;
  nbytesname = get_or v 4 0;
  seekdir = get_or v 5 0;
  seekparent = get_or v 6 0;
  seekkeys = get_or v 7 0;
}

-- the layout of the header at p: its Version, which stands first, tells the width of its offsets
abbrev pub dir_layout_at : List ℕ → ℕ → List ℕ
dir_layout_at s p = dir_layout (offset_width (num_at 2 s p))

unfoldable pub dir_at : List ℕ → ℕ → DirHead
dir_at s p = dir_from (values_at (dir_layout_at s p) s p)

-- all of it, 30 bytes or 42, inside its record, Version at most 2000
abbrev pub dir_fits : List ℕ → ℕ → ℕ → List Check
dir_fits s p end = le end (length s) ∷ le (p + extent (dir_layout_at s p)) end ∷ version_fits (num_at 2 s p) ∷ []

unfoldable pub dir_in : List ℕ → ℕ → ℕ → Option DirHead
dir_in s p end = pick (all (dir_fits s p end)) (Some (dir_at s p)) None

-- a header that passes further tests
unfoldable pub kept_if : (DirHead → List Check) → Option DirHead → Option DirHead
kept_if fits (Some d) = pick (all (fits d)) (Some d) None
kept_if fits None = None

-- the head's, whose name and title end before next: SeekDir 100, SeekParent 0; NbytesName here and in the file header is KeyLen
-- plus those two strings (the key begins at 100)
abbrev pub head_fits : ℕ → ℕ → DirHead → List Check
head_fits next nbytesname d =
    eq d.seekdir 100 ∷ eq d.seekparent 0 ∷ eq (d.nbytesname + 100) next ∷ eq (nbytesname + 100) next ∷ []

-- after its key, at p, stand a name and title as strings, then a directory header
unfoldable pub head_dir_in : List ℕ → ℕ → ℕ → ℕ → Option DirHead
head_dir_in s p end nbytesname =
    on_text None (λ name.
    on_text None (λ title. kept_if (head_fits title.next nbytesname) (dir_in s title.next end)) (text_in s name.next end))
    (text_in s p end)

-- the piece at 100 is a plain unpacked record of class TFile
abbrev pub head_record : List ℕ → Key → List Check
head_record s k = yes (named s k.class t_file) ∷ plain_record k

-- the head's directory header, where the head rule holds
unfoldable pub head_in : List ℕ → ℕ → Option DirHead
head_in s nbytesname =
    on_record None (λ k. pick (all (head_record s k)) (head_dir_in s (100 + k.keylen) (100 + k.nbytes) nbytesname) None) (piece_at s 100)

-- in a subdirectory at p: SeekDir is its place, SeekParent the listing directory's place, NbytesName its KeyLen
abbrev pub sub_fits : ℕ → ℕ → Key → DirHead → List Check
sub_fits p parent k d = eq d.seekdir p ∷ eq d.seekparent parent ∷ eq d.nbytesname k.keylen ∷ []

-- it follows the key, the record is unpacked
unfoldable pub sub_in : List ℕ → ℕ → ℕ → Option DirHead
sub_in s p parent =
    on_record None (λ k. pick (all (unpacked_data k)) (kept_if (sub_fits p parent k) (dir_in s (p + k.keylen) (p + k.nbytes))) None)
    (piece_at s p)

-- the header of the directory at p: the head's at 100, else that of a subdirectory, with its listing directory's place
unfoldable pub dir_of : List ℕ → FileHead → ℕ → ℕ → Option DirHead
dir_of s h p parent = pick (eqb p 100) (head_in s h.nbytesname) (sub_in s p parent)

-- Keys list: SeekKeys and NbytesKeys both 0 (an empty directory)
abbrev pub no_keys : DirHead → List Check
no_keys dh = nothing dh.seekkeys dh.nbyteskeys

-- number, place and count of each case: the head rule's refusal is 8 at 100, a subdirectory's 11 at the directory
abbrev pub head_answer : Option DirHead → Answer
head_answer (Some d) = done 0
head_answer None = refusal 8 100

abbrev pub sub_answer : ℕ → Option DirHead → Answer
sub_answer p (Some d) = done 0
sub_answer p None = refusal 11 p
