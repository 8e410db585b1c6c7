-- The free list and the info record: document 01, "Free list" and "Info"; document 02, requests 01, 02 and 10.
use Rattle.std.specs.Prelude.{ℕ, zero, suc, ◌+◌, ◌-◌, Bool, true, false, ◌&&◌, ◌||◌, List, [], ◌∷◌, ◌++◌, ◌≡◌, ltb, eqb, length, take, drop, Option, Some, None, Result, Ok, Err}
use Rattle.wire.specs.Check.{Check, le, eq, all, All, nothing, pick}
use Rattle.wire.specs.Layout.{offset_width, most_version, extent, values_at}
use Rattle.wire.specs.Number.{num_at}
use Rattle.key.specs.Piece.{piece_at, size_of}
use Rattle.wire.specs.declared.fault.Fault.{Fault}
use Rattle.key.specs.declared.piece.Piece.{Piece}
use Rattle.key.specs.declared.piece.Piece.TheVariants.{Record, Gap}
use Rattle.keylist.specs.Keys.{free_in, info_in}
use Rattle.keylist.specs.Keys.{span}
use Rattle.keylist.specs.declared.Data.{Data}
use Rattle.fileheader.specs.declared.FileHead.{FileHead}
use Rattle.rules.specs.Row.{starts}

-- which audit it is: the first one compares free segments with the gaps, the second one (document 02, request 10) does not
abbrev pub Mode : Type 0
Mode = Bool

abbrev pub compared : Mode
compared = true

abbrev pub apart : Mode
apart = false

abbrev pub is_gap : Result Piece Fault → Bool
is_gap (Ok (Record k)) = false
is_gap (Ok (Gap n)) = true
is_gap (Err f) = false

-- a segment: Version (2), first, last
abbrev pub segment_layout : ℕ → List ℕ
segment_layout w = 2 ∷ w ∷ w ∷ []

-- the layout of the segment at a: its Version, which stands first, tells the width of its ends
abbrev pub segment_layout_at : List ℕ → ℕ → List ℕ
segment_layout_at s a = segment_layout (offset_width (num_at 2 s a))

-- the place after it: 10 bytes, or 18
abbrev pub segment_end : List ℕ → ℕ → ℕ
segment_end s a = a + extent (segment_layout_at s a)

-- n segments from a on: first and last of each, and the place after them
unfoldable pub segments_at : List ℕ → ℕ → ℕ → List ℕ
segments_at s zero a = []
segments_at s (suc n) a = drop 1 (values_at (segment_layout_at s a) s a) ++ segments_at s n (segment_end s a)

unfoldable pub segments_end : List ℕ → ℕ → ℕ → ℕ
segments_end s zero a = a
segments_end s (suc n) a = segments_end s n (segment_end s a)

-- the greatest Version of a segment: in a wide file it may have the wide form
unfoldable pub segment_version : Bool → ℕ
segment_version true = most_version
segment_version false = 1000

unfoldable pub versions_fit : Bool → List ℕ → ℕ → ℕ → List Check
versions_fit wide s zero a = []
versions_fit wide s (suc n) a = le (num_at 2 s a) (segment_version wide) ∷ versions_fit wide s n (segment_end s a)

-- what segments are by themselves: n of them fill the data from a to its end, each with a Version that the file may have
abbrev pub segments_fit : Bool → List ℕ → ℕ → ℕ → ℕ → List Check
segments_fit wide s n a end = eq (segments_end s n a) end ∷ versions_fit wide s n a

-- what a gap's segment has as last: the last byte of the gap (document 02, request 01)
abbrev pub gap_last : ℕ → ℕ → ℕ
gap_last q n = q + n - 1

-- the gaps of a partition in file order: first and last of each
unfoldable pub gaps : List ℕ → List ℕ → List ℕ
gaps s [] = []
gaps s (q ∷ qs) = pick (is_gap (piece_at s q)) (q ∷ gap_last q (size_of (piece_at s q)) ∷ gaps s qs) (gaps s qs)

-- what the final segment has as last: 2,000,000,000, in a wide file any number above END
unfoldable pub last_fits : Bool → ℕ → ℕ → Bool
last_fits true end last = ltb end last
last_fits false end last = eqb last 2000000000

pub record Free (mode : Mode) (s qs : List ℕ) (h : FileHead) : Type 0 where
  -- SeekFree is the start of a plain unpacked record other than the head, of class TFile and size NbytesFree
  pub other : h.seekfree ≡ 100 → ⊥
  pub place : starts qs h.seekfree ≡ true
  pub from : ℕ
  pub end : ℕ
  pub held : free_in s h.seekfree h.nbytesfree ≡ Some (span from end)
  -- its data is exactly nfree segments (at least 1: the final one is among them)
  pub fit : All (segments_fit h.wide s h.nfree from end)
  -- the final one is END and a last that the file may have
  pub segments : List ℕ
  pub last : ℕ
  pub final : segments_at s h.nfree from ≡ segments ++ (length s ∷ last ∷ [])
  pub beyond : last_fits h.wide (length s) last ≡ true
  -- all but the final one equal the gaps, in file order, none left over; the second audit does not ask it
  pub equal : mode ≡ compared → segments ≡ gaps s qs

-- the same as a test, which the order makes: the segments xs are the gaps ys, then the final one
unfoldable pub list_gaps : Bool → ℕ → List ℕ → List ℕ → Bool
list_gaps wide end (y ∷ ys) [] = false
list_gaps wide end (y ∷ ys) (x ∷ xs) = eqb x y && list_gaps wide end ys xs
list_gaps wide end [] (first ∷ last ∷ []) = eqb first end && last_fits wide end last
list_gaps wide end [] [] = false
list_gaps wide end [] (first ∷ []) = false
list_gaps wide end [] (first ∷ last ∷ x ∷ xs) = false

-- what all but the final one of the segments xs are held to: the gaps ys; in the second audit nothing, so themselves
unfoldable pub held_to : Mode → List ℕ → List ℕ → List ℕ
held_to true ys xs = ys
held_to false ys xs = take (length xs - 2) xs

abbrev pub free_data : Mode → Bool → List ℕ → List ℕ → ℕ → Option Data → Bool
free_data mode wide s qs n (Some d) =
    all (segments_fit wide s n d.from d.end)
    && list_gaps wide (length s) (held_to mode (gaps s qs) (segments_at s n d.from)) (segments_at s n d.from)
free_data mode wide s qs n None = false

unfoldable pub free_holds : Mode → List ℕ → List ℕ → FileHead → Bool
free_holds mode s qs h =
    pick (eqb h.seekfree 100) false
    (starts qs h.seekfree && free_data mode h.wide s qs h.nfree (free_in s h.seekfree h.nbytesfree))

-- SeekInfo and NbytesInfo both 0, or the start and size of the info record
unfoldable pub info_holds : List ℕ → List ℕ → FileHead → Bool
info_holds s qs h =
    all (nothing h.seekinfo h.nbytesinfo) || (starts qs h.seekinfo && info_in s h.seekinfo h.nbytesinfo)
