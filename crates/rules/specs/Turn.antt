-- The order of refusals among the directories: document 01, "Order". It goes over the parts and owners given so far; the rules do
-- not mention it.
use Rattle.std.specs.Prelude.{ℕ, zero, suc, ◌+◌, ◌-◌, List, [], ◌∷◌, map, eqb, leb, ltb, length, get_or, set, Option, Some, None}
use Rattle.wire.specs.Check.{all, pick}
use Rattle.wire.specs.Number.{num_at}
use Rattle.wire.specs.declared.Answer.{Answer}
use Rattle.key.specs.Piece.{piece_at}
use Rattle.directory.specs.Dir.{dir_of, no_keys, sub_answer}
use Rattle.keylist.specs.Keys.{list_in, copy_in, bad_list, list_answer, copy_answer}
use Rattle.keylist.specs.declared.Data.{Data}
use Rattle.directory.specs.declared.DirHead.{DirHead}
use Rattle.fileheader.specs.declared.FileHead.{FileHead}
use Rattle.rules.specs.Entry.{entry_fits, dir_class}
use Rattle.rules.specs.Free.{is_gap}
use Rattle.rules.specs.Part.{gap, head, free, info, keys, listed, dir, unlisted}
use Rattle.rules.specs.Row.{starts}
use Rattle.key.specs.declared.header.Key.{Key}

-- the parts and owners given so far, and the next place of a list; or the number and place of the first refusal
pub data Turn : Type 0 where
  going : List ℕ → List ℕ → ℕ → Turn
  stop : ℕ → ℕ → Turn

-- the refusal of an answer
abbrev pub stop_at : Answer → Turn
stop_at a = stop a.number a.place

abbrev pub and_then : (List ℕ → List ℕ → ℕ → Turn) → Turn → Turn
and_then f (going ps os c) = f ps os c
and_then f (stop n p) = stop n p

-- a directory that was found and is not done has its part plus 8; the mark 14 in the part table is not the refusal 14
abbrev pub mark : ℕ
mark = 8

abbrev pub found : ℕ → ℕ
found part = part + mark

-- the row of the piece that starts at p; where none does, the number of rows
unfoldable pub row_of : List ℕ → ℕ → ℕ
row_of [] p = 0
row_of (q ∷ qs) p = pick (eqb q p) 0 (suc (row_of qs p))

-- a record that is unlisted so far is given a part and an owner; any other is 14 at a place
abbrev pub give : ℕ → ℕ → ℕ → ℕ → ℕ → List ℕ → List ℕ → Turn
give i part d next place ps os = pick (eqb (get_or ps i 0) unlisted) (going (set ps i part) (set os i d) next) (stop 14 place)

-- the part of a listed record, marked where it is a directory
unfoldable pub listed_mark : List ℕ → ℕ → ℕ
listed_mark s p = pick (dir_class s (piece_at s p)) (found dir) listed

-- one copy at c, in the list at seek of the directory at d: 12 if it does not parse, 13, 14
abbrev pub on_copy : List ℕ → List ℕ → ℕ → ℕ → ℕ → List ℕ → List ℕ → Option Key → Turn
on_copy s qs d seek c ps os (Some k) =
    pick (all (entry_fits s qs d c k))
    (give (row_of qs k.seekkey) (listed_mark s k.seekkey) d (c + k.keylen) c ps os)
    (stop 13 c)
on_copy s qs d seek c ps os None = stop_at (copy_answer seek None)

unfoldable pub copy_turn : List ℕ → List ℕ → ℕ → ℕ → ℕ → List ℕ → List ℕ → ℕ → Turn
copy_turn s qs d seek end ps os c = on_copy s qs d seek c ps os (copy_in s c end)

-- n copies, one after the other
unfoldable pub copies : List ℕ → List ℕ → ℕ → ℕ → ℕ → ℕ → List ℕ → List ℕ → ℕ → Turn
copies s qs d seek end zero ps os c = going ps os c
copies s qs d seek end (suc n) ps os c = and_then (copies s qs d seek end n) (copy_turn s qs d seek end ps os c)

-- 12 for bytes left over
abbrev pub ended : ℕ → ℕ → List ℕ → List ℕ → ℕ → Turn
ended seek end ps os c = pick (eqb c end) (going ps os c) (stop_at (bad_list seek))

-- the data of a list, from a to end: NKeys, then the copies
unfoldable pub data_turn : List ℕ → List ℕ → ℕ → ℕ → ℕ → ℕ → List ℕ → List ℕ → ℕ → Turn
data_turn s qs d seek a end ps os c =
    pick (leb (a + 4) end) (and_then (ended seek end) (copies s qs d seek end (num_at 4 s a) ps os c)) (stop_at (bad_list seek))

-- 12 for the list record, 14 for it, then its data
abbrev pub on_data : List ℕ → List ℕ → ℕ → ℕ → List ℕ → List ℕ → Option Data → Turn
on_data s qs d seek ps os (Some l) =
    and_then (data_turn s qs d seek l.from l.end) (give (row_of qs seek) keys d (l.from + 4) d ps os)
on_data s qs d seek ps os None = stop_at (list_answer seek None)

-- the list record is a piece of the partition
unfoldable pub keys_in : List ℕ → List ℕ → ℕ → DirHead → Option Data
keys_in s qs d dh = pick (starts qs dh.seekkeys) (list_in s dh.seekkeys dh.nbyteskeys d) None

unfoldable pub keys_turn : List ℕ → List ℕ → ℕ → DirHead → List ℕ → List ℕ → Turn
keys_turn s qs d dh ps os =
    pick (all (no_keys dh)) (going ps os 0) (on_data s qs d dh.seekkeys ps os (keys_in s qs d dh))

-- 11, then the keys list
abbrev pub on_dir : List ℕ → List ℕ → ℕ → List ℕ → List ℕ → Option DirHead → Turn
on_dir s qs d ps os (Some dh) = keys_turn s qs d dh ps os
on_dir s qs d ps os None = stop_at (sub_answer d None)

-- the directory in a row
unfoldable pub dir_turn : List ℕ → FileHead → List ℕ → ℕ → List ℕ → List ℕ → Turn
dir_turn s h qs row ps os = on_dir s qs (get_or qs row 0) ps os (dir_of s h (get_or qs row 0) (get_or os row 0))

-- it is done
abbrev pub settle : ℕ → ℕ → List ℕ → List ℕ → ℕ → Turn
settle row part ps os c = going (set ps row part) os c

unfoldable pub round_turn : List ℕ → FileHead → List ℕ → ℕ → List ℕ → List ℕ → Turn
round_turn s h qs row ps os = and_then (settle row (get_or ps row 0 - mark)) (dir_turn s h qs row ps os)

-- the lowest directory found and not done; where there is none, the number of rows
unfoldable pub next_row : List ℕ → ℕ
next_row [] = 0
next_row (k ∷ ps) = pick (leb mark k) 0 (suc (next_row ps))

-- directories, lowest place first among those found and not done: at most n of them; as many as rows is enough (`Counts.fewer`)
unfoldable pub rounds : List ℕ → FileHead → List ℕ → ℕ → List ℕ → List ℕ → ℕ → Turn
rounds s h qs zero ps os c = going ps os c
rounds s h qs (suc n) ps os c =
    pick (ltb (next_row ps) (length ps)) (and_then (rounds s h qs n) (round_turn s h qs (next_row ps) ps os)) (going ps os c)

-- the parts before the first directory is taken: the head is found, free list and info have theirs, no other record has one
unfoldable pub first_part : List ℕ → FileHead → ℕ → ℕ
first_part s h q =
    pick (eqb q 100) (found head)
    (pick (eqb q h.seekfree) free (pick (eqb q h.seekinfo) info (pick (is_gap (piece_at s q)) gap unlisted)))

abbrev pub first_parts : List ℕ → FileHead → List ℕ → List ℕ
first_parts s h qs = map (first_part s h) qs
