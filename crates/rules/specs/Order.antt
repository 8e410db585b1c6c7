-- The order of refusals: document 01, "Order" and "Numbers given back". The verdict of an audit on a byte string,
-- with tables of a given room.
use Rattle.std.specs.Prelude.{ℕ, zero, suc, ◌+◌, List, [], ◌∷◌, leb, ltb, length, replicate, Option, Some, None, Result, Ok, Err}
use Rattle.wire.specs.Check.{pick}
use Rattle.wire.specs.Fault.{number_of as reason_number}
use Rattle.wire.specs.declared.Answer.{Answer}
use Rattle.key.specs.Piece.{piece_at}
use Rattle.wire.specs.declared.fault.Fault.{Fault}
use Rattle.key.specs.declared.piece.Piece.{Piece}
use Rattle.key.specs.declared.piece.Piece.TheVariants.{Record, Gap}
use Rattle.directory.specs.Dir.{head_in, head_answer}
use Rattle.fileheader.specs.File.{opened_as, open_answer}
use Rattle.directory.specs.declared.DirHead.{DirHead}
use Rattle.fileheader.specs.declared.FileHead.{FileHead}
use Rattle.keylist.specs.Keys.{free_answer}
use Rattle.rules.specs.Free.{Mode, free_holds, info_holds}
use Rattle.rules.specs.Turn.{Turn, going, stop, rounds, first_parts, stop_at}

-- the starts of the pieces, or the first refusal by place
pub data Chain : Type 0 where
  whole : List ℕ → Chain
  fault : ℕ → ℕ → Chain

abbrev pub prepend : ℕ → Chain → Chain
prepend p (whole qs) = whole (p ∷ qs)
prepend p (fault c q) = fault c q

abbrev pub on_piece : (ℕ → Chain) → ℕ → Result Piece Fault → Chain
on_piece rest p (Ok (Record k)) = prepend p (rest (p + k.nbytes))
on_piece rest p (Ok (Gap n)) = prepend p (rest (p + n))
on_piece rest p (Err f) = fault (reason_number f.reason) f.place

-- the chain from p, at most n pieces (a file has fewer pieces than bytes, so zero is not reached)
unfoldable pub chain : List ℕ → ℕ → ℕ → Chain
chain s zero p = fault 5 p
chain s (suc n) p = pick (ltb p (length s)) (on_piece (chain s n) p (piece_at s p)) (whole [])

-- a pass, with start, part and owner of each piece; or number, place and count
pub data Verdict : Type 0 where
  passed : List ℕ → List ℕ → List ℕ → Verdict
  refused : ℕ → ℕ → ℕ → Verdict

abbrev pub refused_as : Answer → Verdict
refused_as a = refused a.number a.place a.count

abbrev pub on_turn : List ℕ → Turn → Verdict
on_turn qs (going ps os c) = passed qs ps os
on_turn qs (stop c p) = refused c p 0

-- of one audit or the other: only the free list's test depends on it
module _ (mode : Mode) where
  -- 8 head, 9 free, 10 info, then the directories
  abbrev pub on_head : List ℕ → FileHead → List ℕ → Option DirHead → Turn
  on_head s h qs (Some dh) =
      pick (free_holds mode s qs h)
      (pick (info_holds s qs h) (rounds s h qs (length qs) (first_parts s h qs) (replicate (length qs) 0) 0) (stop 10 h.seekinfo))
      (stop_at (free_answer h.seekfree None))
  on_head s h qs None = stop_at (head_answer None)

  unfoldable pub ruled : List ℕ → FileHead → List ℕ → Turn
  ruled s h qs = on_head s h qs (head_in s h.nbytesname)

  -- 7 unfinished: pieces exceed room
  abbrev pub on_chain : List ℕ → ℕ → FileHead → Chain → Verdict
  on_chain s room h (whole qs) = pick (leb (length qs) room) (on_turn qs (ruled s h qs)) (refused 7 0 (length qs))
  on_chain s room h (fault c p) = refused c p 0

  abbrev pub on_opened : List ℕ → ℕ → Result FileHead Fault → Verdict
  on_opened s room (Ok h) = on_chain s room h (chain s (length s) 100)
  on_opened s room (Err f) = refused_as (open_answer (Err f))

  unfoldable pub verdict : List ℕ → ℕ → Verdict
  verdict s room = on_opened s room (opened_as s)

-- what is given back: a pass is 0, 0, pieces; the rows, or none
abbrev pub number_of : Verdict → ℕ
number_of (passed qs ps os) = 0
number_of (refused c p n) = c

abbrev pub place_of : Verdict → ℕ
place_of (passed qs ps os) = 0
place_of (refused c p n) = p

abbrev pub count_of : Verdict → ℕ
count_of (passed qs ps os) = length qs
count_of (refused c p n) = n

abbrev pub starts_of : Verdict → List ℕ
starts_of (passed qs ps os) = qs
starts_of (refused c p n) = []

abbrev pub parts_of : Verdict → List ℕ
parts_of (passed qs ps os) = ps
parts_of (refused c p n) = []

abbrev pub owners_of : Verdict → List ℕ
owners_of (passed qs ps os) = os
owners_of (refused c p n) = []
