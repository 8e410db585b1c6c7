-- Document 01, "Examples by hand", those marked * and one.root's 0, 7 and 9, and beside them the wide form (document 02, request 02),
-- a short string in the long form (request 04), options of lists (request 05) and the ten kinds: one table of what the definitions give.
use Rattle.std.specs.Prelude.{ℕ, false, List, [], ◌∷◌, ◌++◌, length, take, set, replicate, Option, Some, None}
use Rattle.wire.specs.Check.{Check, eq, yes}
use Rattle.date.specs.Date.{pack_answer}
use Rattle.wire.specs.Equal.{eq_bytes}
use Rattle.wire.specs.Number.{num_at}
use Rattle.wire.specs.Quoted.{bytes}
use Rattle.wire.specs.Text.{text_bytes}
use Rattle.wire.specs.declared.Answer.{Answer}
use Rattle.date.specs.declared.Date.{Date}
use Rattle.key.specs.Header.{sum_of, header_in}
use Rattle.key.specs.declared.header.Key.{Key}
use Rattle.key.specs.Piece.{piece_at, piece_answer}
use Rattle.rules.specs.Free.{compared, apart, is_gap}
use Rattle.rules.specs.Order.{Verdict, verdict, number_of, place_of, count_of, starts_of, parts_of, owners_of}
use Rattle.rules.specs.Turn.{Turn, going, stop, copy_turn}
use Rattle.streamer.specs.Info.{info_answer, info_table}
use Rattle.examples.specs.Records.{key_bytes, head_key, object_key, one_root, wide_root, long_name, two_classes, one_class, ten_kinds}

-- the date of the first example, with a month
abbrev pub the_date : ℕ → Date
the_date m = record {
  year = 2024;
  month = m;
  day = 15;
  hour = 12;
  minute = 30;
  second = 45;
}

-- number, place and count of an answer, and of a verdict
abbrev pub answers : Answer → ℕ → ℕ → ℕ → List Check
answers a n p c = eq a.number n ∷ eq a.place p ∷ eq a.count c ∷ []

abbrev pub says : Verdict → ℕ → ℕ → ℕ → List Check
says v n p c = eq (number_of v) n ∷ eq (place_of v) p ∷ eq (count_of v) c ∷ []

-- the rows of a verdict
abbrev pub shows : Verdict → List ℕ → List ℕ → List ℕ → List Check
shows v starts parts owners = yes (eq_bytes (starts_of v) starts) ∷ yes (eq_bytes (parts_of v) parts) ∷ yes (eq_bytes (owners_of v) owners) ∷ []

-- a refusal among the directories: its number and place
abbrev pub stops : Turn → ℕ → ℕ → List Check
stops (going ps os c) n p = yes false ∷ []
stops (stop m q) n p = eq m n ∷ eq q p ∷ []

-- the piece at 0 is a gap of n bytes
abbrev pub is_gap_of : List ℕ → ℕ → List Check
is_gap_of s n = yes (is_gap (piece_at s 0)) ∷ answers (piece_answer s 0) 0 0 n

-- the sum of the header at 0
abbrev pub sum_in : Option Key → ℕ
sum_in (Some k) = sum_of k
sum_in None = 0

abbrev pub sum_at : List ℕ → ℕ
sum_at s = sum_in (header_in s 0 (length s))

-- a record at 0 of this Version, with empty strings and no data
abbrev pub empty_key : ℕ → List ℕ
empty_key version = key_bytes version 0 0 0 [] [] []

-- a record at 0 whose name has the long form with the length 254: the byte that follows it is the title's length, 0
abbrev pub short_in_long : List ℕ
short_in_long = set (key_bytes 4 0 0 0 (bytes "A") (replicate 255 0) []) 32 254

-- a copy whose KeyLen, 41, is one above its sum
abbrev pub long_copy : List ℕ
long_copy = set (object_key false 168) 15 41 ++ 0 ∷ []

abbrev pub examples : List Check
examples =
    -- 2024-03-15 12:30:45 packs to 1960757165; month 16 is 18
    answers (pack_answer (the_date 3)) 0 0 1960757165
    ++ answers (pack_answer (the_date 16)) 18 0 0
    -- StreamerInfo's own key has sum 64
    ++ eq (sum_at (two_classes 4 89)) 64
    -- its first new class tag is at 89, so a reference to it is 0x8000005b: it is taken, and one to 90 is not
    ∷ eq (num_at 4 (two_classes 4 89) 89) 4294967295 ∷ eq (num_at 4 (two_classes 4 89) 187) 2147483739
    ∷ answers (info_answer (two_classes 4 89) 0 6) 0 0 1
    ++ yes (eq_bytes (info_table (two_classes 4 89) 0 7) (1 ∷ 1 ∷ 307 ∷ 346 ∷ 0 ∷ 0 ∷ 0 ∷ []))
    ∷ answers (info_answer (two_classes 4 90) 0 6) 22 187 0
    ++ answers (info_answer (two_classes 4 89) 0 5) 24 0 1
    -- one.root's head key has sum 35; "x" of TObjString 40
    ++ eq (sum_at (head_key false)) 35 ∷ eq (sum_at (object_key false 168)) 40
    -- names of 254, 255 and 256 bytes are taken (document 02, request 04)
    ∷ answers (piece_answer (long_name 254) 0) 0 0 284
    ++ answers (piece_answer (long_name 255) 0) 0 0 289
    ++ answers (piece_answer (long_name 256) 0) 0 0 290
    -- three bytes left before END is 5; four holding -4 is a gap
    ++ answers (piece_answer (255 ∷ 255 ∷ 255 ∷ []) 0) 5 0 0
    ++ is_gap_of (255 ∷ 255 ∷ 255 ∷ 252 ∷ []) 4
    -- number 0, or -2147483648 with fewer bytes left, is 5
    ++ answers (piece_answer (0 ∷ 0 ∷ 0 ∷ 0 ∷ []) 0) 5 0 0
    ++ answers (piece_answer (128 ∷ 0 ∷ 0 ∷ 0 ∷ []) 0) 5 0 0
    -- 99 bytes is 1; zero bytes is 1
    ++ says (verdict compared (replicate 99 0) 5) 1 0 0
    ++ says (verdict compared [] 5) 1 0 0
    -- a copy with KeyLen one above its sum is 12 at its list; a plain one is read, and is 13 where no piece starts at its SeekKey
    ++ stops (copy_turn long_copy [] 100 218 41 [] [] 0) 12 218
    ++ stops (copy_turn (object_key false 168) [] 100 218 40 [] [] 0) 13 0
    -- one.root, room 5 passes; room 4 is 7 with count 5. Segment 297 to 309 is 9 (document 02, request 01)
    ++ says (verdict compared (one_root 308) 5) 0 0 5
    ++ shows (verdict compared (one_root 308) 5) (100 ∷ 168 ∷ 218 ∷ 297 ∷ 309 ∷ []) (1 ∷ 5 ∷ 4 ∷ 0 ∷ 2 ∷ []) (0 ∷ 100 ∷ 100 ∷ 0 ∷ 0 ∷ [])
    ++ says (verdict compared (one_root 308) 4) 7 0 5
    ++ says (verdict compared (one_root 309) 5) 9 309 0
    -- the second audit does not compare them (document 02, request 10)
    ++ says (verdict apart (one_root 309) 5) 0 0 5
    -- not of the paper's examples, but of request 02. A key with Version 1000 has sum 29 where its strings are empty, with 1001 37
    ++ answers (piece_answer (empty_key 1000) 0) 0 0 29
    ++ answers (piece_answer (empty_key 1001) 0) 0 0 37
    ++ answers (piece_answer (empty_key 2000) 0) 0 0 37
    ++ answers (piece_answer (empty_key 2001) 0) 6 0 0
    -- a wide record of 36 bytes is 6
    ++ answers (piece_answer (set (take 36 (empty_key 1001)) 3 36) 0) 6 0 0
    -- the StreamerInfo record with a wide key: its tags are counted from the record's start
    ++ eq (sum_at (two_classes 1004 97)) 72 ∷ answers (info_answer (two_classes 1004 97) 0 6) 0 0 1
    ++ answers (info_answer (two_classes 1004 89) 0 6) 22 195 0
    -- a wide one.root: its final segment's last is any number above END
    ++ says (verdict compared (wide_root 433) 5) 0 0 5
    ++ shows (verdict compared (wide_root 433) 5) (100 ∷ 188 ∷ 246 ∷ 341 ∷ 353 ∷ []) (1 ∷ 5 ∷ 4 ∷ 0 ∷ 2 ∷ []) (0 ∷ 100 ∷ 100 ∷ 0 ∷ 0 ∷ [])
    ++ says (verdict compared (wide_root 18446744073709551615) 5) 0 0 5
    ++ says (verdict compared (wide_root 432) 5) 9 353 0
    -- Units 8 in the narrow one, and 4 in the wide, is 3
    ++ says (verdict compared (set (one_root 308) 32 8) 5) 3 0 0
    ++ says (verdict compared (set (wide_root 433) 40 4) 5) 3 0 0
    -- nor is this, of request 04: a name of 254 bytes in the long form is 6
    ++ answers (piece_answer short_in_long 0) 6 0 0
    -- nor are these, of request 05. Below Version 4 no option stands after an object, from 4 on one after the last too
    ++ answers (info_answer (one_class 3 []) 0 0) 0 0 0
    ++ answers (info_answer (one_class 3 (0 ∷ [])) 0 0) 21 183 0
    ++ answers (info_answer (one_class 4 []) 0 0) 21 183 0
    ++ answers (info_answer (one_class 4 (0 ∷ [])) 0 0) 0 0 0
    -- in Version 4 the byte 255 is a plain length, from 5 on it opens the long form
    ++ answers (info_answer (one_class 4 (replicate 256 255)) 0 0) 0 0 0
    ++ answers (info_answer (one_class 5 (replicate 256 255)) 0 0) 21 183 0
    ++ answers (info_answer (one_class 4 (text_bytes (replicate 255 0))) 0 0) 21 439 0
    ++ answers (info_answer (one_class 5 (text_bytes (replicate 255 0))) 0 0) 0 0 0
    ++ answers (info_answer (one_class 65535 (text_bytes (replicate 255 0))) 0 0) 0 0 0
    -- nor is this: each of the ten kinds, and its row
    ++ answers (info_answer ten_kinds 0 60) 0 0 10
    ++ yes
    (eq_bytes (info_table ten_kinds 0 60)
    (0 ∷ 1 ∷ 233 ∷ 272 ∷ 1 ∷ 11
    ∷ 0 ∷ 2 ∷ 333 ∷ 372 ∷ 2 ∷ 12
    ∷ 0 ∷ 3 ∷ 426 ∷ 465 ∷ 3 ∷ 13
    ∷ 0 ∷ 4 ∷ 525 ∷ 564 ∷ 4 ∷ 14
    ∷ 0 ∷ 5 ∷ 626 ∷ 665 ∷ 5 ∷ 15
    ∷ 0 ∷ 6 ∷ 726 ∷ 765 ∷ 6 ∷ 16
    ∷ 0 ∷ 7 ∷ 817 ∷ 856 ∷ 7 ∷ 17
    ∷ 0 ∷ 8 ∷ 921 ∷ 960 ∷ 8 ∷ 18
    ∷ 0 ∷ 9 ∷ 1011 ∷ 1050 ∷ 9 ∷ 19
    ∷ 0 ∷ 10 ∷ 1115 ∷ 1154 ∷ 10 ∷ 20 ∷ []))
    ∷ []
