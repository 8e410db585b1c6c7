-- The text of the list program: document 01, "The list program". Text is a list of ASCII codes.
use Rattle.std.specs.Prelude.{ℕ, zero, suc, ◌+◌, ◌-◌, ◌/◌, ◌%◌, List, [], ◌∷◌, ◌++◌, ◌≡◌, length, get_or, leb, ltb, eqb}
use Rattle.wire.specs.Answer.{done, refusal}
use Rattle.wire.specs.Check.{pick}
use Rattle.wire.specs.Number.{lesser}
use Rattle.wire.specs.Patch.{patch}
use Rattle.wire.specs.Quoted.{bytes}
use Rattle.wire.specs.declared.Answer.{Answer}

-- the decimal digits of a number, at most k of them, no leading zero
unfoldable pub digits_in : ℕ → ℕ → List ℕ
digits_in zero v = []
digits_in (suc k) v = pick (ltb v 10) ((48 + v) ∷ []) (digits_in k (v / 10) ++ ((48 + v % 10) ∷ []))

-- 20 digits hold every number of 64 bits
unfoldable pub decimal : ℕ → List ℕ
decimal v = digits_in 20 v

-- a word and the space after it, the last word of a line and its newline
unfoldable pub spaced : List ℕ → List ℕ
spaced x = x ++ (32 ∷ [])

unfoldable pub closed : List ℕ → List ℕ
closed x = x ++ (10 ∷ [])

-- "Parts: 0 gap, 1 head, 2 free, 3 info, 4 keys, 5 listed, 6 dir, 7 unlisted"
abbrev pub part_names : List (List ℕ)
part_names =
    bytes "gap"
    ∷ bytes "head"
    ∷ bytes "free"
    ∷ bytes "info"
    ∷ bytes "keys"
    ∷ bytes "listed"
    ∷ bytes "dir"
    ∷ bytes "unlisted" ∷ []

-- "unknown" for any other number, which no audit gives
unfoldable pub part_name : ℕ → List ℕ
part_name k = get_or part_names k (bytes "unknown")

-- "a line a piece (place, size, part, owner)"
unfoldable pub line : ℕ → ℕ → ℕ → ℕ → List ℕ
line place size part owner = spaced (decimal place) ++ spaced (decimal size) ++ spaced (part_name part) ++ closed (decimal owner)

-- where the piece of row i ends: at the next start, the last of n rows at end
unfoldable pub next_place : List ℕ → ℕ → ℕ → ℕ → ℕ
next_place start n end i = pick (ltb (i + 1) n) (get_or start (i + 1) 0) end

-- the line of row i of n; the size is 0 where the starts do not rise, which no audit gives
unfoldable pub row : List ℕ → List ℕ → List ℕ → ℕ → ℕ → ℕ → List ℕ
row start part owner n end i =
    line (get_or start i 0) (next_place start n end i - get_or start i 0) (get_or part i 0) (get_or owner i 0)

-- the lines of the first k rows of n
unfoldable pub lines : List ℕ → List ℕ → List ℕ → ℕ → ℕ → ℕ → List ℕ
lines start part owner n end zero = []
lines start part owner n end (suc k) = lines start part owner n end k ++ row start part owner n end k

-- what the first line begins with
abbrev pub passed : List ℕ
passed = bytes "passed"

abbrev pub unfinished : List ℕ
unfinished = bytes "unfinished"

abbrev pub refused : List ℕ
refused = bytes "refused"

-- "prints `passed N` .. or `refused NUMBER PLACE`, `unfinished PIECES`": a pass is 0, unfinished 7
unfoldable pub heading : Answer → List ℕ
heading a =
    pick (eqb a.number 0) (spaced passed ++ closed (decimal a.count))
    (pick (eqb a.number 7) (spaced unfinished ++ closed (decimal a.count))
    (spaced refused ++ spaced (decimal a.number) ++ closed (decimal a.place)))

-- the rows that are listed: on a pass as many as were counted, at most as many as every table has; else none
unfoldable pub rows_of : Answer → List ℕ → List ℕ → List ℕ → ℕ
rows_of a start part owner =
    pick (eqb a.number 0) (lesser a.count (lesser (length start) (lesser (length part) (length owner)))) 0

-- the whole text for an audit's answer and tables, of a file of end bytes
unfoldable pub report_of : Answer → List ℕ → List ℕ → List ℕ → ℕ → List ℕ
report_of a start part owner end =
    heading a ++ lines start part owner (rows_of a start part owner) end (rows_of a start part owner)

-- a text that is written at the front of a buffer: 0, 0, its length; 17 room where it is longer than the buffer
unfoldable pub put_answer : List ℕ → List ℕ → Answer
put_answer text out = pick (leb (length text) (length out)) (done (length text)) (refusal 17 0)

-- the buffer at exit: the text, then what stood there; on 17 unchanged
unfoldable pub put_buffer : List ℕ → List ℕ → List ℕ
put_buffer text out = pick (leb (length text) (length out)) (patch out 0 text) out

-- what a writer promises
abbrev pub Wrote : List ℕ → List ℕ → Answer → List ℕ → Type 0
Wrote text out r out' = (r ≡ put_answer text out) × (out' ≡ put_buffer text out)
