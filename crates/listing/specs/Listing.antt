-- What the list program prints: document 01, "The list program".
use Rattle.std.specs.Prelude.{ℕ, ◌-◌, ◌≤◌, ◌<◌, List, ◌≡◌, leb, length, get_or, take}
use Rattle.wire.specs.Answer.{done}
use Rattle.wire.specs.Check.{pick}
use Rattle.wire.specs.Quoted.{bytes}
use Rattle.wire.specs.declared.Answer.{Answer}
use Rattle.table.specs.Table.{filled}
use Rattle.key.specs.Piece.{piece_at, size_of}
use Rattle.report.specs.Report.{next_place, report_of, put_answer, put_buffer}
use Rattle.rules.specs.Free.{compared}
use Rattle.rules.specs.Order.{Verdict, verdict, number_of, place_of, count_of, starts_of, parts_of, owners_of}

-- "with tables of 1,024"
abbrev pub room : ℕ
room = 1024

-- the report of a verdict on the bytes s, with the tables that the audit leaves
unfoldable pub reported : List ℕ → Verdict → List ℕ
reported s v =
    report_of (record { number = number_of v; place = place_of v; count = count_of v }) (filled (starts_of v) room)
    (filled (parts_of v) room) (filled (owners_of v) room) (length s)

-- "input too long", and a newline
abbrev pub too_long : List ℕ
too_long = bytes "input too long\n"

-- the bytes of standard input that are taken (document 02, request 02)
abbrev pub input_limit : ℕ
input_limit = 32768

-- the text for the bytes s
unfoldable pub listing_of : List ℕ → List ℕ
listing_of s = pick (leb (length s) input_limit) (reported s (verdict compared s room)) too_long

-- room for the input: one byte more than is taken, so that an input that is too long is seen; and room for the text of every input
abbrev pub input_room : ℕ
input_room = 32769

abbrev pub text_room : ℕ
text_room = 73800

-- the size that is printed for row i of a pass, the difference of two places, is that of the piece there
abbrev pub Sizes : List ℕ → Verdict → Type 0
Sizes s v = (i : ℕ) → i < length (starts_of v)
    → next_place (filled (starts_of v) room) (length (starts_of v)) (length s) i - get_or (starts_of v) i 0
    ≡ size_of (piece_at s (get_or (starts_of v) i 0))

-- n counts bytes at the front of a buffer: said twice, so that a caller may lend them with no proof of its own
abbrev pub Counts : ℕ → List ℕ → Type 0
Counts n b = (n ≤ length b) × (n ≡ length (take n b))

-- what listing promises: the text stands at the front of the buffer and is counted, or 17. Nothing is lost with the rooms above:
-- they hold the text, and of every input as much as its text depends on
pub record Lists (s out out' : List ℕ) (r : Answer) : Type 0 where
  pub answer : r ≡ put_answer (listing_of s) out
  pub buffer : out' ≡ put_buffer (listing_of s) out
  pub counts : Counts r.count out'
  pub sizes : Sizes s (verdict compared s room)
  pub held : text_room ≤ length out → r ≡ done (length (listing_of s))
  pub whole : (t : List ℕ) → s ≡ take input_room t → listing_of s ≡ listing_of t
