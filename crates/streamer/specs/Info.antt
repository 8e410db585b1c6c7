-- The StreamerInfo record: document 002, object by object; document 01, "StreamerInfo (002)". Its tags are taken as l says.
use Rattle.std.specs.Prelude.{ℕ, ◌/◌, ◌≡◌, List, [], length, set, replicate, leb, Ok, Err}
use Rattle.wire.specs.Answer.{done}
use Rattle.wire.specs.Check.{pick}
use Rattle.wire.specs.Fault.{fault_answer}
use Rattle.wire.specs.Lent.{Lent, MutLent, held, before, after}
use Rattle.wire.specs.declared.Answer.{Answer}
use Rattle.table.specs.Table.{filled}
use Rattle.infofield.specs.Field.{◌>>=◌}
use Rattle.infolist.specs.List.{array_body_at, info_list_at, option_at}
use Rattle.infolist.specs.declared.list.Objects.{Objects}
use Rattle.infotag.specs.Stand.{Look, once, twice, head_by}
use Rattle.infoelement.specs.Element.{class_body_at}
use Rattle.inforow.specs.Row.{flat}
use Rattle.inforow.specs.declared.Row.{Row}
use Rattle.streamer.specs.Row.{Run, onward, ends, classes, times, element_at}
use Rattle.streamer.specs.declared.row.Owner.{Owner}

-- the elements of a class, the objects n of its array, where the tags ts were seen
unfoldable pub elements_at : Look → List ℕ → Owner → Objects → List ℕ → Run
elements_at l s o n ts = times (λ j. element_at l s o n.end) ts n.from n.count

-- TObjArray: ByteCount, its tag, what an array starts with, the elements of a class
unfoldable pub array_at : Look → List ℕ → Owner → ℕ → List ℕ → ℕ → Run
array_at l s o e ts p = do
  h ← head_by l s o.rec p e (classes 1 1) ts
  n ← array_body_at s h.next h.close
  ends (ends (elements_at l s o n (set ts h.class h.offset)) n.end) h.close

-- TStreamerInfo: ByteCount, its tag, what a class starts with, its array
unfoldable pub class_at : Look → List ℕ → Owner → ℕ → List ℕ → ℕ → Run
class_at l s o e ts p = do
  h ← head_by l s o.rec p e (classes 0 0) ts
  b ← class_body_at s h.next h.close
  ends (ends (array_at l s o b.close (set ts h.class h.offset) b.from) b.close) h.close

-- the class with index i of the record at rec
abbrev pub owner_of : ℕ → ℕ → Owner
owner_of rec i = record { rec = rec; class = i }

-- object i of the list n of the record at rec: a class, and the list's option after it
unfoldable pub list_object_at : Look → List ℕ → ℕ → Objects → ℕ → List ℕ → ℕ → Run
list_object_at l s rec n i ts p =
    onward (class_at l s (owner_of rec i) n.end ts p) (λ q. option_at n.version s q n.end)

-- the record at p: the objects of its list, where no tag was seen before; the list ends after the last of them and its option
unfoldable pub info_at : Look → List ℕ → ℕ → Run
info_at l s p = do
  n ← info_list_at s p
  ends (times (list_object_at l s p n) (replicate 12 0) n.from n.count) n.end

-- 24 rows: "count = rows needed"; n numbers are lent, and only whole rows count as room
abbrev pub too_many : ℕ → Answer
too_many m = record { number = 24; place = 0; count = m }

abbrev pub answered : Run → ℕ → Answer
answered (Ok x) n = pick (leb (length x.rows) (n / 6)) (done (length x.rows)) (too_many (length x.rows))
answered (Err f) n = fault_answer f

unfoldable pub info_answer : List ℕ → ℕ → ℕ → Answer
info_answer s p n = answered (info_at once s p) n

-- the rows that the table shows: all of them, where there is room; on any refusal none
abbrev pub shown : Run → ℕ → List Row
shown (Ok x) n = pick (leb (length x.rows) (n / 6)) x.rows []
shown (Err f) n = []

-- the table at exit: the rows and zeros to its end
unfoldable pub info_table : List ℕ → ℕ → ℕ → List ℕ
info_table s p n = filled (flat (shown (info_at once s p) n)) n

-- what the reader of the record at a place promises: its answer, the table, and that every class that an object is taken as stands in the
-- record, at its tag or where its tag refers to: a reader that looks each tag up there once more reads the same
pub record Informs (file : Lent) (at : ℕ) (table : MutLent) (r : Answer) : Type 0 where
  pub answer : r ≡ info_answer (held file) at (length (before table))
  pub rows : after table ≡ info_table (held file) at (length (before table))
  pub tags : info_at once (held file) at ≡ info_at (twice at) (held file) at
