-- Elements and their rows: document 002, "TStreamer<XXX>"; document 01, "StreamerInfo (002)".
use Rattle.std.specs.Prelude.{ℕ, zero, suc, ◌-◌, List, [], ◌∷◌, ◌++◌, set, Result, Ok}
use Rattle.wire.specs.declared.fault.Fault.{Fault}
use Rattle.infofield.specs.Field.{◌>>=◌, ended_at}
use Rattle.infotag.specs.Stand.{Look, head_by}
use Rattle.infotag.specs.declared.tag.Classes.{Classes}
use Rattle.infoelement.specs.Element.{member_at}
use Rattle.infoelement.specs.declared.element.Fields.{Fields}
use Rattle.inforow.specs.declared.Row.{Row}
use Rattle.streamer.specs.declared.row.Owner.{Owner}

-- what was read: the tags seen, the rows and the next place
pub record Going : Type 0 where
  pub tags : List ℕ
  pub rows : List Row
  pub next : ℕ

-- what reading gives: this, or the first fault
abbrev pub Run : Type 0
Run = Result Going Fault

-- k objects one after the other, each told its index from 0; the first fault decides
unfoldable pub times : (ℕ → List ℕ → ℕ → Run) → List ℕ → ℕ → ℕ → Run
times f ts p zero = Ok (record { tags = ts; rows = []; next = p })
times f ts p (suc k) = do
  x ← times f ts p k
  y ← f k x.tags x.next
  Ok (record { tags = y.tags; rows = x.rows ++ y.rows; next = y.next })

-- a step f from the place after a run; it has no row and no tag
unfoldable pub onward : Run → (ℕ → Result ℕ Fault) → Run
onward r f = do
  x ← r
  q ← f x.next
  Ok (record { tags = x.tags; rows = x.rows; next = q })

-- the object ends at e, where its content stops
abbrev pub ends : Run → ℕ → Run
ends r e = onward r (λ p. ended_at p e)

-- the classes from one number to another
abbrev pub classes : ℕ → ℕ → Classes
classes low high = record { low = low; high = high }

-- the row of an element
abbrev pub row_of : Owner → ℕ → Fields → Row
row_of o kind m = record {
  class = o.class;
  kind = kind;
  name = m.name - o.rec;
  typename = m.typename - o.rec;
  ftype = m.ftype;
  length = m.length;
}

-- an element, read with the tags ts seen, its own taken as l says: ByteCount, tag of one of the ten classes, TStreamer<XXX>
unfoldable pub element_at : Look → List ℕ → Owner → ℕ → List ℕ → ℕ → Run
element_at l s o e ts p = do
  h ← head_by l s o.rec p e (classes 2 11) ts
  m ← member_at s (h.class - 1) h.next h.close
  d ← ended_at m.next h.close
  Ok (record { tags = set ts h.class h.offset; rows = row_of o (h.class - 1) m ∷ []; next = d })
