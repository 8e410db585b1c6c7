-- TNamed, TStreamerInfo up to its array, TStreamerElement and the ten classes over it: document 002, object by object.
use Rattle.std.specs.Prelude.{ℕ, List, eqb, Result, Ok}
use Rattle.wire.specs.Check.{pick}
use Rattle.wire.specs.Number.{num_at}
use Rattle.wire.specs.declared.fault.Fault.{Fault}
use Rattle.infofield.specs.Field.{◌>>=◌, numbers_at, versioned_at, ended_at, text_field_at, object_at}
use Rattle.infofield.specs.declared.field.Body.{Body}
use Rattle.infoelement.specs.declared.element.Name.{Name}
use Rattle.infoelement.specs.declared.element.Fields.{Fields}

-- TNamed: ByteCount, Version (2), TObject, fName, fTitle; the place of fName and the place after it
unfoldable pub named_at : List ℕ → ℕ → ℕ → Result Name Fault
named_at s p e = do
  o ← versioned_at s p e
  b ← object_at s o.from o.close
  c ← text_field_at s b o.close
  d ← text_field_at s c o.close
  g ← ended_at d o.close
  Ok (record { at = b; next = g })

-- TStreamerInfo after its tag, up to its array: ByteCount, Version (2), TNamed, fCheckSum, fClassVersion
unfoldable pub class_body_at : List ℕ → ℕ → ℕ → Result Body Fault
class_body_at s p e = do
  o ← versioned_at s p e
  n ← named_at s o.from o.close
  a ← numbers_at 2 n.next o.close
  Ok (record { from = a; close = o.close })

-- TStreamerElement: ByteCount, Version (2), TNamed, fType, fSize, fArrayLength, fArrayDim, fMaxIndex (five), fTypeName
unfoldable pub details_at : List ℕ → Name → ℕ → Result Fields Fault
details_at s n e = do
  c ← numbers_at 2 n.next e
  d ← numbers_at 7 c e
  g ← text_field_at s d e
  h ← ended_at g e
  Ok (record { name = n.at; typename = d; ftype = num_at 4 s n.next; length = num_at 4 s c; next = h })

unfoldable pub base_at : List ℕ → ℕ → ℕ → Result Fields Fault
base_at s p e = do
  o ← versioned_at s p e
  n ← named_at s o.from o.close
  details_at s n o.close

-- fCountVersion, fCountName, fCountClass
unfoldable pub counter_at : List ℕ → ℕ → ℕ → Result ℕ Fault
counter_at s p e = do
  a ← numbers_at 1 p e
  b ← text_field_at s a e
  text_field_at s b e

-- the data of each kind: 1 TStreamerBase fBaseVersion; 4 TStreamerBasicPointer and 7 TStreamerLoop the counter;
-- 9 TStreamerSTL fSTLtype and fCType; the others have none
unfoldable pub own_at : List ℕ → ℕ → ℕ → ℕ → Result ℕ Fault
own_at s kind p e =
    pick (eqb kind 1) (numbers_at 1 p e)
    (pick (eqb kind 4) (counter_at s p e)
    (pick (eqb kind 7) (counter_at s p e)
    (pick (eqb kind 9) (numbers_at 2 p e) (Ok p))))

-- the fields, with the place after what follows them
abbrev pub moved_to : Fields → ℕ → Fields
moved_to m d = record { name = m.name; typename = m.typename; ftype = m.ftype; length = m.length; next = d }

-- TStreamer<XXX> after its tag: ByteCount, Version (2), TStreamerElement, the data of its kind
unfoldable pub member_at : List ℕ → ℕ → ℕ → ℕ → Result Fields Fault
member_at s kind p e = do
  o ← versioned_at s p e
  m ← base_at s o.from o.close
  c ← own_at s kind m.next o.close
  d ← ended_at c o.close
  Ok (moved_to m d)
