-- The list and the arrays of a StreamerInfo record round their objects: document 01, "StreamerInfo (002)"; document 02, request 05.
use Rattle.std.specs.Prelude.{ℕ, ◌+◌, List, eqb, ltb, Result, Ok, Err}
use Rattle.wire.specs.Check.{all, pick}
use Rattle.wire.specs.Fault.{fault}
use Rattle.wire.specs.Number.{num_at}
use Rattle.wire.specs.declared.fault.Fault.{Fault}
use Rattle.wire.specs.declared.fault.Reason.TheVariants as reason
use Rattle.record.specs.Name.{is_info}
use Rattle.key.specs.Header.{unpacked_data}
use Rattle.key.specs.Piece.{piece_at}
use Rattle.key.specs.declared.header.Key.{Key}
use Rattle.key.specs.declared.piece.Piece.{Piece}
use Rattle.key.specs.declared.piece.Piece.TheVariants.{Record, Gap}
use Rattle.infofield.specs.Field.{◌>>=◌, bad_field, field_at, count_at, unnamed_at, zero_at, text_field_at, object_at}
use Rattle.infolist.specs.declared.list.Objects.{Objects}

-- TList and TObjArray: Version (2), TObject, fName (none), nObjects; the place after it, and the end e that the objects stand within
unfoldable pub collection_at : List ℕ → ℕ → ℕ → Result Objects Fault
collection_at s p e = do
  a ← field_at 2 p e
  b ← object_at s a e
  c ← unnamed_at s b e
  d ← field_at 4 c e
  Ok (record { version = num_at 2 s p; count = num_at 4 s c; from = d; end = e })

-- TObjArray after its tag: ByteCount, what every collection starts with, fLowerBound (0)
unfoldable pub array_body_at : List ℕ → ℕ → ℕ → Result Objects Fault
array_body_at s p e = do
  b ← count_at s p e
  n ← collection_at s b.from b.close
  a ← zero_at s n.from b.close
  Ok (record { version = n.version; count = n.count; from = a; end = b.close })

-- TList, the data of a record from p to e: ByteCount, what every collection starts with. "The list fills the data": a ByteCount that ends
-- before the data does is 21 too
unfoldable pub whole_list_at : List ℕ → ℕ → ℕ → Result Objects Fault
whole_list_at s p e = do
  b ← count_at s p e
  pick (eqb b.close e) (collection_at s b.from b.close) (Err (bad_field p))

-- "5 or 6 as for a piece, a gap gives 20; then 20 unless plain, TList, StreamerInfo; then 19"
unfoldable pub list_of : List ℕ → ℕ → Key → Result Objects Fault
list_of s p k =
    pick (all (is_info s k))
    (pick (all (unpacked_data k)) (whole_list_at s (p + k.keylen) (p + k.nbytes)) (Err (fault reason.Packed p)))
    (Err (fault reason.NotInfo p))

abbrev pub on_piece : List ℕ → ℕ → Piece → Result Objects Fault
on_piece s p (Record k) = list_of s p k
on_piece s p (Gap n) = Err (fault reason.NotInfo p)

-- the list of the record at p
unfoldable pub info_list_at : List ℕ → ℕ → Result Objects Fault
info_list_at s p = do
  x ← piece_at s p
  on_piece s p x

-- "a counted string, the list's option, after each object of a StreamerInfo list of Version 4 and up": v is the list's Version, p the place
-- after the object, e the list's end. "From Version 5 the byte 255 opens the long form .. in Version 4 it is a plain length"; "a string past
-- the list's end is 21 at its length byte"
unfoldable pub option_at : ℕ → List ℕ → ℕ → ℕ → Result ℕ Fault
option_at v s p e = pick (ltb v 4) (Ok p) (pick (ltb v 5) (field_at (1 + num_at 1 s p) p e) (text_field_at s p e))
