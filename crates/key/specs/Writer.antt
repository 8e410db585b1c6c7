-- Headers as they are written: document 01, "The key writer takes the fields but KeyLen ..."; document 02, request 02, for the width of
-- their offsets, and request 04 for long strings; and that reading and writing undo each other.
use Rattle.std.specs.Prelude.{ℕ, ◌+◌, ◌^◌, ◌≤◌, List, [], ◌∷◌, ◌++◌, ◌≡◌, length, take, drop, eqb}
use Rattle.std.specs.Int.Signed.{mag}
use Rattle.wire.specs.Answer.{done, refusal}
use Rattle.wire.specs.Check.{Check, le, lt, all, All, pick}
use Rattle.wire.specs.Layout.{offset_width, value_bytes}
use Rattle.wire.specs.Number.{Bytes, bits_of}
use Rattle.wire.specs.Patch.{patch}
use Rattle.wire.specs.Text.{text_size, text_of, text_bytes, content_of}
use Rattle.wire.specs.declared.Answer.{Answer}
use Rattle.key.specs.Header.{key_layout, fixed_part, sum_for, most_key_len, well_formed, plain}
use Rattle.key.specs.Piece.{piece_at, answer_of, piece_answer}
use Rattle.key.specs.declared.header.Key.{Key}
use Rattle.key.specs.declared.header.Fields.{Fields}
use Rattle.std.specs.Prelude.{Result, Ok}
use Rattle.wire.specs.declared.fault.Fault.{Fault}
use Rattle.key.specs.declared.piece.Piece.{Piece}
use Rattle.key.specs.declared.piece.Piece.TheVariants.{Record}

-- class, name and title as they are written
unfoldable pub name_bytes : List ℕ → List ℕ → List ℕ → List ℕ
name_bytes class name title = text_bytes class ++ text_bytes name ++ text_bytes title

-- the sum of a header with this Version and these strings
abbrev pub sum_bytes : ℕ → List ℕ → List ℕ → List ℕ → ℕ
sum_bytes version class name title = sum_for version (length class) (length name) (length title)

-- the numbers of a header in the order of the layout: KeyLen is given, Cycle is its two bytes
abbrev pub numbers_of : Fields → ℕ → List ℕ
numbers_of f keylen =
    f.nbytes ∷ f.version ∷ f.objlen ∷ f.datime ∷ keylen ∷ bits_of 2 f.cycle ∷ f.seekkey ∷ f.seekpdir ∷ []

-- the header's bytes
unfoldable pub header_bytes : Fields → List ℕ → List ℕ → List ℕ → List ℕ
header_bytes f class name title =
    value_bytes (key_layout (offset_width f.version)) (numbers_of f (sum_bytes f.version class name title)) ++ name_bytes class name title

-- the key that is written, at its SeekKey: KeyLen is the sum
unfoldable pub key_of : Fields → List ℕ → List ℕ → List ℕ → Key
key_of f class name title = record {
  nbytes = f.nbytes;
  version = f.version;
  objlen = f.objlen;
  datime = f.datime;
  keylen = sum_bytes f.version class name title;
  cycle = f.cycle;
  seekkey = f.seekkey;
  seekpdir = f.seekpdir;
  class = text_of (f.seekkey + fixed_part (offset_width f.version)) (length class);
  name = text_of (f.seekkey + fixed_part (offset_width f.version) + text_size (length class)) (length name);
  title = text_of (f.seekkey + fixed_part (offset_width f.version) + text_size (length class) + text_size (length name)) (length title);
}

-- the fields of a key that was read, to be written again
abbrev pub fields_of : Key → Fields
fields_of k = record {
  nbytes = k.nbytes;
  version = k.version;
  objlen = k.objlen;
  datime = k.datime;
  cycle = k.cycle;
  seekkey = k.seekkey;
  seekpdir = k.seekpdir;
}

-- 15 name: a sum above 32,767 (document 02, request 04)
abbrev pub sum_fits : ℕ → List ℕ → List ℕ → List ℕ → List Check
sum_fits version class name title = le (sum_bytes version class name title) most_key_len ∷ []

-- 16 field: header not well formed, or a value that does not fit its field, as an offset past 32 bits in a narrow key
abbrev pub key_fits : Fields → List ℕ → List ℕ → List ℕ → List Check
key_fits f class name title =
    lt (mag f.cycle) 32768 ∷ lt f.seekkey (256 ^ offset_width f.version) ∷ lt f.seekpdir (256 ^ offset_width f.version)
    ∷ well_formed (key_of f class name title)

-- number, place and count, in the order 15, 16, 17; on success the count is KeyLen
unfoldable pub write_answer : Fields → List ℕ → List ℕ → List ℕ → List ℕ → Answer
write_answer f class name title buf =
    pick (all (sum_fits f.version class name title))
    (pick (all (key_fits f class name title))
    (pick (all (le (f.seekkey + f.nbytes) (length buf) ∷ [])) (done (sum_bytes f.version class name title)) (refusal 17 0))
    (refusal 16 0))
    (refusal 15 0)

-- the buffer at exit: unchanged on refusal, else before ++ header bytes ++ after
unfoldable pub write_buffer : Fields → List ℕ → List ℕ → List ℕ → List ℕ → List ℕ
write_buffer f class name title buf =
    pick (eqb (write_answer f class name title buf).number 0) (patch buf f.seekkey (header_bytes f class name title)) buf

-- "every written header reads back with the same fields": the reader at SeekKey finds in w the record with these fields and strings
pub record ReadBack (f : Fields) (class name title w : List ℕ) : Type 0 where
  pub key : piece_at w f.seekkey ≡ Ok (Record (key_of f class name title))
  pub class_is : content_of w (key_of f class name title).class ≡ class
  pub name_is : content_of w (key_of f class name title).name ≡ name
  pub title_is : content_of w (key_of f class name title).title ≡ title

-- what the key writer promises for a buffer before and after
pub record Writes (f : Fields) (class name title buf buf' : List ℕ) (r : Answer) : Type 0 where
  pub answer : r ≡ write_answer f class name title buf
  pub buffer : buf' ≡ write_buffer f class name title buf
  pub back : r.number ≡ 0 → ReadBack f class name title buf'

-- "every plain piece read and written again gives the same KeyLen bytes": the key k at p of the bytes s, with its strings, written
-- into a buffer that holds the record
pub record WrittenAgain (s : List ℕ) (p : ℕ) (k : Key) (buf : List ℕ) : Type 0 where
  pub answer : write_answer (fields_of k) (content_of s k.class) (content_of s k.name) (content_of s k.title) buf ≡ done k.keylen
  pub buffer : write_buffer (fields_of k) (content_of s k.class) (content_of s k.name) (content_of s k.title) buf
      ≡ patch buf p (take k.keylen (drop p s))

-- what the reader at a place promises: the piece, its number, place and count, and that a plain record can be written again into
-- every buffer that holds it
pub record Reads (s : List ℕ) (p : ℕ) (r : Result Piece Fault) : Type 0 where
  pub piece : r ≡ piece_at s p
  pub answer : answer_of r ≡ piece_answer s p
  pub again : (k : Key) → r ≡ Ok (Record k) → All (plain k) → Bytes s → (buf : List ℕ) → p + k.nbytes ≤ length buf
      → WrittenAgain s p k buf
