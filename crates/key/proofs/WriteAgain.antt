-- A plain piece that is read and written again gives the same KeyLen bytes.
use Prim.Native.Nat.{ℕ, ◌+◌, ◌≤◌, ◌<◌}
use mathlib.Core.List.{List, ◌++◌}
use mathlib.Core.Logic.{⊎_elim}
use mathlib.Core.Path.{◌≡◌, refl, sym, ap, ◌∙◌}
use native.Mathlib.Omega.{arith}
use borrow.Author.Tests.{lt-ltb, le-ltb}
use lib.Signed.{mag}
use lib.ListN.{length, take, drop}
use lib.Seq.{drop-drop, take-add}
use Rattle.wire.specs.Answer.{done}
use Rattle.wire.specs.Check.{All}
use Rattle.wire.specs.Layout.{offset_width, extent, values_at, value_bytes, Fit}
use Rattle.wire.specs.Number.{Bytes, signed_of, bits_of}
use Rattle.wire.specs.Text.{text_size, text_of, content_of}
use Rattle.wire.proofs.Checks.{below_or}
use Rattle.wire.proofs.Layouts.{write_read, values_fit}
use Rattle.wire.proofs.Texts.{read_length, read_again}
use Rattle.key.specs.Header.{key_layout, fixed_part, width_at, key_at, sum_of}
use Rattle.key.specs.Piece.{size_at, piece_at, answer_of, piece_answer}
use Rattle.key.specs.declared.header.Key.{Key}
use Rattle.key.specs.declared.header.Names.{Names}
use Rattle.std.specs.Prelude.{Result, Ok}
use Rattle.wire.specs.declared.fault.Fault.{Fault}
use Rattle.key.specs.declared.piece.Piece.{Piece}
use Rattle.key.specs.declared.piece.Piece.TheVariants.{Record}
use Rattle.key.proofs.Headers.{Strings, names_of}
use Rattle.key.proofs.Pieces.{Recorded, from_record}
use Rattle.key.specs.Writer.{name_bytes, sum_bytes, numbers_of, header_bytes, key_of, fields_of, key_fits, WrittenAgain, Reads}
use Rattle.key.proofs.Writes.{Accepted, answer_is, buffer_is}

-- two stretches of a file, one after the other
join : (s : List ℕ) (p q a b : ℕ) → q ≡ p + a → take a (drop p s) ++ take b (drop q s) ≡ take (a + b) (drop p s)
join s p q a b e = rw (e, ← (drop-drop a p s)) (sym (take-add a b (drop p s)))

-- two bytes, read as signed and stored again
bits_signed : (v : ℕ) → v < 65536 → (bits_of 2 (signed_of 2 v) ≡ v) × (mag (signed_of 2 v) < 32768)
unfolding bits_of signed_of
bits_signed v h =
    ⊎_elim (λ (l : v + v < 65536). rw (lt-ltb (v + v) 65536 l) (refl, omega arith))
    (λ (l : 65536 ≤ v + v). rw (le-ltb (v + v) 65536 l) (omega arith, omega arith))
    (below_or (v + v) 65536)

module _ (s : List ℕ) (p : ℕ) (b : Bytes s) (n : Names) (h : Recorded s p (key_at s p n)) (plain : (key_at s p n).keylen ≡ sum_of (key_at s p n)) where
  abbrev k : Key
  k = key_at s p n

  abbrev class : List ℕ
  class = content_of s k.class

  abbrev name : List ℕ
  name = content_of s k.name

  abbrev title : List ℕ
  title = content_of s k.title

  -- the place of the strings, and they as they were read
  abbrev q : ℕ
  q = p + fixed_part (width_at s p)

  there : Strings s p (p + size_at s p) (names_of k)
  there = h.header.strings

  lengths : (length class ≡ k.class.len) × (length name ≡ k.name.len) × (length title ≡ k.title.len)
  lengths = (read_length there.class, read_length there.name, read_length there.title)

  sum_is : sum_bytes k.version class name title ≡ k.keylen
  sum_is = rw (lengths.0, lengths.1, lengths.2) (sym plain)

  numbers_room : p + extent (key_layout (width_at s p)) ≤ length s
  numbers_room = let t = there.title in let m = there.name.next in let l = there.class.next in omega (arith, t.next, t.fits, t.room)

  fit : Fit (key_layout (width_at s p)) (values_at (key_layout (width_at s p)) s p)
  fit = values_fit (key_layout (width_at s p)) s p b numbers_room

  numbers : value_bytes (key_layout (offset_width k.version)) (numbers_of (fields_of k) k.keylen) ≡ take (fixed_part (width_at s p)) (drop p s)
  unfolding key_at
  numbers = rw (bits_signed _ fit.1.1.1.1.1.0).0 (write_read (key_layout (width_at s p)) s p b numbers_room)

  names : name_bytes class name title
      ≡ take (text_size k.class.len + text_size k.name.len + text_size k.title.len) (drop q s)
  unfolding name_bytes
  names =
      rw (
        read_again there.class b,
        read_again there.name b,
        read_again there.title b,
        join s q k.class.next (text_size k.class.len) (text_size k.name.len) there.class.next,
        join s q k.name.next (text_size k.class.len + text_size k.name.len) (text_size k.title.len)
            (omega (arith, there.class.next, there.name.next)),
      )

  header_again : header_bytes (fields_of k) class name title ≡ take k.keylen (drop p s)
  unfolding header_bytes
  header_again =
      let m : fixed_part (width_at s p) + (text_size k.class.len + text_size k.name.len + text_size k.title.len) ≡ k.keylen
      = omega (arith, plain) in
      rw (sum_is, numbers, names, join s p q (fixed_part (width_at s p)) _ refl, m)

  -- the key passes the writer's tests
  fields : All (key_fits (fields_of k) class name title)
  unfolding key_of text_of key_at
  fields = (
    (bits_signed _ fit.1.1.1.1.1.0).1,
    (fit.1.1.1.1.1.1.0, (fit.1.1.1.1.1.1.1.0, omega (arith, h.header.fits, sum_is, plain))),
  )

  accepted : (buf : List ℕ) → k.seekkey + k.nbytes ≤ length buf → Accepted (fields_of k) class name title buf
  accepted buf l = record {
    sum = omega (arith, sum_is, h.header.fits);
    key = fields;
    room = l;
  }

  again : (buf : List ℕ) → p + k.nbytes ≤ length buf → WrittenAgain s p k buf
  again buf l =
      let a = accepted buf (omega (arith, l, h.place)) in record {
        answer = answer_is (fields_of k) class name title buf a ∙ ap done sum_is;
        buffer = buffer_is (fields_of k) class name title buf a ∙ rw (header_again, h.place);
      }

-- every plain piece that is read and written again gives the same KeyLen bytes: in any buffer that holds the record, the writer
-- succeeds, and puts there the KeyLen bytes that stand at p in the file
write_again : (s : List ℕ) (p : ℕ) (k : Key) (buf : List ℕ) → Bytes s → piece_at s p ≡ Ok (Record k) → k.keylen ≡ sum_of k
    → p + k.nbytes ≤ length buf → WrittenAgain s p k buf
write_again s p k buf b e plain l =
    let r = from_record s p e in
    let i = r.header.is in
    rw i (again s p b (names_of k) (rw i at r) (rw i at plain) buf (rw i at l))

-- so a piece that was read keeps the reader's promise
pub reads : {s : List ℕ} {p : ℕ} {r : (Result Piece Fault)} → (r ≡ piece_at s p) × (answer_of r ≡ piece_answer s p) → Reads s p r
reads {s} {p} h = record {
  piece = h.0;
  answer = h.1;
  again = λ k e plain b buf l. write_again s p k buf b (sym h.0 ∙ e) plain.0 l;
}
