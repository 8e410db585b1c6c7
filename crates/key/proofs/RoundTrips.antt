-- Every written header reads back.
use Prim.Native.Nat.{ℕ, suc, ◌+◌, ◌-◌, ◌≤◌, ◌<◌}
use mathlib.Core.List.{List, [], ◌∷◌, ◌++◌, append_assoc}
use mathlib.Core.Path.{◌≡◌, refl, sym, ap, ◌∙◌}
use native.Mathlib.Omega.{arith}
use borrow.Author.Tests.{lt-ltb, le-ltb}
use lib.Dec.{ltb}
use lib.IntN.{ℤ, pos, negsuc}
use lib.Signed.{mag}
use lib.ListN.{length, drop, get_or}
use lib.Seq.{drop-drop, drop_at}
use Rattle.wire.specs.Answer.{refusal}
use Rattle.wire.specs.Check.{le, All}
use Rattle.wire.specs.Layout.{offset_width, values_at, value_bytes, Fit}
use Rattle.wire.specs.Number.{num_at, signed_of, bits_of}
use Rattle.wire.specs.Patch.{patch}
use Rattle.wire.specs.Text.{text_size, text_in, text_of, content_of, text_bytes}
use Rattle.wire.specs.declared.Answer.{Answer}
use Rattle.std.specs.Prelude.{Some}
use Rattle.wire.proofs.Checks.{from_picked}
use Rattle.wire.proofs.Layouts.{width_within, length_values, read_written}
use Rattle.wire.proofs.Patches.{length_patch, drop_patch}
use Rattle.wire.proofs.Texts.{size_least, text_there}
use Rattle.key.specs.Header.{key_layout, fixed_part, most_key_len, width_at, key_from, key_at}
use Rattle.key.specs.Piece.{sized, piece_at}
use Rattle.key.specs.declared.header.Names.{Names}
use Rattle.std.specs.Prelude.{Ok}
use Rattle.key.specs.declared.piece.Piece.TheVariants.{Record}
use Rattle.key.proofs.Headers.{Strings, strings, good}
use Rattle.key.proofs.Names.{all_names}
use Rattle.key.proofs.Pieces.{size_plus, record_there_law}
use Rattle.key.specs.Writer.{name_bytes, sum_bytes, numbers_of, header_bytes, key_of, sum_fits, key_fits, write_answer, write_buffer}
use Rattle.key.specs.Writer.{ReadBack, Writes}
use Rattle.key.specs.declared.header.Fields.{Fields}
use Rattle.key.proofs.Writes.{Accepted, key_limits, inside, buffer_is}

-- the bits of a signed number of two bytes
signed_bits : (z : ℤ) → mag z < 32768 → signed_of 2 (bits_of 2 z) ≡ z
unfolding signed_of bits_of
signed_bits (pos n) h = rw (lt-ltb (n + n) 65536 (omega arith))
signed_bits (negsuc n) h =
    let e : 65536 - suc (65536 - suc n) ≡ n = omega arith in
    rw (le-ltb ((65536 - suc n) + (65536 - suc n)) 65536 (omega arith), e)

bits_fit : (z : ℤ) → mag z < 32768 → bits_of 2 z < 65536
unfolding bits_of
bits_fit (pos n) h = omega arith
bits_fit (negsuc n) h = omega arith

module _ (f : Fields) (class name title buf : List ℕ) where
  -- a refusal has a number
  accepted : (write_answer f class name title buf).number ≡ 0 → Accepted f class name title buf
  unfolding write_answer
  accepted ok =
      let n : (c : ℕ) → write_answer f class name title buf ≡ refusal (suc c) 0 → ⊥
      = λ c e. let i : 0 ≡ suc c = sym ok ∙ ap (λ (a : Answer). a.number) e in omega arith in
      let a = from_picked (sum_fits f.version class name title) _ _ refl (n 14) in
      let b = from_picked (key_fits f class name title) _ _ a.0 (n 15) in
      let c = from_picked (le (f.seekkey + f.nbytes) (length buf) ∷ []) _ _ b.0 (n 16) in
      record { sum = a.1; key = b.1; room = c.1.0 }

  -- the numbers that are written, and the place of the strings
  abbrev numbers : List ℕ
  numbers = numbers_of f (sum_bytes f.version class name title)

  abbrev w : ℕ
  w = offset_width f.version

  abbrev at : ℕ
  at = f.seekkey + fixed_part w

  module _ (h : Accepted f class name title buf) (d : f.datime < 4294967296) where
    fit : Fit (key_layout w) numbers
    fit =
        let k = h.key in
        let l = key_limits f class name title k in
        let s = h.sum in
        let c = bits_fit f.cycle k.0 in
        let w = width_within (ltb 1000 f.version) in
        omega arith

    abbrev out : List ℕ
    out = patch buf f.seekkey (header_bytes f class name title)

    out_long : length out ≡ length buf
    out_long = length_patch buf f.seekkey (header_bytes f class name title) (inside f class name title buf h)

    after : List ℕ
    after = drop (f.seekkey + length (header_bytes f class name title)) buf

    -- the numbers from SeekKey on, then the strings
    there_is : drop f.seekkey out ≡ value_bytes (key_layout w) numbers ++ (name_bytes class name title ++ after)
    unfolding header_bytes after
    there_is =
        drop_patch buf f.seekkey (header_bytes f class name title) (inside f class name title buf h)
        ∙ append_assoc (value_bytes (key_layout w) numbers) (name_bytes class name title) after

    numbers_there : values_at (key_layout w) out f.seekkey ≡ numbers
    numbers_there =
        read_written (key_layout w) numbers out f.seekkey (name_bytes class name title ++ after) fit
        (omega (arith, out_long, h.room)) there_is

    first : num_at 4 out f.seekkey ≡ f.nbytes
    first = ap (λ (ns : List ℕ). get_or ns 0 0) numbers_there

    -- the Version there has the width that was written
    width_there : width_at out f.seekkey ≡ w
    width_there = ap (λ (ns : List ℕ). offset_width (get_or ns 1 0)) numbers_there

    tail : drop at out ≡ text_bytes class ++ (text_bytes name ++ (text_bytes title ++ after))
    unfolding name_bytes
    tail =
        sym (drop-drop (fixed_part w) f.seekkey out)
        ∙ ap (drop (fixed_part w)) there_is
        ∙ drop_at (value_bytes (key_layout w) numbers) _ (fixed_part w) (length_values (key_layout w) numbers)
        ∙ simp append_assoc

    abbrev end : ℕ
    end = f.seekkey + f.nbytes

    room_there : (f.seekkey + sum_bytes f.version class name title ≤ end) × (end ≤ length out)
    room_there = omega (arith, out_long, h.room, key_limits f class name title h.key)

    -- a string of the header, where it was written; what follows it in the header takes n bytes
    string_there : (q : ℕ) (t rest : List ℕ) (n : ℕ) → text_size (length t) ≤ most_key_len
        → q + text_size (length t) + n ≡ f.seekkey + sum_bytes f.version class name title
        → drop q out ≡ text_bytes t ++ rest
        → (Some (text_of q (length t)) ≡ text_in out q end) × (content_of out (text_of q (length t)) ≡ t)
        × (drop (q + text_size (length t)) out ≡ rest)
    string_there q t rest n s l e =
        let r = room_there in
        text_there out q end t rest (omega (arith, size_least (length t), s)) (omega arith) r.1 e

    class_there : (Some (text_of at (length class)) ≡ text_in out at end) × (content_of out (text_of at (length class)) ≡ class)
        × (drop (at + text_size (length class)) out ≡ text_bytes name ++ (text_bytes title ++ after))
    class_there = string_there at class _ (text_size (length name) + text_size (length title)) (omega (arith, h.sum)) (omega arith) tail

    abbrev second : ℕ
    second = at + text_size (length class)

    name_there : (Some (text_of second (length name)) ≡ text_in out second end) × (content_of out (text_of second (length name)) ≡ name)
        × (drop (second + text_size (length name)) out ≡ text_bytes title ++ after)
    name_there = string_there second name _ (text_size (length title)) (omega (arith, h.sum)) (omega arith) class_there.2

    abbrev third : ℕ
    third = second + text_size (length name)

    title_there : (Some (text_of third (length title)) ≡ text_in out third end) × (content_of out (text_of third (length title)) ≡ title)
        × (drop (third + text_size (length title)) out ≡ after)
    title_there = string_there third title after 0 (omega (arith, h.sum)) (omega arith) name_there.2

    abbrev names : Names
    names = record { class = text_of at (length class); name = text_of second (length name); title = text_of third (length title) }

    strings_there : Strings out f.seekkey end names
    unfolding text_of
    strings_there =
        strings out f.seekkey end (ap (λ (v : ℕ). f.seekkey + fixed_part v) (sym width_there))
        (all_names out _ end class_there.0 name_there.0 title_there.0)

    -- the key of the numbers and strings that were written
    key_there : key_of f class name title ≡ key_at out f.seekkey names
    unfolding key_of key_at
    key_there =
        sym
        (ap (λ (v : ℕ). key_from (values_at (key_layout v) out f.seekkey) names) width_there
        ∙ ap (λ (ns : List ℕ). key_from ns names) numbers_there
        ∙ λ i. record {
          nbytes = f.nbytes;
          version = f.version;
          objlen = f.objlen;
          datime = f.datime;
          keylen = sum_bytes f.version class name title;
          cycle = signed_bits f.cycle h.key.0 i;
          seekkey = f.seekkey;
          seekpdir = f.seekpdir;
          class = names.class;
          name = names.name;
          title = names.title;
        })

    sized_there : All (sized out f.seekkey)
    sized_there =
        let e = first in
        let l = key_limits f class name title h.key in
        omega (arith, size_plus out f.seekkey (omega arith), out_long, h.room, l)

    read_there : piece_at out f.seekkey ≡ Ok (Record (key_of f class name title))
    unfolding key_of text_of
    read_there =
        sym (record_there_law out f.seekkey (record { is = sym first; low = omega (arith, h.key); fits = sized_there })
        (good out f.seekkey end strings_there key_there h.key.1.1.1) refl).0

  -- every written header reads back with the same fields and strings
  read_back : (write_answer f class name title buf).number ≡ 0 → f.datime < 4294967296
      → ReadBack f class name title (write_buffer f class name title buf)
  unfolding key_of
  read_back ok d =
      let h = accepted ok in
      rw (buffer_is f class name title buf h)
      (record { key = read_there h d; class_is = (class_there h d).1; name_is = (name_there h d).1; title_is = (title_there h d).1 })

  -- so what was written keeps the writer's promise
  pub keeps : {r : Answer} {w : List ℕ} → f.datime < 4294967296
      → (r ≡ write_answer f class name title buf) × (w ≡ write_buffer f class name title buf) → Writes f class name title buf w r
  keeps d h = record { answer = h.0; buffer = h.1; back = λ z. rw h.1 (read_back (sym (ap (λ (a : Answer). a.number) h.0) ∙ z) d) }
