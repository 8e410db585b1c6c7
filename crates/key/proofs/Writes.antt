-- The key writer: its answer and its buffer, from facts.
use Prim.Native.Nat.{ℕ, ◌+◌, ◌^◌, ◌≤◌, ◌<◌}
use mathlib.Core.List.{List, [], ◌∷◌}
use mathlib.Core.Path.{◌≡◌, refl, sym, ◌∙◌}
use native.Mathlib.Omega.{arith}
use borrow.Author.Tests.{lt-ltb, ltb-true, ne_eqb}
use lib.ListN.{length, length-append}
use lib.Signed.{mag}
use lib.Dec.{ltb}
use mathlib.Core.Bool.{Bool, true, false}
use lib.IntN.{ℤ}
use Rattle.wire.specs.Answer.{done, refusal}
use Rattle.wire.specs.Check.{le, All, pick}
use Rattle.wire.specs.Layout.{offset_width, value_bytes}
use Rattle.wire.specs.Number.{bits_of, bits16}
use Rattle.wire.specs.Patch.{patch}
use Rattle.wire.specs.Text.{text_size, text_of}
use Rattle.wire.specs.declared.Answer.{Answer}
use Rattle.std.specs.Prelude.{Some, None}
use Rattle.wire.proofs.Checks.{yes_all, not_all}
use Rattle.wire.proofs.Layouts.{length_values}
use Rattle.wire.proofs.Texts.{length_text}
use Rattle.key.specs.Header.{key_layout, limits}
use Rattle.key.specs.Writer.{name_bytes, sum_bytes, numbers_of, header_bytes, key_of, sum_fits, key_fits, write_answer, write_buffer}
use Rattle.key.specs.declared.header.Fields.{Fields}

pub length_names : (a b c : List ℕ) → length (name_bytes a b c) ≡ text_size (length a) + text_size (length b) + text_size (length c)
unfolding name_bytes
length_names a b c = simp length-append (omega (arith, length_text a, length_text b, length_text c))

pub length_header : (f : Fields) (a b c : List ℕ) → length (header_bytes f a b c) ≡ sum_bytes f.version a b c
unfolding header_bytes
length_header f a b c =
    length-append (value_bytes (key_layout (offset_width f.version)) (numbers_of f (sum_bytes f.version a b c))) (name_bytes a b c)
    ∙ omega (arith, length_values (key_layout (offset_width f.version)) (numbers_of f (sum_bytes f.version a b c)), length_names a b c)

-- a signed number's bits, held or not
pub from_wide : {y z : ℤ} → y ≡ z → None ≡ bits16 y → mag z < 32768 → ⊥
unfolding bits16
from_wide {y} {z} i e h =
    let f : None ≡ bits16 z = rw (← i) e in
    let g = rw (lt-ltb (mag z) 32768 h) at f in
    let o : ◌≡◌ {A = ℕ} 0 1 = cc in
    omega arith

held_bits_law : (z : ℤ) (n : ℕ) (b : Bool) → ltb (mag z) 32768 ≡ b → Some n ≡ pick b (Some (bits_of 2 z)) None
    → (n ≡ bits_of 2 z) × (mag z < 32768)
held_bits_law z n true e h = (cc, ltb-true (mag z) 32768 e)
held_bits_law z n false e h = let y : ◌≡◌ {A = ℕ} 0 1 = cc in absurd (omega arith)

pub from_bits : {y z : ℤ} {n : ℕ} → y ≡ z → Some n ≡ bits16 y → (n ≡ bits_of 2 z) × (mag z < 32768)
unfolding bits16
from_bits {y} {z} {n} i e = held_bits_law z n _ refl (rw (← i) e)

module _ (f : Fields) (class name title : List ℕ) where
  abbrev pub Limits : Type 0
  Limits = All (limits f.nbytes f.version f.objlen (sum_bytes f.version class name title) (sum_bytes f.version class name title))

  pub key_fits_law : mag f.cycle < 32768 → f.seekkey < 256 ^ offset_width f.version → f.seekpdir < 256 ^ offset_width f.version
      → Limits → All (key_fits f class name title)
  unfolding key_of text_of
  key_fits_law m k p l = (m, (k, (p, l)))

  pub key_limits : All (key_fits f class name title) → Limits
  unfolding key_of text_of
  key_limits h = h.1.1.1

module _ (f : Fields) (class name title buf : List ℕ) where
  -- what a key that is written meets
  pub record Accepted : Type 0 where
    pub sum : All (sum_fits f.version class name title)
    pub key : All (key_fits f class name title)
    pub room : f.seekkey + f.nbytes ≤ length buf

  -- the header lies in the buffer
  pub inside : Accepted → f.seekkey + length (header_bytes f class name title) ≤ length buf
  inside h = omega (arith, length_header f class name title, key_limits f class name title h.key, h.room)

  -- the writer's answer r and its buffer w at exit: a refusal leaves it, a success patches it
  abbrev pub Wrote : Answer → List ℕ → Type 0
  Wrote r w = (r ≡ write_answer f class name title buf) × (w ≡ write_buffer f class name title buf)

  kept : {r : Answer} (c : ℕ) → 0 < c → r ≡ refusal c 0 → write_answer f class name title buf ≡ refusal c 0 → Wrote r buf
  unfolding write_buffer
  kept c l e h = (e ∙ sym h, rw (h, ne_eqb c 0 (λ z. omega arith)) refl)

  pub long_sum : {r : Answer} → (All (sum_fits f.version class name title) → ⊥) → r ≡ refusal 15 0 → Wrote r buf
  unfolding write_answer
  long_sum h e = kept 15 (omega arith) e (rw (not_all (sum_fits f.version class name title) h))

  module _ (sum : All (sum_fits f.version class name title)) where
    pub bad_field : {r : Answer} → (All (key_fits f class name title) → ⊥) → r ≡ refusal 16 0 → Wrote r buf
    unfolding write_answer
    bad_field h e =
        kept 16 (omega arith) e (rw (yes_all (sum_fits f.version class name title) sum, not_all (key_fits f class name title) h))

    pub no_room : {r : Answer} → All (key_fits f class name title) → length buf < f.seekkey + f.nbytes → r ≡ refusal 17 0 → Wrote r buf
    unfolding write_answer
    no_room h l e =
        kept 17 (omega arith) e
        (rw (
          yes_all (sum_fits f.version class name title) sum,
          yes_all (key_fits f class name title) h,
          not_all (le (f.seekkey + f.nbytes) (length buf) ∷ []) (λ i. omega (arith, i)),
        ))

  pub answer_is : Accepted → write_answer f class name title buf ≡ done (sum_bytes f.version class name title)
  unfolding write_answer
  answer_is h =
      rw (
        yes_all (sum_fits f.version class name title) h.sum,
        yes_all (key_fits f class name title) h.key,
        yes_all (le (f.seekkey + f.nbytes) (length buf) ∷ []) (h.room, tt),
      )

  pub buffer_is : Accepted → write_buffer f class name title buf ≡ patch buf f.seekkey (header_bytes f class name title)
  unfolding write_buffer
  buffer_is h = rw (answer_is h)

  pub wrote : {r : Answer} {w : List ℕ} → Accepted → r ≡ done (sum_bytes f.version class name title)
      → w ≡ patch buf f.seekkey (header_bytes f class name title) → Wrote r w
  wrote h e i = (e ∙ sym (answer_is h), i ∙ sym (buffer_is h))
