-- Fields, ByteCounts and ends of objects: document 01, "StreamerInfo (002)".
use Rattle.std.specs.Prelude.{ℕ, zero, suc, ◌+◌, ◌/◌, ◌%◌, List, [], ◌∷◌, leb, eqb, Option, Some, None, Result, Ok, Err}
use Rattle.wire.specs.Check.{Check, le, eq, all, pick}
use Rattle.wire.specs.Fault.{fault}
use Rattle.wire.specs.Number.{num_at}
use Rattle.wire.specs.Text.{text_in}
use Rattle.wire.specs.declared.fault.Fault.{Fault}
use Rattle.wire.specs.declared.fault.Reason.TheVariants as reason
use Rattle.wire.specs.declared.text.Text.{Text}
use Rattle.infofield.specs.declared.field.Body.{Body}

-- "the first faulty field in byte order decides": reading goes on with what a step gave, or its fault is the answer
infixl 10 ◌>>=◌
abbrev pub ◌>>=◌ : {A B : Type 0} → Result A Fault → (A → Result B Fault) → Result B Fault
Ok a >>= f = f a
Err d >>= f = Err d

-- a field at p that is 21 there
abbrev pub bad_field : ℕ → Fault
bad_field p = fault reason.Count p

-- "a field past the innermost open end .. is 21 at that field": n bytes at p, the innermost open end e
unfoldable pub field_at : ℕ → ℕ → ℕ → Result ℕ Fault
field_at n p e = pick (leb (p + n) e) (Ok (p + n)) (Err (bad_field p))

-- k numbers of four bytes
unfoldable pub numbers_at : ℕ → ℕ → ℕ → Result ℕ Fault
numbers_at zero p e = Ok p
numbers_at (suc k) p e = do
  q ← numbers_at k p e
  field_at 4 q e

-- the end that the ByteCount at p gives its object: it counts the bytes after it
unfoldable pub end_of : List ℕ → ℕ → ℕ
end_of s p = p + 4 + num_at 4 s p % 1073741824

-- "bit 30 set, bit 31 clear"; "it is bad if its bits are wrong, or it ends past the innermost open end"
abbrev pub counts : List ℕ → ℕ → ℕ → List Check
counts s p e = eq (num_at 4 s p / 1073741824) 1 ∷ le (end_of s p) e ∷ []

-- the ByteCount at p: where the content starts, and the object's end; a bad one is 21 there
unfoldable pub count_at : List ℕ → ℕ → ℕ → Result Body Fault
count_at s p e = pick (all (counts s p e)) (Ok (record { from = p + 4; close = end_of s p })) (Err (bad_field p))

-- an object with a ByteCount at p and a Version (2): where its content goes on, and its end
unfoldable pub versioned_at : List ℕ → ℕ → ℕ → Result Body Fault
versioned_at s p e = do
  b ← count_at s p e
  q ← field_at 2 b.from b.close
  Ok (record { from = q; close = b.close })

-- "an object ending early is 21 where it stopped": the content stopped at p, the object ends at e
unfoldable pub ended_at : ℕ → ℕ → Result ℕ Fault
ended_at p e = pick (eqb p e) (Ok p) (Err (bad_field p))

-- "a string with its length byte is one field"; one that is not read whole is 21
abbrev pub placed : Option Text → ℕ → Result ℕ Fault
placed (Some t) p = Ok t.next
placed None p = Err (bad_field p)

unfoldable pub text_field_at : List ℕ → ℕ → ℕ → Result ℕ Fault
text_field_at s p e = placed (text_in s p e) p

-- "a named list or array .. is 21"
abbrev pub empty : Option Text → ℕ → Result ℕ Fault
empty (Some t) p = pick (eqb t.len 0) (Ok t.next) (Err (bad_field p))
empty None p = Err (bad_field p)

unfoldable pub unnamed_at : List ℕ → ℕ → ℕ → Result ℕ Fault
unnamed_at s p e = empty (text_in s p e) p

-- "a nonzero lower bound is 21": the number of four bytes at p is 0
unfoldable pub zero_at : List ℕ → ℕ → ℕ → Result ℕ Fault
zero_at s p e = do
  q ← field_at 4 p e
  pick (eqb (num_at 4 s p) 0) (Ok q) (Err (bad_field p))

-- "a TObject is ten bytes, fields of 2, 4 and 4; bit 4 of the last says referenced, 23"
unfoldable pub object_at : List ℕ → ℕ → ℕ → Result ℕ Fault
object_at s p e = do
  id ← field_at 2 p e
  bits ← field_at 4 id e
  q ← field_at 4 bits e
  pick (eqb (num_at 4 s bits / 16 % 2) 0) (Ok q) (Err (fault reason.Referenced bits))
