-- Counted strings: document 01, "a length byte 0 to 254 and its bytes"; document 02, request 04, "a string of 255 bytes or more as the byte
-- 255, a four-byte length and the bytes".
use Rattle.std.specs.Prelude.{ℕ, ◌+◌, List, [], ◌∷◌, ◌++◌, ltb, length, take, drop}
use Rattle.wire.specs.Check.{Check, le, eq, all, pick}
use Rattle.wire.specs.Number.{num_at, be_bytes}
use Rattle.wire.specs.declared.text.Text.{Text}
use Rattle.std.specs.Prelude.{Option, Some, None}

-- the least length that takes the long form, and the byte that opens it
abbrev pub least_long : ℕ
least_long = 255

-- what stands before the bytes of a string of n bytes: its length in one byte, or in the long form that byte and its length in four
unfoldable pub prefix_bytes : ℕ → List ℕ
prefix_bytes n = pick (ltb n least_long) (be_bytes 1 n) (be_bytes 1 least_long ++ be_bytes 4 n)

-- and how many bytes these are: 1 or 5
unfoldable pub prefix_size : ℕ → ℕ
prefix_size n = length (prefix_bytes n)

-- the bytes that a string of n bytes takes
unfoldable pub text_size : ℕ → ℕ
text_size n = prefix_size n + n

-- a string of n bytes that stands from p on: the first byte of its content, its length, and the place after it
unfoldable pub text_of : ℕ → ℕ → Text
text_of p n = record { start = p + prefix_size n; len = n; next = p + text_size n }

-- the length of the string at p: the byte there, or where it is 255 the four bytes after it
unfoldable pub length_at : List ℕ → ℕ → ℕ
length_at s p = pick (ltb (num_at 1 s p) least_long) (num_at 1 s p) (num_at 4 s (p + 1))

-- "only lengths of 255 and up take the long form": the form that stands at p is that of the length
abbrev pub form_fits : List ℕ → ℕ → Check
form_fits s p = eq (prefix_size (num_at 1 s p)) (prefix_size (length_at s p))

-- the string that begins at p
unfoldable pub text_at : List ℕ → ℕ → Text
text_at s p = text_of p (length_at s p)

-- the string at p, read within the bytes before end: it has the form of its length, and it ends at or before end
abbrev pub text_checks : List ℕ → ℕ → ℕ → List Check
text_checks s p end = le end (length s) ∷ form_fits s p ∷ le (text_at s p).next end ∷ []

unfoldable pub text_in : List ℕ → ℕ → ℕ → Option Text
text_in s p end = pick (all (text_checks s p end)) (Some (text_at s p)) None

-- the content of a string
unfoldable pub content_of : List ℕ → Text → List ℕ
content_of s t = take t.len (drop t.start s)

-- a string as it is written
unfoldable pub text_bytes : List ℕ → List ℕ
text_bytes t = prefix_bytes (length t) ++ t

-- what is said of a string that is there, or bad where it is cut
unfoldable pub on_text : {A : Type 0} → A → (Text → A) → Option Text → A
on_text bad f (Some t) = f t
on_text bad f None = bad
