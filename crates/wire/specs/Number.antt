-- Big-endian numbers, over their width in bytes.
use Rattle.std.specs.Prelude.{ℕ, zero, suc, ◌+◌, ◌-◌, ◌*◌, ◌/◌, ◌%◌, ◌^◌, ◌<◌, List, [], ◌∷◌, ◌++◌, length, get_or, ℤ, pos, negsuc, leb, ltb, Option, Some, None}
use Rattle.std.specs.Int.Signed.{mag}
use Rattle.wire.specs.Check.{pick}

-- the value of w bytes from p on
unfoldable pub be_value : ℕ → List ℕ → ℕ → ℕ
be_value zero s p = 0
be_value (suc w) s p = be_value w s p * 256 + get_or s (p + w) 0

-- every element is a byte, as in every lent slice of bytes
unfoldable pub Bytes : List ℕ → Type 0
Bytes s = (i : ℕ) → get_or s i 0 < 256

-- the number of w bytes at p; 0 unless all of them are there
unfoldable pub num_at : ℕ → List ℕ → ℕ → ℕ
num_at w s p = pick (leb (p + w) (length s)) (be_value w s p) 0

-- the lesser of two numbers
abbrev pub lesser : ℕ → ℕ → ℕ
lesser a b = pick (leb a b) a b

-- the w bytes of a number
unfoldable pub be_bytes : ℕ → ℕ → List ℕ
be_bytes zero v = []
be_bytes (suc w) v = be_bytes w (v / 256) ++ (v % 256 ∷ [])

-- the signed value of the w bytes whose unsigned value is v: two's complement
unfoldable pub signed_of : ℕ → ℕ → ℤ
signed_of w v = pick (ltb (v + v) (256 ^ w)) (pos v) (negsuc (256 ^ w - suc v))

-- the unsigned value of a signed number's w bytes
unfoldable pub bits_of : ℕ → ℤ → ℕ
bits_of w (pos n) = n
bits_of w (negsuc n) = 256 ^ w - suc n

-- the 16 bits of a signed number, where they hold it: -32768 to 32767
unfoldable pub bits16 : ℤ → Option ℕ
bits16 z = pick (ltb (mag z) 32768) (Some (bits_of 2 z)) None
