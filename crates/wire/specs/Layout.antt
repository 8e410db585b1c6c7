-- Formats of big-endian numbers, one after the other: a layout is the list of their widths in bytes, and every place follows from
-- the widths.
use Rattle.std.specs.Prelude.{ℕ, ◌+◌, ◌^◌, ◌<◌, Bool, true, false, List, [], ◌∷◌, ◌++◌, ltb}
use Rattle.wire.specs.Check.{Check, le}
use Rattle.wire.specs.Number.{num_at, be_bytes}

-- the bytes of an offset: eight in the wide form, else four (document 02, request 02)
unfoldable pub width_of : Bool → ℕ
width_of true = 8
width_of false = 4

-- the width of the offsets of a key, a directory header or a segment, by its Version: above 1000 it has the wide form
abbrev pub offset_width : ℕ → ℕ
offset_width version = width_of (ltb 1000 version)

-- the greatest Version: of a key and of a directory header, and of a segment in a wide file
abbrev pub most_version : ℕ
most_version = 2000

abbrev pub version_fits : ℕ → Check
version_fits version = le version most_version

-- the bytes that a layout takes
abbrev pub extent : List ℕ → ℕ
extent [] = 0
extent (w ∷ ws) = w + extent ws

-- the numbers that stand from p on
abbrev pub values_at : List ℕ → List ℕ → ℕ → List ℕ
values_at [] s p = []
values_at (w ∷ ws) s p = num_at w s p ∷ values_at ws s (p + w)

-- the bytes of numbers; one that is missing is 0
abbrev pub value_bytes : List ℕ → List ℕ → List ℕ
value_bytes [] vs = []
value_bytes (w ∷ ws) [] = be_bytes w 0 ++ value_bytes ws []
value_bytes (w ∷ ws) (v ∷ vs) = be_bytes w v ++ value_bytes ws vs

-- as many numbers as widths, each within its width
abbrev pub Fit : List ℕ → List ℕ → Type 0
Fit [] [] = Unit
Fit [] (v ∷ vs) = ⊥
Fit (w ∷ ws) [] = ⊥
Fit (w ∷ ws) (v ∷ vs) = (v < 256 ^ w) × Fit ws vs
