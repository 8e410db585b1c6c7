-- Numbers as they are written, each with its width in bytes.
use Rattle.std.specs.Prelude.{ℕ, ◌+◌, List, [], ◌∷◌, ◌++◌}
use Rattle.wire.specs.Number.{be_bytes}

-- the bytes that they take
abbrev pub sized_extent : List (ℕ × ℕ) → ℕ
sized_extent [] = 0
sized_extent (n ∷ ns) = n.0 + sized_extent ns

-- and these bytes, one number after the other
abbrev pub sized_bytes : List (ℕ × ℕ) → List ℕ
sized_bytes [] = []
sized_bytes (n ∷ ns) = be_bytes n.0 n.1 ++ sized_bytes ns
