-- Bytes written over a part of a buffer.
use Rattle.std.specs.Prelude.{ℕ, ◌+◌, List, ◌++◌, length, take, drop}

-- the buffer b with x in the place of as many bytes from at on: before ++ x ++ after
unfoldable pub patch : List ℕ → ℕ → List ℕ → List ℕ
patch b at x = take at b ++ (x ++ drop (at + length x) b)
