-- The parts of pieces: document 01, "Numbers given back".
use Rattle.std.specs.Prelude.{ℕ}

abbrev pub gap : ℕ
gap = 0

abbrev pub head : ℕ
head = 1

abbrev pub free : ℕ
free = 2

abbrev pub info : ℕ
info = 3

abbrev pub keys : ℕ
keys = 4

-- listed, and not of class TDirectory
abbrev pub listed : ℕ
listed = 5

-- a listed directory
abbrev pub dir : ℕ
dir = 6

abbrev pub unlisted : ℕ
unlisted = 7
