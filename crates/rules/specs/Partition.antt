-- Partitions of a file into pieces: document 01, "Pieces fill 100 to END exactly". Document 01 calls a partition a cut.
use Rattle.std.specs.Prelude.{ℕ, ◌+◌, ◌<◌, List, [], ◌∷◌, ◌≡◌}
use Rattle.key.specs.Piece.{piece_at, size_of}

-- the pieces from p to e, by their starts: the first at p, each next where the one before ends, the last ending at e; where e is
-- p it is the empty list
abbrev pub Partition : List ℕ → ℕ → ℕ → List ℕ → Type 0
Partition s p e [] = p ≡ e
Partition s p e (q ∷ qs) = (q ≡ p) × ((0 < size_of (piece_at s p)) × Partition s (p + size_of (piece_at s p)) e qs)
