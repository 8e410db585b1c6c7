-- Rows: the pieces of a partition, numbered from 0 in file order.
use Rattle.std.specs.Prelude.{ℕ, Bool, false, ◌||◌, List, [], ◌∷◌, eqb}

-- a piece of the partition starts at p (document 01: "a record or a gap is a piece of the cut")
unfoldable pub starts : List ℕ → ℕ → Bool
starts [] p = false
starts (q ∷ qs) p = eqb q p || starts qs p
