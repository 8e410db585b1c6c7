-- Headers whose strings are short, as the code tests them: by numbers at their places alone.
use Rattle.std.specs.Prelude.{ℕ, ◌+◌, ◌<◌, ◌≤◌, Bool, true, List, ◌≡◌}
use Rattle.wire.specs.Check.{All}
use Rattle.wire.specs.Number.{num_at}
use Rattle.key.specs.Header.{fixed_part, width_at, limits}
use Rattle.key.specs.Piece.{piece_at}
use Rattle.key.specs.declared.header.Key.{Key}
use Rattle.std.specs.Prelude.{Ok}
use Rattle.key.specs.declared.piece.Piece.TheVariants.{Record}

-- the place after the string at p + k, counted from p, were its length one byte
abbrev pub after_short : List ℕ → ℕ → ℕ → ℕ
after_short s p k = k + (1 + num_at 1 s (p + k))

-- the sum of the header at p, were the length of each string one byte
unfoldable pub short_sum : List ℕ → ℕ → ℕ
short_sum s p = after_short s p (after_short s p (after_short s p (fixed_part (width_at s p))))

abbrev pub SumsTo : List ℕ → ℕ → ℕ → Type 0
SumsTo s p r = 0 < r → r ≡ short_sum s p

-- a header with a KeyLen of at most 280 that is well formed, by that sum
pub record Short (s : List ℕ) (p : ℕ) : Type 0 where
  pub few : num_at 2 s (p + 14) ≤ 280
  pub fits : All (limits (num_at 4 s p) (num_at 2 s (p + 4)) (num_at 4 s (p + 6)) (num_at 2 s (p + 14)) (short_sum s p))

-- a yes is certain: a record of the size that stands there
abbrev pub Certain : List ℕ → ℕ → Bool → Type 0
Certain s p r = r ≡ true → (k : Key) × (piece_at s p ≡ Ok (Record k)) × (k.nbytes ≡ num_at 4 s p)
