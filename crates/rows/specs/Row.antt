-- Rows of a table by their start.
use Rattle.std.specs.Prelude.{ℕ, ◌<◌, List, ◌≡◌, length, get_or, Option, Some, None}
use Rattle.table.specs.Table.{Rising}

-- the whole table rises, as the starts of a partition do
abbrev pub Rises : List ℕ → Type 0
Rises t = Rising t (length t)

-- the row with this start; or, where the table rises, that there is none
abbrev pub RowOf : List ℕ → ℕ → Option ℕ → Type 0
RowOf t p (Some i) = (i < length t) × (get_or t i 0 ≡ p)
RowOf t p None = Rises t → (i : ℕ) → i < length t → get_or t i 0 ≡ p → ⊥
