-- The info rule: what its tests answer.
use Prim.Native.Nat.{ℕ}
use mathlib.Core.List.{List}
use mathlib.Core.Path.{◌≡◌}
use Rattle.std.specs.Prelude.{Option, Some, None}
use Rattle.std.specs.Option.{is_some}
use Rattle.rules.specs.Row.{starts}
use Rattle.rules.proofs.Rows.{start_there, no_start}
use Rattle.rows.specs.Row.{Rises, RowOf}

-- where the starts rise, a row that is found tells whether a piece starts there
pub row_starts : (qs : List ℕ) (p : ℕ) (r : Option ℕ) → RowOf qs p r → Rises qs → starts qs p ≡ is_some r
row_starts qs p (Some i) h up = start_there qs p i h.0 h.1
row_starts qs p None h up = no_start qs p (h up)
