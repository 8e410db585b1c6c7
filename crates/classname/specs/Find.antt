-- The first place of a list that holds a value.
use Rattle.std.specs.Prelude.{ℕ, List, Option, position, eqb}

unfoldable pub first_in : List ℕ → ℕ → Option ℕ
first_in l v = position (λ x. eqb x v) l
