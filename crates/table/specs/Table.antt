-- Lent tables: document 01, "row i describes piece i in file order and later entries are 0".
use Rattle.std.specs.Prelude.{ℕ, ◌-◌, ◌<◌, List, ◌++◌, length, get_or, take, replicate}

-- a list of n entries: some, then one thing to its end
abbrev pub filled_with : {A : Type 0} → A → List A → ℕ → List A
filled_with d xs n = xs ++ replicate (n - length xs) d

-- a table of n entries: the rows, then zeros to its end
abbrev pub filled : List ℕ → ℕ → List ℕ
filled xs n = filled_with 0 xs n

-- the table t with one thing from an entry on
abbrev pub cleared_with : {A : Type 0} → A → List A → ℕ → List A
cleared_with d t from = filled_with d (take from t) (length t)

-- the table t with zeros from an entry on
abbrev pub cleared : List ℕ → ℕ → List ℕ
cleared t from = cleared_with 0 t from

-- the first n entries are strictly increasing
abbrev pub Rising : List ℕ → ℕ → Type 0
Rising t n = (i j : ℕ) → i < j → j < n → get_or t i 0 < get_or t j 0
