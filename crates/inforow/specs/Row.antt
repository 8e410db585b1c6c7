-- The rows of the table: document 01, "Six numbers a row in one lent 32-bit table".
use Rattle.std.specs.Prelude.{ℕ, suc, ◌+◌, ◌*◌, List, [], ◌∷◌, ◌++◌, length, leb}
use Rattle.wire.specs.Check.{pick}
use Rattle.wire.specs.Patch.{patch}
use Rattle.inforow.specs.declared.Row.{Row}

-- class index, kind, offsets in the record of the first length byte of the name and of the type name, fType, fArrayLength
abbrev pub six : Row → List ℕ
six r = r.class ∷ r.kind ∷ r.name ∷ r.typename ∷ r.ftype ∷ r.length ∷ []

-- rows one after the other
unfoldable pub flat : List Row → List ℕ
flat [] = []
flat (r ∷ rs) = six r ++ flat rs

-- the table t with row n written; "only whole rows count as room"
unfoldable pub put_row : List ℕ → ℕ → Row → List ℕ
put_row t n r = pick (leb (n * 6 + 6) (length t)) (patch t (n * 6) (six r)) t

-- with rows written from row n on
unfoldable pub put_rows : List ℕ → ℕ → List Row → List ℕ
put_rows t n [] = t
put_rows t n (r ∷ rs) = put_rows (put_row t n r) (suc n) rs
