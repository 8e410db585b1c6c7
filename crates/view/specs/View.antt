-- The viewer's list: document 02, request 13, "one lent list of records, each holding start, size, part and owner. Same pieces, same
-- order, unused records all zero; its length counts for room too".
use Rattle.std.specs.Prelude.{ℕ, zero, suc, List, [], ◌∷◌, ◌++◌, ◌≡◌, eqb, length, get_or}
use Rattle.wire.specs.Check.{pick}
use Rattle.wire.specs.Lent.{Lent, MutLent, MutLentOf, held, before, after}
use Rattle.wire.specs.declared.Answer.{Answer}
use Rattle.key.specs.Piece.{size_at, piece_at, size_of}
use Rattle.table.specs.Table.{filled_with}
use Rattle.rules.specs.Free.{compared}
use Rattle.rules.specs.Order.{Verdict, starts_of, parts_of, owners_of}
use Rattle.audit.specs.Tables.{told_within, AuditsWithin}
use Rattle.view.specs.declared.Row.{Row}

-- a record that shows no piece
abbrev pub no_row : Row
no_row = record { start = 0; size = 0; part = 0; owner = 0 }

-- "same pieces, same order": the rows of a pass, each with the size of its piece. The three lists have one length (`Rules`)
abbrev pub rows : List ℕ → List ℕ → List ℕ → List ℕ → List Row
rows s [] ps os = []
rows s (q ∷ qs) [] os = []
rows s (q ∷ qs) (p ∷ ps) [] = []
rows s (q ∷ qs) (p ∷ ps) (o ∷ os) = record { start = q; size = size_of (piece_at s q); part = p; owner = o } ∷ rows s qs ps os

abbrev pub rows_of : List ℕ → Verdict → List Row
rows_of s v = rows s (starts_of v) (parts_of v) (owners_of v)

-- the size as the four bytes at a place give it; no piece starts at 0
unfoldable pub size_in : List ℕ → ℕ → ℕ
size_in s q = pick (eqb q 0) 0 (size_at s q)

-- entry i of three tables as a record
unfoldable pub row_at : List ℕ → List ℕ → List ℕ → List ℕ → ℕ → Row
row_at s qs ps os i = record { start = get_or qs i 0; size = size_in s (get_or qs i 0); part = get_or ps i 0; owner = get_or os i 0 }

-- f 0 up to f (m - 1)
unfoldable pub up_to : (ℕ → Row) → ℕ → List Row
up_to f zero = []
up_to f (suc m) = up_to f m ++ (f m ∷ [])

-- what the view promises: all that the audit does, with the list's length for room too; the list holds the rows of the verdict, then
-- "unused records all zero" to its own end; and it shows what the tables hold
module _ (file : Lent) (start part owner : MutLent) (list : MutLentOf Row) where
  abbrev pub entries : ℕ
  entries = length (before list)

  pub record Views (r : Answer) : Type 0 where
    pub audits : AuditsWithin compared entries file start part owner r
    pub shown : after list ≡ filled_with no_row (rows_of (held file) (told_within compared entries file start part owner)) entries
    pub same : after list ≡ up_to (row_at (held file) (after start) (after part) (after owner)) entries
