-- Only private functions and proofs use these: text that is written into a buffer at a place.
use Rattle.std.specs.Prelude.{ℕ, ◌+◌, ◌≤◌, List, ◌≡◌, length}
use Rattle.wire.specs.Patch.{patch}
use Rattle.report.specs.Report.{next_place, row, lines}
use Rattle.report.specs.declared.rows.Rows.{Rows}

-- the buffer b has room for the text x from at on
pub record Room (b : List ℕ) (at : ℕ) (x : List ℕ) : Type 0 where
  pub fits : at + length x ≤ length b

-- w is the buffer b with the text x from at on, as long as before, and r is the place after the text
pub record Put (b : List ℕ) (at : ℕ) (x w : List ℕ) (r : ℕ) : Type 0 where
  pub text : w ≡ patch b at x
  pub next : r ≡ at + length x
  pub room : r ≤ length b
  pub same : length w ≡ length b

-- of the rows that are listed: where the piece of row i ends, its line, and the lines of the first k
abbrev pub end_of : Rows → ℕ → ℕ
end_of r i = next_place r.start.now (length r.start.now) r.end i

abbrev pub row_of : Rows → ℕ → List ℕ
row_of r i = row r.start.now r.part.now r.owner.now (length r.start.now) r.end i

abbrev pub lines_of : Rows → ℕ → List ℕ
lines_of r k = lines r.start.now r.part.now r.owner.now (length r.start.now) r.end k
