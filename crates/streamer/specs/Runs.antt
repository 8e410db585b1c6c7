-- Runs as private functions promise them: only they and proofs use what stands here.
use Rattle.std.specs.Prelude.{ℕ, ◌+◌, ◌<◌, ◌≤◌, List, ◌≡◌, length, Result, Ok, IfOk}
use Rattle.wire.specs.declared.fault.Fault.{Fault}
use Rattle.infofield.specs.Field.{◌>>=◌}
use Rattle.inforow.specs.Row.{put_rows}
use Rattle.streamer.specs.Row.{Run}
use Rattle.streamer.specs.declared.row.Rows.{Rows}

-- the end of an object is near the record's start, and n rows can grow by k
abbrev pub Within : ℕ → ℕ → ℕ → ℕ → Type 0
Within rec e n k = (e ≤ rec + 2147483647) × (n + k < 18446744073709551616)

-- the place after a run that had n rows, and the rows it has now
abbrev pub counted : Run → ℕ → Result Rows Fault
counted run n = do
  x ← run
  Ok (record { next = x.next; count = n + length x.rows })

-- an answer, the tags and the table at exit are those of a run that had n rows in the table t; a fault leaves both free
unfoldable pub Ran : Run → List ℕ → ℕ → Result Rows Fault → List ℕ → List ℕ → Type 0
Ran run t n r us u = (r ≡ counted run n) × IfOk run (λ x. (us ≡ x.tags) × (u ≡ put_rows t n x.rows))

-- a run where the tags are not asked for and the table had no rows yet
unfoldable pub Ended : Run → List ℕ → Result Rows Fault → List ℕ → Type 0
Ended run t r u = (us : List ℕ) × Ran run t 0 r us u

-- an answer, and a step f from its place
abbrev pub stepped : Result Rows Fault → (ℕ → Result ℕ Fault) → Result Rows Fault
stepped r f = do
  x ← r
  q ← f x.next
  Ok (record { next = q; count = x.count })
