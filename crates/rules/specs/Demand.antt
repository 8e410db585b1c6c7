-- What a verdict means: the third demand (docs/DEMANDS.md). `verdict` is the order's answer; what it is held to, `Passes` and
-- `Unfinished`, is over the header, the partition and the rules alone.
use Rattle.std.specs.Prelude.{ℕ, ◌≤◌, ◌<◌, List, ◌≡◌, length, Ok}
use Rattle.fileheader.specs.File.{opened_as}
use Rattle.fileheader.specs.declared.FileHead.{FileHead}
use Rattle.rules.specs.Free.{Mode}
use Rattle.rules.specs.Order.{passed, refused, verdict, number_of}
use Rattle.rules.specs.Partition.{Partition}
use Rattle.rules.specs.Rules.{Rules}

-- the header is good and qs is the partition (document 01: cut) from 100 to END: the lines Header and Pieces
abbrev pub Partitioned : List ℕ → FileHead → List ℕ → Type 0
Partitioned s h qs = (opened_as s ≡ Ok h) × Partition s 100 (length s) qs

-- starts, parts and owners of a pass in this room
pub record Passes (mode : Mode) (s : List ℕ) (room : ℕ) (qs ps os : List ℕ) : Type 0 where
  pub header : FileHead
  pub partition : Partitioned s header qs
  pub fits : length qs ≤ room
  pub rules : Rules s header qs ps os mode

pub record Unfinished (s : List ℕ) (room : ℕ) (n : ℕ) : Type 0 where
  pub header : FileHead
  pub starts : List ℕ
  pub partition : Partitioned s header starts
  pub count : n ≡ length starts
  pub beyond : room < n

pub record Demand (mode : Mode) (s : List ℕ) (room : ℕ) : Type 0 where
  -- a pass means that the rules hold, with these rows
  pub sound : number_of (verdict mode s room) ≡ 0
      → (qs : List ℕ) × (ps : List ℕ) × (os : List ℕ) × (verdict mode s room ≡ passed qs ps os) × Passes mode s room qs ps os
  -- and where the rules hold the file passes, with these rows
  pub complete : (qs ps os : List ℕ) → Passes mode s room qs ps os → verdict mode s room ≡ passed qs ps os
  -- unfinished is said exactly when the partition has more pieces than room; its count is that number
  pub unfinished : number_of (verdict mode s room) ≡ 7 → (n : ℕ) × (verdict mode s room ≡ refused 7 0 n) × Unfinished s room n
  pub beyond : (n : ℕ) → Unfinished s room n → verdict mode s room ≡ refused 7 0 n
  -- no second partition, and no second assignment that meets the rules
  pub one_partition : (h k : FileHead) (qs rs : List ℕ) → Partitioned s h qs → Partitioned s k rs → qs ≡ rs
  pub one_assignment : (h : FileHead) (qs ps os us vs : List ℕ) → Partitioned s h qs → Rules s h qs ps os mode → Rules s h qs us vs mode
      → (ps ≡ us) × (os ≡ vs)
  -- the room changes nothing else
  pub any_room : (other : ℕ) → (number_of (verdict mode s room) ≡ 7 → ⊥) → (number_of (verdict mode s other) ≡ 7 → ⊥)
      → verdict mode s room ≡ verdict mode s other
