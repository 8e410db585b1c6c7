-- What the audit promises: document 01, "Numbers given back".
use Rattle.std.specs.Prelude.{ℕ, List, ◌≡◌, length}
use Rattle.wire.specs.declared.Answer.{Answer}
use Rattle.wire.specs.Lent.{Lent, MutLent, held, before, after}
use Rattle.wire.specs.Number.{lesser}
use Rattle.table.specs.Table.{filled}
use Rattle.rules.specs.Demand.{Demand}
use Rattle.rules.specs.Free.{Mode, compared, apart}
use Rattle.rules.specs.Order.{Verdict, verdict, number_of, place_of, count_of, starts_of, parts_of, owners_of}

-- "room is the shortest"
abbrev pub room_of : List ℕ → List ℕ → List ℕ → ℕ
room_of start part owner = lesser (length start) (lesser (length part) (length owner))

-- and no more rows than a limit
abbrev pub room_in : ℕ → List ℕ → List ℕ → List ℕ → ℕ
room_in limit start part owner = lesser limit (room_of start part owner)

-- what an audit promises with this room
module _ (mode : Mode) (room : ℕ) (file : Lent) where
  abbrev pub told_in : Verdict
  told_in = verdict mode (held file) room

  module _ (start part owner : MutLent) where
    pub record AuditsIn (r : Answer) : Type 0 where
      -- number, place and count are the verdict's
      pub number : r.number ≡ number_of told_in
      pub place : r.place ≡ place_of told_in
      pub count : r.count ≡ count_of told_in
      -- each table holds the rows, then zeros to its own end
      pub starts : after start ≡ filled (starts_of told_in) (length (before start))
      pub parts : after part ≡ filled (parts_of told_in) (length (before part))
      pub owners : after owner ≡ filled (owners_of told_in) (length (before owner))
      -- and the verdict means what the third demand says
      pub demand : Demand mode (held file) room

module _ (file : Lent) (start part owner : MutLent) where
  abbrev pub room : ℕ
  room = room_of (before start) (before part) (before owner)

  abbrev pub told : Verdict
  told = told_in compared room file

  -- either audit, with no limit but the tables
  abbrev pub AuditsFor : Mode → Answer → Type 0
  AuditsFor mode = AuditsIn mode room file start part owner

  abbrev pub Audits : Answer → Type 0
  Audits = AuditsFor compared

  -- the second audit: free segments are not compared with the gaps (document 02, request 10)
  abbrev pub AuditsSalvaged : Answer → Type 0
  AuditsSalvaged = AuditsFor apart

-- either audit with a limit beside the tables
module _ (mode : Mode) (limit : ℕ) (file : Lent) (start part owner : MutLent) where
  abbrev pub room_within : ℕ
  room_within = room_in limit (before start) (before part) (before owner)

  abbrev pub told_within : Verdict
  told_within = told_in mode room_within file

  abbrev pub AuditsWithin : Answer → Type 0
  AuditsWithin = AuditsIn mode room_within file start part owner
