-- Only private functions and proofs use these: what a step over the directories answers, and what the tables of parts and owners
-- hold then.
use Rattle.std.specs.Prelude.{ℕ, ◌+◌, ◌%◌, ◌<◌, ◌≤◌, Bool, true, List, map, ◌≡◌, eqb, length, get_or, set, replicate, Result, Ok, Err}
use Rattle.wire.specs.Answer.{refusal}
use Rattle.wire.specs.Fault.{fault_answer}
use Rattle.wire.specs.declared.fault.Fault.{Fault}
use Rattle.fileheader.specs.declared.FileHead.{FileHead}
use Rattle.rows.specs.Row.{Rises}
use Rattle.rules.specs.Part.{dir, unlisted}
use Rattle.rules.specs.Turn.{Turn, going, stop, mark, found, copies, data_turn, rounds, first_part}
use Rattle.waiting.specs.Waiting.{part_in, parts_in, Keeps}
use Rattle.waiting.specs.declared.Waiting.{Waiting}
use Rattle.copies.specs.Copy.{Step}
use Rattle.copies.specs.declared.Claim.{Claim}
use Rattle.copies.specs.declared.Span.{Span}
use Rattle.audit.specs.declared.keys.Listed.{Listed}

-- three tables of one length, the starts rising
pub record Sized (start part owner : List ℕ) : Type 0 where
  pub rising : Rises start
  pub parts : length part ≡ length start
  pub owners : length owner ≡ length start

-- and what is kept of the directories found and not done is right
pub record Tables (start part owner : List ℕ) (w : Waiting) : Type 0 where
  pub sized : Sized start part owner
  pub waiting : Keeps start part w

-- owners before any is given
abbrev pub zeros : ℕ → List ℕ
zeros n = replicate n 0

-- the first parts without the mark: the head is not found yet
abbrev pub rest_part : List ℕ → FileHead → ℕ → ℕ
rest_part s h q = first_part s h q % mark

abbrev pub rest_parts : List ℕ → FileHead → List ℕ → List ℕ
rest_parts s h qs = map (rest_part s h) qs

-- the turn of a step over parts and owners: the answer, and the parts and owners then, are its; a refusal leaves them free
unfoldable pub Ran : Turn → Result Listed Fault → List ℕ → List ℕ → Type 0
Ran (going ps os c) (Ok l) us vs = (l.next ≡ c) × ((us ≡ ps) × (vs ≡ os))
Ran (going ps os c) (Err f) us vs = ⊥
Ran (stop n p) (Ok l) us vs = ⊥
Ran (stop n p) (Err f) us vs = fault_answer f ≡ refusal n p

-- what is told of the directories found and not done is right for the tables then
unfoldable pub Told : List ℕ → List ℕ → Result Listed Fault → Type 0
Told qs p (Ok l) = Keeps qs p l.waiting
Told qs p (Err f) = Unit

-- a turn, with the table of parts and the owners at its end
abbrev pub Went : List ℕ → Turn → Result Listed Fault → List ℕ → List ℕ → Type 0
Went qs x r p vs = Ran x r (parts_in p) vs × Told qs p r

-- a record that is unlisted so far is given part and owner, the mark apart; and then the mark, where it is a directory
pub record Assigns (p os us vs : List ℕ) (g : Claim) (r : Bool) : Type 0 where
  pub told : r ≡ eqb (get_or (parts_in p) g.row 0) unlisted
  pub parts : r ≡ true → parts_in us ≡ set (parts_in p) g.row (g.part % mark)
  pub owners : r ≡ true → vs ≡ set os g.row g.dir
  pub kept : r ≡ true → {qs : List ℕ} {w : Waiting} → Keeps qs p w → Keeps qs us w

pub record Marks (qs p us : List ℕ) (g : Claim) (w r : Waiting) : Type 0 where
  pub rests : g.part < mark → (us ≡ p) × (r ≡ w)
  pub marked : mark ≤ g.part → parts_in us ≡ set (parts_in p) g.row (found (get_or (parts_in p) g.row 0 % mark))
  pub kept : mark ≤ g.part → Keeps qs p w → g.row < length p → part_in (get_or p g.row 0) ≤ dir → Keeps qs us r

-- some copies, and the data of a keys list
abbrev pub copies_step : List ℕ → List ℕ → Span → ℕ → ℕ → Step
copies_step s qs l n c ps os = copies s qs l.dir l.seek l.end n ps os c

abbrev pub data_step : List ℕ → List ℕ → Span → ℕ → Step
data_step s qs l a ps os = data_turn s qs l.dir l.seek a l.end ps os (a + 4)

-- all directories
abbrev pub rounds_from : List ℕ → FileHead → List ℕ → List ℕ → List ℕ → Turn
rounds_from s h qs p os = rounds s h qs (length qs) (parts_in p) os 0
