-- A keys list and its copies, by their bytes: what each is to the order of refusals, over any parts and owners given so far.
use Rattle.std.specs.Prelude.{ℕ, ◌+◌, ◌<◌, ◌≤◌, List, ◌≡◌, length, Option, Some, None, Result, Ok, Err}
use Rattle.wire.specs.Answer.{done, refusal}
use Rattle.wire.specs.Check.{all, pick}
use Rattle.wire.specs.Fault.{fault_answer, needed_of}
use Rattle.wire.specs.declared.Answer.{Answer}
use Rattle.wire.specs.declared.fault.Fault.{Fault}
use Rattle.directory.specs.Dir.{no_keys}
use Rattle.directory.specs.declared.DirHead.{DirHead}
use Rattle.key.specs.declared.header.Key.{Key}
use Rattle.keylist.specs.Keys.{copy_in, list_answer, copy_answer}
use Rattle.rows.specs.Row.{Rises}
use Rattle.rules.specs.Entry.{entry_fits}
use Rattle.rules.specs.Part as part
use Rattle.rules.specs.Turn.{Turn, going, stop_at, and_then, found, give, copy_turn, data_turn, keys_in, keys_turn}
use Rattle.copies.specs.declared.Span.{Span}
use Rattle.copies.specs.declared.Claim.{Claim}
use Rattle.copies.specs.declared.KeysList.{KeysList}

-- a turn over the parts and owners given so far
abbrev pub Step : Type 0
Step = List ℕ → List ℕ → Turn

-- a claim is given
abbrev pub given : Claim → Step
given g = give g.row g.part g.dir g.next g.place

-- the copy at c, as the order has it
abbrev pub copy_step : List ℕ → List ℕ → Span → ℕ → Step
copy_step s qs l c ps os = copy_turn s qs l.dir l.seek l.end ps os c

-- number, place and count of each case, and those of the copy at c by its header: 12 at the list where it is no header, 13 at the copy
-- where it does not fit
abbrev pub entry_answer : Result Claim Fault → Answer
entry_answer (Ok g) = done 0
entry_answer (Err f) = fault_answer f

abbrev pub copy_told : List ℕ → List ℕ → Span → ℕ → Option Key → Answer
copy_told s qs l c (Some k) = pick (all (entry_fits s qs l.dir c k)) (done 0) (refusal 13 c)
copy_told s qs l c None = copy_answer l.seek None

-- a copy that was tested gives its record part and owner, or is refused
abbrev pub entry_step : Result Claim Fault → Step
entry_step (Ok g) ps os = given g ps os
entry_step (Err f) ps os = stop_at (fault_answer f)

-- what the test of the copy at c promises: for a table that rises it is what the order has there
pub record Tests (s qs : List ℕ) (l : Span) (c : ℕ) (r : Result Claim Fault) : Type 0 where
  pub row : (g : Claim) → r ≡ Ok g → g.row < length qs
  pub part : (g : Claim) → r ≡ Ok g → g.part ≤ found part.dir
  pub bare : (f : Fault) → r ≡ Err f → needed_of f.reason ≡ 0
  pub step : Rises qs → (ps os : List ℕ) → copy_step s qs l c ps os ≡ entry_step r ps os
  pub told : Rises qs → entry_answer r ≡ copy_told s qs l c (copy_in s c l.end)

-- number, place and count of each case, and those of the keys list of the directory at d: 12 at SeekKeys where its record is none
abbrev pub keys_answer : Result (Option KeysList) Fault → Answer
keys_answer (Ok l) = done 0
keys_answer (Err f) = fault_answer f

abbrev pub keys_told : List ℕ → List ℕ → ℕ → DirHead → Answer
keys_told s qs d dh = pick (all (no_keys dh)) (done 0) (list_answer dh.seekkeys (keys_in s qs d dh))

-- no list, one whose record is given part and owner before its data is read, or a refusal
abbrev pub keys_step : List ℕ → List ℕ → ℕ → ℕ → Result (Option KeysList) Fault → Step
keys_step s qs d seek (Ok None) ps os = going ps os 0
keys_step s qs d seek (Ok (Some l)) ps os = and_then (data_turn s qs d seek l.from l.end) (given l.claim ps os)
keys_step s qs d seek (Err f) ps os = stop_at (fault_answer f)

-- the record of a list: its row, its part, and its data, which lies in the file
pub record Heading (s qs : List ℕ) (l : KeysList) : Type 0 where
  pub row : l.claim.row < length qs
  pub part : l.claim.part ≡ part.keys
  pub next : l.claim.next ≡ l.from + 4
  pub begins : l.from ≤ l.end
  pub ends : l.end ≤ length s

-- what finding the list of the directory at d promises: for a table that rises it is what the order has there
pub record Finds (s qs : List ℕ) (d : ℕ) (dh : DirHead) (r : Result (Option KeysList) Fault) : Type 0 where
  pub held : (l : KeysList) → r ≡ Ok (Some l) → Heading s qs l
  pub bare : (f : Fault) → r ≡ Err f → needed_of f.reason ≡ 0
  pub step : Rises qs → (ps os : List ℕ) → keys_turn s qs d dh ps os ≡ keys_step s qs d dh.seekkeys r ps os
  pub told : Rises qs → keys_answer r ≡ keys_told s qs d dh
