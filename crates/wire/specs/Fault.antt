-- Refusals: document 01, "Numbers given back", and document 02 for 27 to 31.
use Rattle.std.specs.Prelude.{ℕ, Result, Ok, Err}
use Rattle.wire.specs.Answer.{done}
use Rattle.wire.specs.declared.Answer.{Answer}
use Rattle.wire.specs.declared.fault.Fault.{Fault}
use Rattle.wire.specs.declared.fault.Reason.{Reason}
use Rattle.wire.specs.declared.fault.Reason.TheVariants as reason

-- the number of each
abbrev pub number_of : Reason → ℕ
number_of reason.Short = 1
number_of reason.Magic = 2
number_of reason.Wide = 3
number_of reason.Bounds = 4
number_of reason.Chain = 5
number_of reason.Key = 6
number_of (reason.Unfinished n) = 7
number_of reason.Head = 8
number_of reason.Free = 9
number_of reason.Info = 10
number_of reason.Directory = 11
number_of reason.Keys = 12
number_of reason.Entry = 13
number_of reason.Twice = 14
number_of reason.Name = 15
number_of reason.Field = 16
number_of reason.Room = 17
number_of reason.Date = 18
number_of reason.Packed = 19
number_of reason.NotInfo = 20
number_of reason.Count = 21
number_of reason.Tag = 22
number_of reason.Referenced = 23
number_of (reason.Rows n) = 24
number_of reason.Salvage = 27
number_of reason.Block = 28
number_of reason.BlockNumber = 29
number_of reason.BlockCheck = 30
number_of reason.Padding = 31

-- 7 and 24 count what there is, every other refusal 0
abbrev pub needed_of : Reason → ℕ
needed_of (reason.Unfinished n) = n
needed_of (reason.Rows n) = n
needed_of r = 0

-- a refusal at a place
abbrev pub fault : Reason → ℕ → Fault
fault r p = record { reason = r; place = p }

-- the answer of a refusal: its number and place, and what it counts
abbrev pub fault_answer : Fault → Answer
fault_answer f = record { number = number_of f.reason; place = f.place; count = needed_of f.reason }

-- the answer of what counts when it succeeds
abbrev pub answer_of : Result ℕ Fault → Answer
answer_of (Ok n) = done n
answer_of (Err f) = fault_answer f
