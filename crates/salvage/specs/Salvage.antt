-- Salvage: document 02, request 10. What is found wrong with the chain of a file, what is answered, and what the buffer holds afterwards: over
-- the bytes and partitions alone, with no walk.
use Rattle.std.specs.Prelude.{ℕ, ◌+◌, ◌-◌, ◌<◌, ◌≤◌, List, ◌⊎◌, ◌≡◌, Result, Ok, Err, ltb, length, replicate}
use Rattle.wire.specs.Check.{pick}
use Rattle.wire.specs.Answer.{refusal}
use Rattle.wire.specs.Fault.{fault, fault_answer}
use Rattle.wire.specs.Lent.{MutLent, before, after}
use Rattle.wire.specs.Number.{be_bytes}
use Rattle.wire.specs.Patch.{patch}
use Rattle.wire.specs.declared.Answer.{Answer}
use Rattle.wire.specs.declared.fault.Fault.{Fault as Refusal}
use Rattle.wire.specs.declared.fault.Reason.{Reason}
use Rattle.key.specs.Piece.{piece_at}
use Rattle.fileheader.specs.File.{opened_as, open_answer}
use Rattle.fileheader.specs.declared.FileHead.{FileHead}
use Rattle.rules.specs.Free.{Mode}
use Rattle.rules.specs.Order.{verdict, number_of}
use Rattle.rules.specs.Partition.{Partition}
use Rattle.salvage.specs.declared.Mend.{Mend}

-- pieces fill q to END exactly; END itself counts
abbrev pub Reaches : List ℕ → ℕ → Type 0
Reaches s q = (qs : List ℕ) × Partition s q (length s) qs

-- the header is good
abbrev pub Opens : List ℕ → Type 0
Opens s = (h : FileHead) × (opened_as s ≡ Ok h)

-- "the first fault p": pieces fill 100 to p, which lies before END, and there is no piece at p
pub record Fault (s : List ℕ) (p : ℕ) : Type 0 where
  pub pieces : List ℕ
  pub chain : Partition s 100 p pieces
  pub within : p < length s
  pub reason : Reason
  pub refused : piece_at s p ≡ Err (fault reason p)

-- "the lowest q from p + 4 up to END such that pieces fill q to END exactly"
pub record Lowest (s : List ℕ) (from q : ℕ) : Type 0 where
  pub least : from ≤ q
  pub fills : Reaches s q
  pub none : (r : ℕ) → from ≤ r → r < q → Reaches s r → ⊥

-- what is wrong with a file: its header, nothing, its last bytes from p on, or the bytes from p to q
pub data Damage : Type 0 where
  header : Refusal → Damage
  nothing : Damage
  tail : ℕ → Damage
  hole : ℕ → ℕ → Damage

-- a file has one of them; where END − p is below 4 there is no q
abbrev pub Damaged : List ℕ → Damage → Type 0
Damaged s (header f) = opened_as s ≡ Err f
Damaged s nothing = Opens s × Reaches s 100
Damaged s (tail p) = Opens s × (Fault s p × (length s < p + 4))
Damaged s (hole p q) = Opens s × (Fault s p × Lowest s (p + 4) q)

-- the greatest gap, whose size four bytes hold
abbrev pub most_gap : ℕ
most_gap = 2147483648

-- success: p as place and q as count
abbrev pub salvaged : ℕ → ℕ → Answer
salvaged p q = record { number = 0; place = p; count = q }

-- number, place and count of each case
abbrev pub mended : Result Mend Refusal → Answer
mended (Ok m) = salvaged m.from m.to
mended (Err f) = fault_answer f

-- "1 to 4 as in the audit; then 27, at p, exactly when a fault has END − p below 4, or q − p is above 2,147,483,648"; a good chain has p and q
-- both END
abbrev pub salvage_answer : List ℕ → Damage → Answer
salvage_answer s (header f) = open_answer (Err f)
salvage_answer s nothing = salvaged (length s) (length s)
salvage_answer s (tail p) = refusal 27 p
salvage_answer s (hole p q) = pick (ltb most_gap (q - p)) (refusal 27 p) (salvaged p q)

-- the four bytes of a gap of n bytes: −n
abbrev pub gap_bytes : ℕ → List ℕ
gap_bytes n = be_bytes 4 (4294967296 - n)

-- "those four bytes are the only change"
abbrev pub salvage_buffer : List ℕ → Damage → List ℕ
salvage_buffer s (header f) = s
salvage_buffer s nothing = s
salvage_buffer s (tail p) = s
salvage_buffer s (hole p q) = pick (ltb most_gap (q - p)) s (patch s p (gap_bytes (q - p)))

-- what salvage promises of the bytes s, those at the return s', and its answer
pub record Mends (s s' : List ℕ) (r : Answer) : Type 0 where
  -- what is wrong, and that it is nothing else
  pub damage : Damage
  pub is : Damaged s damage
  pub only : (d : Damage) → Damaged s d → d ≡ damage
  -- number, place and count, and the buffer
  pub answer : r ≡ salvage_answer s damage
  pub buffer : s' ≡ salvage_buffer s damage
  -- after success the header is good and pieces fill 100 to END, so that no audit gives 1 to 6
  pub opened : r.number ≡ 0 → Opens s'
  pub filled : r.number ≡ 0 → Reaches s' 100
  pub audited : r.number ≡ 0 → (mode : Mode) (room : ℕ) → (number_of (verdict mode s' room) ≡ 0) ⊎ (7 ≤ number_of (verdict mode s' room))

-- and of the lent table of marks: whatever it held and however long it is, it changes no answer, and is all zeros afterwards
pub record Salvages (buf seen : MutLent) (r : Answer) : Type 0 where
  pub mends : Mends (before buf) (after buf) r
  pub cleared : after seen ≡ replicate (length (before seen)) 0
