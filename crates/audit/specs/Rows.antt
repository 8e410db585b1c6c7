-- Only private functions and proofs use these: the rows that are audited, before and after a step.
use Rattle.std.specs.Prelude.{◌≡◌, length, Result}
use Rattle.wire.specs.declared.fault.Fault.{Fault}
use Rattle.waiting.specs.Waiting.{parts_in}
use Rattle.waiting.specs.declared.Waiting.{Waiting}
use Rattle.copies.specs.Copy.{Step}
use Rattle.audit.specs.Listing.{Tables, Went}
use Rattle.audit.specs.declared.keys.Listed.{Listed}
use Rattle.audit.specs.declared.keys.Rows.{Rows}

-- the same file and tables, of the same lengths
pub record Same (a b : Rows) : Type 0 where
  pub file : b.file.now ≡ a.file.now
  pub head : b.head ≡ a.head
  pub start : b.start.now ≡ a.start.now
  pub part : b.part.ghost_name ≡ a.part.ghost_name
  pub owner : b.owner.ghost_name ≡ a.owner.ghost_name
  pub parts : length b.part.now ≡ length a.part.now
  pub owners : length b.owner.now ≡ length a.owner.now

-- the tables, and what is kept of the directories found and not done
abbrev pub Ready : Rows → Waiting → Type 0
Ready a w = Tables a.start.now a.part.now a.owner.now w

-- a step over parts and owners
abbrev pub Runs : Step → Rows → Rows → Result Listed Fault → Type 0
Runs step a b r = Went a.start.now (step (parts_in a.part.now) a.owner.now) r b.part.now b.owner.now
