-- Slices that a function is lent, as its contract sees them: at the call and at the return.
use Rattle.std.specs.Prelude.{ℕ, List}
use Rattle.std.specs.Borrow.{Bor, MutBor}
use denote.Triple.Both.{Both}

-- lent for reading
abbrev pub LentOf : Type 0 → Type 0
LentOf A = Both (Bor (List A)) (Bor (List A))

abbrev pub Lent : Type 0
Lent = LentOf ℕ

-- lent for writing
abbrev pub MutLentOf : Type 0 → Type 0
MutLentOf A = Both (MutBor (List A)) (MutBor (List A))

abbrev pub MutLent : Type 0
MutLent = MutLentOf ℕ

module _ {A : Type 0} where
  -- what one lent for reading holds
  abbrev pub held : LentOf A → List A
  held x = x.entry.now

  -- what one lent for writing holds at the call
  abbrev pub before : MutLentOf A → List A
  before x = x.entry.now

  -- and at the return
  abbrev pub after : MutLentOf A → List A
  after x = x.exit.now
