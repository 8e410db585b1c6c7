-- Only private functions and proofs use these: places that are marked, one bit each, and what a walk over places tells.
use Rattle.std.specs.Prelude.{ℕ, ◌+◌, ◌-◌, ◌/◌, ◌%◌, ◌^◌, ◌<◌, ◌≤◌, Bool, true, false, List, ◌⊎◌, ◌≡◌, Result, Ok, Err, eqb, ltb, length, get_or}
use Rattle.wire.specs.Check.{pick}
use Rattle.wire.specs.Fault.{fault}
use Rattle.wire.specs.declared.fault.Fault.{Fault}
use Rattle.wire.specs.declared.fault.Reason.TheVariants as reason
use Rattle.salvage.specs.declared.Mend.{Mend}
use Rattle.salvage.specs.Salvage.{Reaches, Damage, header, nothing, tail, hole, Damaged, most_gap}

-- bit k of a byte
unfoldable pub bit_of : ℕ → ℕ → Bool
bit_of b k = eqb (b / 2 ^ k % 2) 1

-- bit i of a table; past its end there is none
unfoldable pub marked : List ℕ → ℕ → Bool
marked m i = bit_of (get_or m (i / 8) 0) (i % 8)

-- place i was marked, or not, and no other place is marked after it that was not before
pub record Marks (m m' : List ℕ) (i : ℕ) (r : Bool) : Type 0 where
  pub told : r ≡ marked m i
  pub new : (j : ℕ) → marked m' j ≡ true → (j ≡ i) ⊎ (marked m j ≡ true)

-- from no place that is marked do pieces fill the file to its end; bit 0 is the place base
unfoldable pub Dead : List ℕ → ℕ → List ℕ → Type 0
Dead s base m = (i : ℕ) → marked m i ≡ true → Reaches s (base + i) → ⊥

-- what a walk from a place tells
pub record Tried (s : List ℕ) (base from : ℕ) (m : List ℕ) (r : Bool) : Type 0 where
  pub fills : r ≡ true → Reaches s from
  pub none : r ≡ false → Reaches s from → ⊥
  pub dead : r ≡ false → Dead s base m

-- a place before stop; from none between it and the first do pieces fill the file to its end
pub record Passed (s : List ℕ) (from stop q : ℕ) : Type 0 where
  pub above : from ≤ q
  pub below : q < stop
  pub none : (r : ℕ) → from ≤ r → r < q → Reaches s r → ⊥

-- where the places to try for a fault at p end: at END, or where a gap at p would be too long
pub record Bounds (p end stop : ℕ) : Type 0 where
  pub first : p + 4 ≤ stop
  pub within : stop ≤ end
  pub enough : (stop ≡ end) ⊎ (most_gap < stop - p)

-- the lowest place from base on, and before stop, that reaches END; or stop, and no place before it does
pub record Sought (s : List ℕ) (base stop q : ℕ) : Type 0 where
  pub least : base ≤ q
  pub within : q ≤ stop
  pub fills : q < stop → Reaches s q
  pub none : (r : ℕ) → base ≤ r → r < q → Reaches s r → ⊥

-- no place is marked
unfoldable pub Unmarked : List ℕ → Type 0
Unmarked m = (i : ℕ) → marked m i ≡ false

-- the places of a mend
abbrev pub mend_at : ℕ → ℕ → Mend
mend_at p q = record { from = p; to = q }

-- what is found for each damage
abbrev pub found_as : List ℕ → Damage → Result Mend Fault
found_as s (header f) = Err f
found_as s nothing = Ok (mend_at (length s) (length s))
found_as s (tail p) = Err (fault reason.Salvage p)
found_as s (hole p q) = pick (ltb most_gap (q - p)) (Err (fault reason.Salvage p)) (Ok (mend_at p q))

-- what is wrong with a file, and what is found
pub record Finds (s : List ℕ) (r : Result Mend Fault) : Type 0 where
  pub damage : Damage
  pub is : Damaged s damage
  pub found : r ≡ found_as s damage
