-- Directories found and not done: document 02, request 09, "the lowest place among directories found and not done (0 when there is none) and
-- their number". They wait in the part table itself: an entry there is the part of its row and, in the bits above, a node of a tree over all rows.
use Rattle.std.specs.Prelude.{ℕ, ◌+◌, ◌-◌, ◌*◌, ◌/◌, ◌%◌, ◌<◌, ◌≤◌, List, [], ◌∷◌, map, ◌≡◌, leb, ltb, length, get_or, set, max}
use Rattle.wire.specs.Check.{pick}
use Rattle.wire.specs.Lent.{Lent, MutLent, held, before, after}
use Rattle.rules.specs.Part.{dir}
use Rattle.rules.specs.Turn.{mark, found, next_row}
use Rattle.waiting.specs.declared.Waiting.{Waiting}

-- the part in an entry, and those in a table
abbrev pub part_in : ℕ → ℕ
part_in a = a % 16

abbrev pub parts_in : List ℕ → List ℕ
parts_in p = map part_in p

-- how many of these parts are of a directory found and not done
unfoldable pub waits : ℕ → ℕ
waits k = pick (leb mark k) 1 0

unfoldable pub waiting_number : List ℕ → ℕ
waiting_number [] = 0
waiting_number (k ∷ ps) = waits k + waiting_number ps

-- the node of row r, where a directory waits the number of rows from it on: of two nodes the greater is that of the lower row, and 0 is none
unfoldable pub leaf : List ℕ → ℕ → ℕ
leaf p r = pick (leb mark (part_in (get_or p r 0))) (length p - r) 0

-- node i of a table of n entries: below n it stands in entry i, from n on it is a row's
unfoldable pub node : List ℕ → ℕ → ℕ
node p i = pick (ltb i (length p)) (get_or p i 0 / 16) (leaf p (i - length p))

-- a node's value, which has 60 bits beside the four of a part
abbrev pub NodeAt : List ℕ → ℕ → ℕ → Type 0
NodeAt p i v = (v ≡ node p i) × (v < 1152921504606846976)

-- each node but h is the greater of the two below it; entry 0 has none
pub record Tree (p : List ℕ) (h : ℕ) : Type 0 where
  pub bare : get_or p 0 0 < 16
  pub nodes : (i : ℕ) → 0 < i → i < length p → (i ≡ h → ⊥) → get_or p i 0 / 16 ≡ max (node p (2 * i)) (node p (2 * i + 1))

-- what is kept beside the tables of starts and parts is right: the row of the lowest directory that waits (the number of rows when there is
-- none), its place, and how many there are
pub record Keeps (qs p : List ℕ) (w : Waiting) : Type 0 where
  pub tree : Tree p 0
  pub parts : (i : ℕ) → part_in (get_or p i 0) ≤ found dir
  pub row : w.row ≡ next_row (parts_in p)
  pub place : w.place ≡ get_or qs (next_row (parts_in p)) 0
  pub number : w.number ≡ waiting_number (parts_in p)

-- a row is given a part without the mark, and its node stays; what was kept for a row that did not wait is kept
pub record Gives (part : MutLent) (row new : ℕ) : Type 0 where
  pub entry : after part ≡ set (before part) row (get_or (before part) row 0 / 16 * 16 + new % mark)
  pub given : parts_in (after part) ≡ set (parts_in (before part)) row (new % mark)
  pub kept : {qs : List ℕ} {w : Waiting} → Keeps qs (before part) w → row < length (before part) → part_in (get_or (before part) row 0) < mark
      → Keeps qs (after part) w

-- a directory is found in a row, or is done there: its part gets the mark, or loses it; what was kept is kept, where it did not wait and
-- where it did. Else the nodes at exit and what is told are free
pub record Finds (start : Lent) (part : MutLent) (row : ℕ) (w r : Waiting) : Type 0 where
  pub marked : parts_in (after part) ≡ set (parts_in (before part)) row (found (get_or (parts_in (before part)) row 0 % mark))
  pub kept : Keeps (held start) (before part) w → row < length (before part) → part_in (get_or (before part) row 0) ≤ dir
      → Keeps (held start) (after part) r

pub record Settles (start : Lent) (part : MutLent) (row : ℕ) (w r : Waiting) : Type 0 where
  pub settled : parts_in (after part) ≡ set (parts_in (before part)) row (get_or (parts_in (before part)) row 0 % mark)
  pub kept : Keeps (held start) (before part) w → row < length (before part) → mark ≤ part_in (get_or (before part) row 0)
      → Keeps (held start) (after part) r
