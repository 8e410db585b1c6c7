-- Rows by their start, the next directory's row, and turns one after the other.
use Prim.Native.Nat.{ℕ, zero, suc, ◌<◌, ◌≤◌}
use mathlib.Core.Bool.{Bool, true, false, ◌||◌}
use mathlib.Core.List.{List, [], ◌∷◌}
use mathlib.Core.Path.{◌≡◌, refl}
use native.Mathlib.Omega.{arith}
use borrow.Author.Tests.{eq-eqb, ne_eqb, le-leb, lt-leb, leb-true, leb-false, lt-ltb, le-ltb}
use lib.Dec.{eqb, leb}
use lib.ListN.{length, get_or}
use Rattle.wire.specs.Check.{pick}
use Rattle.fileheader.specs.declared.FileHead.{FileHead}
use Rattle.table.specs.Table.{Rising}
use Rattle.rules.specs.Row.{starts}
use Rattle.rules.specs.Turn.{row_of, going, and_then, next_row, round_turn, rounds}

or_true : (b : Bool) → (b || true) ≡ true
or_true true = refl
or_true false = refl

-- a row that was found, or not, says whether a piece starts there
pub start_there : (qs : List ℕ) (p i : ℕ) → i < length qs → get_or qs i 0 ≡ p → starts qs p ≡ true
unfolding starts
start_there [] p i l e = absurd (omega arith)
start_there (q ∷ qs) p zero l e = rw (eq-eqb q p e)
start_there (q ∷ qs) p (suc i) l e = rw (start_there qs p i (omega arith) e) (or_true (eqb q p))

pub no_start : (qs : List ℕ) (p : ℕ) → ((i : ℕ) → i < length qs → get_or qs i 0 ≡ p → ⊥) → starts qs p ≡ false
unfolding starts
no_start [] p h = refl
no_start (q ∷ qs) p h =
    rw (ne_eqb q p (λ e. h zero (omega arith) e)) (no_start qs p (λ i l e. h (suc i) (omega arith) e))

-- and which row it is: where starts rise, no earlier one has this start
first_row : (qs : List ℕ) (p i : ℕ) → i < length qs → get_or qs i 0 ≡ p → ((j : ℕ) → j < i → get_or qs j 0 ≡ p → ⊥) → row_of qs p ≡ i
unfolding row_of
first_row [] p i l e h = absurd (omega arith)
first_row (q ∷ qs) p zero l e h = rw (eq-eqb q p e)
first_row (q ∷ qs) p (suc i) l e h =
    rw (ne_eqb q p (h 0 (omega arith)), first_row qs p i (omega arith) e (λ j k. h (suc j) (omega arith)))

pub row_of_law : (qs : List ℕ) (p i : ℕ) → Rising qs (length qs) → i < length qs → get_or qs i 0 ≡ p → row_of qs p ≡ i
row_of_law qs p i up l e = first_row qs p i l e (λ j k f. omega (arith, up j i k l))

-- the lowest row of a directory that was found and is not done
pub next_row_at : (ps : List ℕ) (i : ℕ) → i < length ps → 8 ≤ get_or ps i 0 → ((j : ℕ) → j < i → get_or ps j 0 < 8) → next_row ps ≡ i
unfolding next_row
next_row_at [] i l e h = absurd (omega arith)
next_row_at (k ∷ ps) zero l e h = rw (le-leb 8 k e)
next_row_at (k ∷ ps) (suc i) l e h =
    rw (lt-leb 8 k (h 0 (omega arith)), next_row_at ps i (omega arith) e (λ j m. h (suc j) (omega arith)))

pub next_row_none : (ps : List ℕ) → ((j : ℕ) → j < length ps → get_or ps j 0 < 8) → next_row ps ≡ length ps
unfolding next_row
next_row_none [] h = refl
next_row_none (k ∷ ps) h = rw (lt-leb 8 k (h 0 (omega arith)), next_row_none ps (λ j m. h (suc j) (omega arith)))

-- it is a row or the number of rows, a directory stands there and none before it
pub record Next (ps : List ℕ) (i : ℕ) : Type 0 where
  pub within : i ≤ length ps
  pub found : i < length ps → 8 ≤ get_or ps i 0
  pub before : (j : ℕ) → j < i → get_or ps j 0 < 8

pub next_row_law : (ps : List ℕ) → Next ps (next_row ps)
unfolding next_row
next_row_law [] = record { within = omega arith; found = λ l. absurd (omega arith); before = λ j l. absurd (omega arith) }
next_row_law (k ∷ ps) = go (leb 8 k) refl (next_row_law ps)
  where
    later : k < 8 → Next ps (next_row ps) → (j : ℕ) → j < suc (next_row ps) → get_or (k ∷ ps) j 0 < 8
    later l r zero m = l
    later l r (suc j) m = r.before j (omega arith)

    go : (b : Bool) → leb 8 k ≡ b → Next ps (next_row ps) → Next (k ∷ ps) (pick b 0 (suc (next_row ps)))
    go true e r = record { within = omega arith; found = λ l. leb-true 8 k e; before = λ j l. absurd (omega arith) }
    go false e r = record {
      within = omega (arith, r.within);
      found = λ l. r.found (omega arith);
      before = later (leb-false 8 k e) r;
    }

-- no directory is left, or one is taken
module _ (s : List ℕ) (h : FileHead) (qs : List ℕ) (n : ℕ) (ps os : List ℕ) (c : ℕ) where
  pub rounds_over : next_row ps ≡ length ps → rounds s h qs (suc n) ps os c ≡ going ps os c
  unfolding rounds
  rounds_over e = rw (le-ltb (next_row ps) (length ps) (omega arith))

  pub rounds_more : {i : ℕ} → next_row ps ≡ i → i < length ps
      → rounds s h qs (suc n) ps os c ≡ and_then (rounds s h qs n) (round_turn s h qs i ps os)
  unfolding rounds
  rounds_more {i} e l = rw (lt-ltb (next_row ps) (length ps) (omega arith), e)
