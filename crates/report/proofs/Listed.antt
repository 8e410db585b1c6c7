-- The rows that are listed, where each ends, and their lines.
use Prim.Native.Nat.{ℕ, zero, suc, ◌+◌, ◌-◌, ◌*◌, ◌<◌, ◌≤◌}
use mathlib.Core.Bool.{Bool, true, false}
use mathlib.Core.List.{List}
use mathlib.Core.Logic.{⊎_elim}
use mathlib.Core.Path.{◌≡◌, refl, sym, ap, ◌∙◌}
use native.Mathlib.Nat.{eq-or-lt_of_le}
use native.Mathlib.Numerals.{add-one}
use native.Mathlib.Omega.{arith}
use borrow.Author.Tests.{lt-ltb, le-ltb, lt-leb}
use lib.Dec.{leb, eqb}
use lib.ListN.{length, get_or, take, length-append}
use lib.Seq.{get_or-take, length-take-le}
use Rattle.wire.specs.Check.{pick}
use Rattle.wire.specs.declared.Answer.{Answer}
use Rattle.wire.proofs.Checks.{below_or}
use Rattle.wire.proofs.Numbers.{lesser_within}
use Rattle.report.specs.Put.{Room, Put}
use Rattle.wire.specs.Number.{lesser}
use Rattle.report.specs.Report.{next_place, line, row, lines, rows_of}
use Rattle.report.proofs.Puts.{put_nothing, put_then}
use Rattle.report.proofs.Words.{line_short}

module _ (a : Answer) (start part owner : List ℕ) where
  -- every row listed is in every table
  pub rows_within : {n : ℕ} → n ≡ rows_of a start part owner → (n ≤ length start) × (n ≤ length part) × (n ≤ length owner)
  unfolding rows_of
  rows_within {n} e = go (eqb a.number 0) e
    where
      go : (t : Bool) → n ≡ pick t (lesser a.count (lesser (length start) (lesser (length part) (length owner)))) 0
          → (n ≤ length start) × (n ≤ length part) × (n ≤ length owner)
      go false f = omega arith
      go true f =
          omega (
            arith,
            lesser_within a.count (lesser (length start) (lesser (length part) (length owner))),
            lesser_within (length start) (lesser (length part) (length owner)),
            lesser_within (length part) (length owner),
          )

module _ (start : List ℕ) (n end i : ℕ) where
  pub ends_next : i + 1 < n → get_or start (i + 1) 0 ≡ next_place start n end i
  unfolding next_place
  ends_next l = rw (lt-ltb (i + 1) n l)

  pub ends_last : n ≤ i + 1 → end ≡ next_place start n end i
  unfolding next_place
  ends_last l = rw (le-ltb (i + 1) n l)

-- tables that are cut to the rows listed show the same
module _ (start part owner : List ℕ) (n end : ℕ) where
  cut_place : (i : ℕ) → next_place (take n start) n end i ≡ next_place start n end i
  cut_place i =
      ⊎_elim (λ (l : i + 1 < n). sym (ends_next (take n start) n end i l) ∙ get_or-take n start (i + 1) 0 l ∙ ends_next start n end i l)
      (λ (l : n ≤ i + 1). sym (ends_last (take n start) n end i l) ∙ ends_last start n end i l)
      (below_or (i + 1) n)

  cut_row : (i : ℕ) → i < n → row (take n start) (take n part) (take n owner) n end i ≡ row start part owner n end i
  unfolding row
  cut_row i l = rw (cut_place i, get_or-take n start i 0 l, get_or-take n part i 0 l, get_or-take n owner i 0 l) refl

  cut_lines : (k : ℕ) → k ≤ n → lines (take n start) (take n part) (take n owner) n end k ≡ lines start part owner n end k
  unfolding lines
  cut_lines zero l = refl
  cut_lines (suc k) l = rw (cut_lines k (omega arith), cut_row k (omega arith)) refl

  pub cut_rows : n ≤ length start → {m : ℕ} → n ≡ m
      → lines (take n start) (take n part) (take n owner) (length (take n start)) end (length (take n start)) ≡ lines start part owner m end m
  cut_rows l e = rw (length-take-le n start l) (cut_lines n (omega arith) ∙ ap (λ (m : ℕ). lines start part owner m end m) e)

module _ (start part owner : List ℕ) (n end : ℕ) where
  -- a row's line from its numbers
  pub is_row : (i : ℕ) {q d : ℕ} → q ≡ next_place start n end i → d ≡ q - get_or start i 0
      → row start part owner n end i ≡ line (get_or start i 0) d (get_or part i 0) (get_or owner i 0)
  unfolding row
  is_row i e f = rw (f, e)

  pub row_short : (i : ℕ) → length (row start part owner n end i) ≤ 72
  unfolding row
  row_short i = line_short _ _ _ _

  more_length : (i : ℕ) → length (lines start part owner n end (suc i)) ≡ length (lines start part owner n end i) + length (row start part owner n end i)
  unfolding lines
  more_length i = simp length-append

  pub lines_short : (k : ℕ) → length (lines start part owner n end k) ≤ 72 * k
  unfolding lines
  lines_short zero = omega arith
  lines_short (suc k) = simp length-append (omega (arith, lines_short k, row_short k))

  -- more rows have more text
  longer : (i m : ℕ) → i ≤ m → length (lines start part owner n end i) ≤ length (lines start part owner n end m)
  longer i zero h = let e : i ≡ 0 = omega arith in rw e (omega arith)
  longer i (suc m) h =
      ⊎_elim (λ (e : i ≡ suc m). rw e (omega arith))
      (λ (l : i < suc m). let s = longer i m (omega arith) in rw (more_length m) (omega arith))
      (eq-or-lt_of_le h)

  -- one row more has no more text than all
  row_within : (i : ℕ) → i < n → length (lines start part owner n end i) + length (row start part owner n end i) ≤ length (lines start part owner n end n)
  row_within i l = let s = longer (suc i) n (omega arith) in rw (more_length i) at s

  -- the lines are written one after another
  pub list_began : {b : List ℕ} {first : ℕ} → Room b first (lines start part owner n end n) → Put b first (lines start part owner n end 0) b first
  unfolding lines
  list_began {b} {first} h = put_nothing b first (omega (arith, h.fits))

  module _ (i : ℕ) {b w : List ℕ} {first at : ℕ} (h : Put b first (lines start part owner n end i) w at) where
    pub row_room : i < n → Room b first (lines start part owner n end n) → Room w at (row start part owner n end i)
    row_room l r = let k = row_within i l in record { fits = omega (arith, k, r.fits, h.next, h.same) }

    pub list_turn : {v : List ℕ} {r : ℕ} → Put w at (row start part owner n end i) v r → Put b first (lines start part owner n end (i + 1)) v r
    unfolding lines
    list_turn p = rw (add-one i) (put_then h p)

  -- what the lines of the first i rows leave of a room
  pub fit_began : {first room left : ℕ} → first ≤ room → left ≡ room - first → first + length (lines start part owner n end 0) + left ≡ room
  unfolding lines
  fit_began l e = omega arith

  module _ (i first room left size : ℕ) (h : first + length (lines start part owner n end i) + left ≡ room)
      (e : size ≡ length (row start part owner n end i)) where
    pub fit_turn : size ≤ left → first + length (lines start part owner n end (i + 1)) + (left - size) ≡ room
    fit_turn k = rw (add-one i, more_length i) (omega arith)

    pub fit_failed : i < n → left < size → false ≡ leb (first + length (lines start part owner n end n)) room
    fit_failed l k = sym (lt-leb _ room (omega (arith, row_within i l)))
