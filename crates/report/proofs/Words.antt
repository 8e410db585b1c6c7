-- The words of a report: which they are, and how long a line is at most.
use Prim.Native.Nat.{ℕ, zero, suc, ◌+◌, ◌≤◌}
use mathlib.Core.Bool.{Bool, true, false}
use mathlib.Core.List.{List, [], ◌∷◌, ◌++◌}
use mathlib.Core.Path.{◌≡◌, refl, ap}
use native.Mathlib.Omega.{arith}
use lib.Dec.{eqb}
use lib.ListN.{length, get_or, length-append, get_or-eq_default}
use Rattle.wire.specs.Check.{pick}
use Rattle.wire.specs.declared.Answer.{Answer}
use borrow.Author.Tests.{ne_eqb}
use Rattle.report.specs.Report.{decimal, spaced, closed, part_names, part_name, passed, unfinished, refused, line, heading}
use Rattle.report.proofs.Decimals.{length_decimal}

-- a part past the last name
pub no_part : (part : ℕ) → 8 ≤ part → spaced (part_name part) ≡ spaced (part_name 8)
unfolding part_name
no_part part l = ap spaced (get_or-eq_default part_names _ l)

-- the three first lines
module _ (a : Answer) where
  pub is_passed : a.number ≡ 0 → heading a ≡ spaced passed ++ closed (decimal a.count)
  unfolding heading
  is_passed e = rw e refl

  pub is_unfinished : a.number ≡ 7 → heading a ≡ spaced unfinished ++ closed (decimal a.count)
  unfolding heading
  is_unfinished e = rw e refl

  pub is_refused : (a.number ≡ 0 → ⊥) → (a.number ≡ 7 → ⊥)
      → heading a ≡ spaced refused ++ spaced (decimal a.number) ++ closed (decimal a.place)
  unfolding heading
  is_refused m n = rw (ne_eqb a.number 0 m, ne_eqb a.number 7 n) refl

-- no line is longer than 72
spaced_length : (x : List ℕ) → length (spaced x) ≡ length x + 1
unfolding spaced
spaced_length x = simp length-append

closed_length : (x : List ℕ) → length (closed x) ≡ length x + 1
unfolding closed
closed_length x = simp length-append

Short : List (List ℕ) → Type 0
Short [] = Unit
Short (x ∷ xs) = (length x ≤ 8) × Short xs

short_at : (xs : List (List ℕ)) (k : ℕ) (d : List ℕ) → Short xs → length d ≤ 8 → length (get_or xs k d) ≤ 8
unfolding Short
short_at [] k d h l = l
short_at (x ∷ xs) zero d h l = h.0
short_at (x ∷ xs) (suc k) d h l = short_at xs k d h.1 l

name_short : (part : ℕ) → length (part_name part) ≤ 8
unfolding part_name Short
name_short part = short_at part_names part _ (omega arith) (omega arith)

pub line_short : (place size part owner : ℕ) → length (line place size part owner) ≤ 72
unfolding line
line_short place size part owner =
    simp (length-append, spaced_length, closed_length)
    (omega (arith, length_decimal place, length_decimal size, length_decimal owner, name_short part))

pub heading_short : (a : Answer) → length (heading a) ≤ 72
unfolding heading
heading_short a = go (eqb a.number 0) (eqb a.number 7)
  where
    count : length (decimal a.count) ≤ 20
    count = length_decimal a.count

    go : (p q : Bool) → length (pick p (spaced passed ++ closed (decimal a.count))
        (pick q (spaced unfinished ++ closed (decimal a.count))
        (spaced refused ++ spaced (decimal a.number) ++ closed (decimal a.place)))) ≤ 72
    go true q = simp (length-append, spaced_length, closed_length) (omega (arith, count))
    go false true = simp (length-append, spaced_length, closed_length) (omega (arith, count))
    go false false =
        simp (length-append, spaced_length, closed_length) (omega (arith, length_decimal a.number, length_decimal a.place))
