-- The sum of a header, worked out up to a bound.
use Prim.Native.Nat.{ℕ, ◌≤◌, ◌<◌}
use mathlib.Core.Logic.{⊎_elim}
use mathlib.Core.Path.{◌≡◌, sym, ap, ◌∙◌}
use native.Mathlib.Omega.{arith}
use borrow.Author.Tests.{le-leb, ne_eqb}
use lib.Dec.{eqb}
use Rattle.wire.proofs.Checks.{below_or}
use Rattle.wire.proofs.Numbers.{lesser_second}
use Rattle.key.specs.Header.{sum_for, sum_bound, bounded_sum}

module _ (version class name title : ℕ) where
  abbrev sum : ℕ
  sum = sum_for version class name title

  abbrev bounded : ℕ
  bounded = bounded_sum version class name title

  pub past_sum : sum_bound ≤ sum → sum_bound ≡ bounded
  unfolding bounded_sum
  past_sum l = lesser_second sum sum_bound l

  pub whole_sum : sum ≤ sum_bound → sum ≡ bounded
  unfolding bounded_sum
  whole_sum l = rw (le-leb sum sum_bound l)

  -- what holds below the bound and past it
  by_bound : {A : Type 0} → (sum ≡ bounded → sum < sum_bound → A) → (sum_bound ≡ bounded → sum_bound ≤ sum → A) → A
  by_bound below past =
      ⊎_elim (λ (l : sum < sum_bound). below (whole_sum (omega arith)) l) (λ (l : sum_bound ≤ sum). past (past_sum l) l) (below_or sum sum_bound)

  -- what is below the bound is the sum
  pub sum_held : bounded < sum_bound → sum ≡ bounded
  sum_held h = by_bound (λ e l. e) (λ e l. absurd (omega arith))

  -- and what is above a number, the sum is too
  pub sum_above : (m : ℕ) {r : ℕ} → r ≡ bounded → m < r → m < sum
  sum_above m i h = by_bound (λ e l. omega arith) (λ e l. omega arith)

  -- a number of 32 bits is the one where it is the other
  pub same_sum : (n : ℕ) → n < sum_bound → eqb n bounded ≡ eqb n sum
  same_sum n h =
      by_bound (λ e l. ap (eqb n) (sym e)) (λ e l. ne_eqb n _ (λ i. omega arith) ∙ sym (ne_eqb n _ (λ i. omega arith)))
