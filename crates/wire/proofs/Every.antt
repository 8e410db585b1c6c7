-- Checks that are computed at every number below a bound, and the facts at each of them.
use Prim.Native.Nat.{ℕ, zero, suc, ◌<◌, ◌≤◌}
use mathlib.Core.Bool.{true}
use mathlib.Core.List.{List, [], ◌∷◌}
use mathlib.Core.Path.{◌≡◌, subst}
use mathlib.Core.Logic.{⊎_elim}
use native.Mathlib.Omega.{arith}
use Rattle.wire.specs.Check.{Check, yes, all, All}
use Rattle.wire.proofs.Checks.{all_yes, below_or}

abbrev pub every : (ℕ → List Check) → ℕ → List Check
every f zero = []
every f (suc n) = yes (all (f n)) ∷ every f n

-- the facts of one number from those of all
pub each_held : (f : ℕ → List Check) (n : ℕ) → All (every f n) → (k : ℕ) → k < n → All (f k)
each_held f zero h k l = absurd (omega arith)
each_held f (suc n) h k l =
    ⊎_elim (λ (m : k < n). each_held f n h.1 k m)
    (λ (m : n ≤ k). let i : n ≡ k = omega arith in subst (λ (j : ℕ). All (f j)) i (all_yes (f n) h.0)) (below_or k n)

pub each_below : (f : ℕ → List Check) (n : ℕ) → all (every f n) ≡ true → (k : ℕ) → k < n → All (f k)
each_below f n e = each_held f n (all_yes (every f n) e)
