-- Decimal digits: their number, and the last one apart.
use Prim.Native.Nat.{ℕ, zero, suc, ◌+◌, ◌/◌, ◌%◌, ◌^◌, ◌<◌, ◌≤◌}
use mathlib.Core.List.{List, [], ◌∷◌, ◌++◌}
use mathlib.Core.Path.{◌≡◌, ap}
use mathlib.Core.Logic.{⊎_elim}
use native.Mathlib.Nat.{div-lt_iff_lt-mul, pow-suc}
use native.Mathlib.Omega.{arith}
use borrow.Author.Tests.{lt-ltb, le-ltb}
use lib.ListN.{length, set, length-append}
use Rattle.wire.proofs.Checks.{below_or}
use Rattle.report.specs.Put.{Room, Put}
use Rattle.report.specs.Report.{digits_in, decimal}
use Rattle.report.proofs.Puts.{put_nothing, put_byte}

tenth : (k v : ℕ) → v < 10 ^ suc k → v / 10 < 10 ^ k
tenth k v h = (div-lt_iff_lt-mul {k = 10} {x = v} {y = 10 ^ k} (omega arith)).1 (rw (pow-suc 10 k) at h)

-- room for one digit more changes nothing
enough : (k v : ℕ) → v < 10 ^ suc k → digits_in (suc k) v ≡ digits_in (suc (suc k)) v
unfolding digits_in
enough zero v h = rw (lt-ltb v 10 (omega arith))
enough (suc k) v h =
    ⊎_elim (λ (l : v < 10). rw (lt-ltb v 10 l))
    (λ (l : 10 ≤ v). rw (le-ltb v 10 l) (ap (λ (x : List ℕ). x ++ (48 + v % 10) ∷ []) (enough k (v / 10) (tenth (suc k) v h))))
    (below_or v 10)

pub one_digit : (v : ℕ) → v < 10 → decimal v ≡ (48 + v) ∷ []
unfolding decimal digits_in
one_digit v h = rw (lt-ltb v 10 h)

pub more_digits : (v : ℕ) → 10 ≤ v → v < 10 ^ 20 → decimal v ≡ decimal (v / 10) ++ (48 + v % 10) ∷ []
unfolding decimal digits_in
more_digits v l h = rw (le-ltb v 10 l) (ap (λ (x : List ℕ). x ++ (48 + v % 10) ∷ []) (enough 18 (v / 10) (tenth 19 v h)))

digits_short : (k v : ℕ) → length (digits_in k v) ≤ k
unfolding digits_in
digits_short zero v = omega arith
digits_short (suc k) v =
    ⊎_elim (λ (l : v < 10). rw (lt-ltb v 10 l) (omega arith))
    (λ (l : 10 ≤ v). let s = digits_short k (v / 10) in rw (le-ltb v 10 l, length-append) (omega arith))
    (below_or v 10)

pub length_decimal : (v : ℕ) → length (decimal v) ≤ 20
unfolding decimal
length_decimal v = digits_short 20 v

-- the last digit is written, alone or after the others
module _ (v : ℕ) where
  pub length_one : v < 10 → length (decimal v) ≡ 1
  length_one h = rw (one_digit v h)

  pub length_more : 10 ≤ v → v < 10 ^ 20 → length (decimal v) ≡ length (decimal (v / 10)) + 1
  length_more l h = rw (more_digits v l h, length-append)

  pub put_one : {b : List ℕ} {at : ℕ} → v < 10 → Room b at (decimal v) → Put b at (decimal v) (set b at (48 + v)) (at + 1)
  put_one {b} {at} h l = rw (one_digit v h) (put_byte (put_nothing b at (omega (arith, l.fits))) (48 + v) (omega (arith, length_one h, l.fits)))

  pub put_more : {b w : List ℕ} {at r : ℕ} → 10 ≤ v → v < 10 ^ 20 → Room b at (decimal v) → Put b at (decimal (v / 10)) w r
      → Put b at (decimal v) (set w r (48 + v % 10)) (r + 1)
  put_more {b} {w} {at} {r} k h l p = rw (more_digits v k h) (put_byte p (48 + v % 10) (omega (arith, length_more k h, p.next, l.fits)))
