-- Signed numbers of two bytes: what the code computes is the definitions' value.
use Prim.Native.Nat.{ℕ, suc, ◌+◌, ◌-◌, ◌<◌, ◌≤◌}
use mathlib.Core.Path.{◌≡◌, refl, sym, ap, ◌∙◌, subst}
use mathlib.Core.Bool.{Bool, true, false}
use lib.IntN.{ℤ, pos, negsuc, ◌-ℤ◌, ◌+ℤ◌, nat_abs}
use lib.Signed.{lt_z, non_neg}
use lib.Dec.{ltb, T}
use native.Mathlib.Omega.{arith}
use borrow.Author.Tests.{lt-ltb, le-ltb, ltb-true, ltb-false}
use mir.Val.{SFits, Fits, to_z, of_z}
use mir.Syntax.{w32}
use mir.Facts.{to_z_pos, to_z-of_z}
use Rattle.wire.specs.Number.{signed_of, bits16, bits_of}
use Rattle.wire.specs.Check.{pick}
use Rattle.std.specs.Prelude.{Some, None}

pub low : (v : ℕ) → v < 32768 → to_z w32 v ≡ signed_of 2 v
unfolding signed_of
low v h = rw (lt-ltb (v + v) 65536 (omega arith)) (to_z_pos w32 (omega arith))

less : (v : ℕ) → v < 65536 → pos v -ℤ pos 65536 ≡ negsuc (65536 - suc v)
less v h = rw (lt-ltb v 65536 h) refl

pub less_fits : (v : ℕ) → v < 65536 → SFits w32 (to_z w32 v -ℤ pos 65536)
less_fits v h = rw (to_z_pos w32 {n = v} (omega arith), less v h) (record { sfits = omega arith })

pub high : (v : ℕ) → 32768 ≤ v → v < 65536 → to_z w32 (of_z w32 (to_z w32 v -ℤ pos 65536)) ≡ signed_of 2 v
unfolding signed_of
high v l h = to_z-of_z (less_fits v h) ∙ rw (to_z_pos w32 {n = v} (omega arith), less v h, le-ltb (v + v) 65536 (omega arith))

-- out of range, or in it
wide_low : (z : ℤ) → lt_z z (negsuc 32767) ≡ true → None ≡ bits16 z
unfolding bits16 bits_of
wide_low (pos n) h = let e : ◌≡◌ {A = Bool} false true = h in absurd (subst T (sym e) tt)
wide_low (negsuc n) h = rw (le-ltb n 32768 (omega (arith, ltb-true 32767 n h)))

wide_high : (z : ℤ) → lt_z (pos 32767) z ≡ true → None ≡ bits16 z
unfolding bits16 bits_of
wide_high (pos n) h = rw (le-ltb n 32768 (omega (arith, ltb-true 32767 n h)))
wide_high (negsuc n) h = let e : ◌≡◌ {A = Bool} false true = h in absurd (subst T (sym e) tt)

-- a number below 0 and not below -32768
pub record Under (z : ℤ) : Type 0 where
  pub n : ℕ
  pub is : z ≡ negsuc n
  pub low : n < 32768

under : (z : ℤ) → lt_z z (negsuc 32767) ≡ false → lt_z z (pos 0) ≡ true → Under z
under (pos n) h l = let e : n < 0 = ltb-true n 0 l in absurd (omega arith)
under (negsuc n) h l = record { n = n; is = refl; low = omega (arith, ltb-false 32767 n h) }

-- a number from 0 to 32767
pub record Over (z : ℤ) : Type 0 where
  pub n : ℕ
  pub is : z ≡ pos n
  pub low : n < 32768

over : (z : ℤ) → lt_z (pos 32767) z ≡ false → lt_z z (pos 0) ≡ false → Over z
over (pos n) h l = record { n = n; is = refl; low = omega (arith, ltb-false 32767 n h) }
over (negsuc n) h l = let e : ◌≡◌ {A = Bool} true false = l in absurd (subst T e tt)

raised : (n : ℕ) → n < 32768 → negsuc n +ℤ pos 65536 ≡ pos (65536 - suc n)
raised n h = rw (le-ltb 65536 (suc n) (omega arith)) refl

module _ (z : ℤ) (f : SFits w32 z) where
  is : to_z w32 (of_z w32 z) ≡ z
  is = to_z-of_z f

  pub too_low : lt_z (to_z w32 (of_z w32 z)) (negsuc 32767) ≡ true → None ≡ bits16 z
  too_low h = wide_low z (rw is at h)

  pub too_high : lt_z (pos 32767) (to_z w32 (of_z w32 z)) ≡ true → None ≡ bits16 z
  too_high h = wide_high z (rw is at h)

  pub below : lt_z (to_z w32 (of_z w32 z)) (negsuc 32767) ≡ false → lt_z (to_z w32 (of_z w32 z)) (pos 0) ≡ true → Under z
  below h l = under z (rw is at h) (rw is at l)

  pub above : lt_z (pos 32767) (to_z w32 (of_z w32 z)) ≡ false → lt_z (to_z w32 (of_z w32 z)) (pos 0) ≡ false → Over z
  above h l = over z (rw is at h) (rw is at l)

  sum : (u : Under z) → to_z w32 (of_z w32 z) +ℤ pos 65536 ≡ pos (65536 - suc u.n)
  sum u = rw (is, u.is) (raised u.n u.low)

  pub sum_fits_law : Under z → SFits w32 (to_z w32 (of_z w32 z) +ℤ pos 65536)
  sum_fits_law u = rw (sum u) (record { sfits = omega arith })

  back : (u : Under z) → to_z w32 (of_z w32 (to_z w32 (of_z w32 z) +ℤ pos 65536)) ≡ pos (65536 - suc u.n)
  back u = to_z-of_z (sum_fits_law u) ∙ sum u

  pub sum_cast : Under z
      → T (non_neg (to_z w32 (of_z w32 (to_z w32 (of_z w32 z) +ℤ pos 65536))))
      × Fits w32 (nat_abs (to_z w32 (of_z w32 (to_z w32 (of_z w32 z) +ℤ pos 65536))))
  sum_cast u = rw (back u) (tt, record { fits = omega arith })

  pub sum_is : Under z → Some (nat_abs (to_z w32 (of_z w32 (to_z w32 (of_z w32 z) +ℤ pos 65536)))) ≡ bits16 z
  unfolding bits16 bits_of
  sum_is u = rw (back u, u.is, lt-ltb u.n 32768 u.low)

  pub over_cast : Over z → T (non_neg (to_z w32 (of_z w32 z))) × Fits w32 (nat_abs (to_z w32 (of_z w32 z)))
  over_cast u = rw (is, u.is) (tt, record { fits = omega (arith, u.low) })

  pub over_is : Over z → Some (nat_abs (to_z w32 (of_z w32 z))) ≡ bits16 z
  unfolding bits16 bits_of
  over_is u = rw (is, u.is, lt-ltb u.n 32768 u.low)

-- a value of two bytes fits a wider signed type
pub signed_fits : (v : ℕ) → v < 65536 → SFits w32 (signed_of 2 v)
unfolding signed_of
signed_fits v h = go (ltb (v + v) 65536) refl
  where
    go : (b : Bool) → ltb (v + v) 65536 ≡ b → SFits w32 (pick b (pos v) (negsuc (65536 - suc v)))
    go true e = record { sfits = omega (arith, ltb-true (v + v) 65536 e) }
    go false e = record { sfits = omega arith }

pub signed_held : {z : ℤ} (v : ℕ) → v < 65536 → z ≡ signed_of 2 v → to_z w32 (of_z w32 z) ≡ signed_of 2 v
signed_held v h e = ap (λ (z : ℤ). to_z w32 (of_z w32 z)) e ∙ to_z-of_z (signed_fits v h)
