-- Steps one after the other: what an answer is, from the answers of the steps.
use Prim.Native.Nat.{ℕ, zero, suc, ◌+◌, ◌-◌, ◌<◌, ◌≤◌}
use mathlib.Core.List.{List}
use mathlib.Core.Path.{◌≡◌, refl, sym, ◌∙◌}
use native.Mathlib.Omega.{arith}
use native.Mathlib.Nat.{suc-add, zero-add}
use native.Mathlib.Numerals.{add-one}
use borrow.Author.Tests.{le-leb, lt-leb, ne_eqb}
use Rattle.std.specs.Prelude.{Option, Some, Result, Ok, Err, IfOk}
use Rattle.wire.specs.Check.{All}
use Rattle.wire.specs.declared.fault.Fault.{Fault}
use Rattle.wire.specs.Text.{text_in}
use Rattle.wire.specs.declared.text.Text.{Text}
use Rattle.wire.proofs.Texts.{stands}
use Rattle.wire.proofs.Checks.{picked, not_picked}
use Rattle.infofield.specs.Field.{◌>>=◌, bad_field, field_at, numbers_at, end_of, counts, count_at, ended_at, text_field_at}

-- one field
pub field_out : (n p e : ℕ) → e < p + n → field_at n p e ≡ Err (bad_field p)
unfolding field_at
field_out n p e h = rw (lt-leb (p + n) e h)

pub field_in : (n p e : ℕ) → p + n ≤ e → field_at n p e ≡ Ok (p + n)
unfolding field_at
field_in n p e h = rw (le-leb (p + n) e h)

-- an object that ends early
pub not_ended : (p e : ℕ) → (p ≡ e → ⊥) → Err (bad_field p) ≡ ended_at p e
unfolding ended_at
not_ended p e h = rw (ne_eqb p e h)

-- numbers in a row
module _ (at end : ℕ) where
  pub no_number : numbers_at 0 at end ≡ Ok at
  unfolding numbers_at
  no_number = refl

  pub one_more : (i p : ℕ) → numbers_at i at end ≡ Ok p → numbers_at (i + 1) at end ≡ field_at 4 p end
  unfolding numbers_at
  one_more i p e = rw (add-one, e)

  stays : (i j : ℕ) (d : Fault) → numbers_at i at end ≡ Err d → numbers_at (j + i) at end ≡ Err d
  unfolding numbers_at
  stays i zero d e = rw zero-add e
  stays i (suc j) d e = rw (suc-add, stays i j d e)

  pub number_out : (i k p : ℕ) (d : Fault) → i < k → numbers_at i at end ≡ Ok p → field_at 4 p end ≡ Err d → numbers_at k at end ≡ Err d
  number_out i k p d l e g =
      let m : k - (i + 1) + (i + 1) ≡ k = omega arith in
      rw m at (stays (i + 1) (k - (i + 1)) d (one_more i p e ∙ g))

-- what holds after a step
pub after_step : {A B : Type 0} (x : Result A Fault) (f : A → Result B Fault) (P : B → Type 0) → ((a : A) → x ≡ Ok a → IfOk (f a) P)
    → IfOk (x >>= f) P
after_step (Ok a) f P h = h a refl
after_step (Err d) f P h = tt

-- a string that was read is passed over whole
pub text_in_law : (s : List ℕ) (p e : ℕ) {y : Option Text} {t : Text} → y ≡ text_in s p e → y ≡ Some t → Ok t.next ≡ text_field_at s p e
unfolding text_field_at
text_in_law s p e {y} {t} d g = rw (sym d ∙ g)

-- and starts before the end
pub text_before : (s : List ℕ) (p e : ℕ) (t : Text) → text_in s p e ≡ Some t → p < e
text_before s p e t i = let d = stands s p e (sym i) in omega (arith, d.start, d.content, d.fits)

-- ByteCounts
module _ (s : List ℕ) (p e : ℕ) where
  pub not_count : (All (counts s p e) → ⊥) → count_at s p e ≡ Err (bad_field p)
  unfolding count_at
  not_count h = not_picked (counts s p e) _ _ h

  pub is_count : All (counts s p e) → count_at s p e ≡ Ok (record { from = p + 4; close = end_of s p })
  unfolding count_at
  is_count h = picked (counts s p e) _ _ h
