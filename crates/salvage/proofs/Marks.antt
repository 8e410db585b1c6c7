-- Marks, one bit a place: one more is set, and no other bit of the table changes.
use Prim.Native.Nat.{ℕ, ◌-◌, ◌*◌, ◌/◌, ◌%◌, ◌^◌, ◌≤◌, ◌<◌}
use mathlib.Core.Bool.{Bool, true, false, not, ◌&&◌, ◌||◌}
use mathlib.Core.List.{List, [], ◌∷◌}
use mathlib.Core.Logic.{◌⊎◌, inl, inr, ⊎_elim}
use mathlib.Core.Path.{◌≡◌, refl, sym, ap, ◌∙◌}
use native.Mathlib.Omega.{arith}
use borrow.Author.Tests.{eqb-true, eqb-false}
use lib.Bits.{bit_and, bit_or}
use lib.Dec.{eqb}
use lib.ListN.{length, get_or, set, replicate, get_or-eq_default}
use lib.Seq.{get_or-set_same, get_or-set_other}
use Rattle.wire.specs.Check.{Check, yes, all}
use Rattle.wire.proofs.Checks.{false_true}
use Rattle.wire.proofs.Every.{every, each_held, each_below}
use Rattle.wire.proofs.Patches.{repeated_at}
use Rattle.table.specs.Table.{cleared}
use Rattle.rules.proofs.Frees.{and_both}
use Rattle.salvage.specs.Mark.{bit_of, marked, Marks, Unmarked}

-- bit k, alone in a byte
abbrev mask : ℕ → ℕ
mask k = 1 * 2 ^ k % 256

-- whether a byte has bit k, as the code tests it
abbrev pub has : ℕ → ℕ → Bool
has b k = not (eqb (bit_and b (mask k)) 0)

-- that is bit k, and a bit j that is set after bit k was is bit k or was set before
abbrev right_bit : ℕ → ℕ → ℕ → Bool
right_bit b k j = (has b k || not (bit_of b k)) && ((not (has b k) || bit_of b k) && (eqb j k || (not (bit_of (bit_or b (mask k)) j) || bit_of b j)))

-- for every byte and every two bits, computed
abbrev bits : ℕ → ℕ → List Check
bits b k = every (λ j. yes (right_bit b k j) ∷ []) 8

all_right : all (every (λ b. every (bits b) 8) 256) ≡ true
unfolding bit_of
all_right = refl

right : (b k j : ℕ) → b < 256 → k < 8 → j < 8 → right_bit b k j ≡ true
right b k j l m n =
    (each_held (λ j. yes (right_bit b k j) ∷ []) 8 (each_held (bits b) 8 (each_below (λ b. every (bits b) 8) 256 all_right b l) k m) j n).0

no_bits : all (every (λ k. yes (not (bit_of 0 k)) ∷ []) 8) ≡ true
unfolding bit_of
no_bits = refl

flipped : (x : Bool) → not x ≡ true → x ≡ false
flipped true e = false_true e
flipped false e = refl

no_bit : (k : ℕ) → k < 8 → bit_of 0 k ≡ false
no_bit k l = flipped (bit_of 0 k) (each_below (λ k. yes (not (bit_of 0 k)) ∷ []) 8 no_bits k l).0

-- the parts of the test
same : (x y : Bool) → (x || not y) ≡ true → (not x || y) ≡ true → x ≡ y
same true true e f = refl
same true false e f = false_true f
same false true e f = false_true e
same false false e f = refl

either : (e x y : Bool) → (e || (not x || y)) ≡ true → x ≡ true → (e ≡ true) ⊎ (y ≡ true)
either true x y h f = inl refl
either false true y h f = inr h
either false false y h f = false_true f

module _ (b k : ℕ) (l : b < 256) (m : k < 8) where
  bit_told : has b k ≡ bit_of b k
  bit_told =
      let r = and_both (has b k || not (bit_of b k)) _ (right b k 0 l m (omega arith)) in
      same (has b k) (bit_of b k) r.0 (and_both (not (has b k) || bit_of b k) _ r.1).0

  bit_new : (j : ℕ) → j < 8 → bit_of (bit_or b (mask k)) j ≡ true → (j ≡ k) ⊎ (bit_of b j ≡ true)
  bit_new j n h =
      let r = and_both (has b k || not (bit_of b k)) _ (right b k j l m n) in
      let s = (and_both (not (has b k) || bit_of b k) _ r.1).1 in
      ⊎_elim (λ (e : eqb j k ≡ true). inl (eqb-true j k e)) (λ (e : bit_of b j ≡ true). inr e)
      (either (eqb j k) (bit_of (bit_or b (mask k)) j) (bit_of b j) s h)

-- the table
pub none_marked : (m u : List ℕ) → u ≡ cleared m 0 → Unmarked u
unfolding Unmarked marked
none_marked m u e i =
    let f : get_or u (i / 8) 0 ≡ 0 = ap (λ (x : List ℕ). get_or x (i / 8) 0) e ∙ repeated_at {A = ℕ} 0 (length m - 0) (i / 8) in
    rw f (no_bit (i % 8) (omega arith))

pub cleared_all : (m w : List ℕ) {u : List ℕ} → u ≡ cleared w 0 → length w ≡ length m → u ≡ replicate (length m) 0
cleared_all m w e l = let k : length w - 0 ≡ length m = omega arith in e ∙ ap (λ (n : ℕ). replicate n 0) k

module _ (m : List ℕ) (i : ℕ) where
  abbrev byte : ℕ
  byte = get_or m (i / 8) 0

  pub mark_past : length m ≤ i / 8 → Marks m m i false
  unfolding marked
  mark_past l = record {
    told = rw (get_or-eq_default m 0 {n = i / 8} l) (sym (no_bit (i % 8) (omega arith)));
    new = λ j h. inr h;
  }

  pub mark_new : i / 8 < length m → byte < 256 → Marks m (set m (i / 8) (bit_or byte (mask (i % 8)))) i (has byte (i % 8))
  unfolding marked
  mark_new k l = record { told = bit_told byte (i % 8) l (omega arith); new = λ j h. go j (eqb (j / 8) (i / 8)) refl h }
    where
      go : (j : ℕ) (t : Bool) → eqb (j / 8) (i / 8) ≡ t → marked (set m (i / 8) (bit_or byte (mask (i % 8)))) j ≡ true
          → (j ≡ i) ⊎ (marked m j ≡ true)
      go j true e h =
          let q = eqb-true (j / 8) (i / 8) e in
          ⊎_elim (λ (r : j % 8 ≡ i % 8). inl (omega arith)) (λ (r : bit_of byte (j % 8) ≡ true). inr (rw q r))
          (bit_new byte (i % 8) l (omega arith) (j % 8) (omega arith)
          (rw (q, get_or-set_same m (i / 8) (bit_or byte (mask (i % 8))) 0 k) at h))
      go j false e h =
          inr (rw (get_or-set_other m (i / 8) (j / 8) (bit_or byte (mask (i % 8))) 0 (eqb-false (j / 8) (i / 8) e)) at h)
