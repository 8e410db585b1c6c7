-- Laws of big-endian numbers, over the width.
use Prim.Native.Nat.{ℕ, zero, suc, ◌+◌, ◌*◌, ◌/◌, ◌%◌, ◌^◌, ◌<◌, ◌≤◌}
use mathlib.Core.List.{List, [], ◌∷◌, ◌++◌}
use mathlib.Core.Logic.{⊎_elim}
use mathlib.Core.Path.{◌≡◌, refl, sym, ap, ◌∙◌}
use native.Mathlib.Nat.{add-zero, zero-add, div-add-mod', div-lt_iff_lt-mul, pow-suc}
use native.Mathlib.Numerals.{add-one}
use native.Mathlib.Omega.{arith}
use Rattle.std.specs.Prelude.{Option, Some, None, MatchOption}
use Rattle.std.specs.Int.{w16, w32, w64, from_be_bytes}
use Rattle.std.proofs.lemmas.List.{length-take-le, take-take, get_or-take}
use Rattle.std.specs.Array.{IsFirstChunk}
use Rattle.std.specs.Borrow.{Bor}
use borrow.Author.Tests.{le-leb, lt-leb}
use lib.ListN.{length, take, drop, get_or, set, length-append, length-drop}
use lib.Seq.{sets, sets-eq, get_or-append-add, get_or-drop, take-suc}
use mathlib.Core.List.{append_assoc}
use Rattle.wire.specs.Number.{be_value, Bytes, num_at, be_bytes, lesser}
use Rattle.wire.specs.Patch.{patch}
use Rattle.wire.proofs.Checks.{below_or}

-- the number is there, or not
pub num_in : (w : ℕ) (s : List ℕ) (p : ℕ) → p + w ≤ length s → num_at w s p ≡ be_value w s p
unfolding num_at
num_in w s p h = rw (le-leb (p + w) (length s) h)

pub num_out : (w : ℕ) (s : List ℕ) (p : ℕ) → length s < p + w → num_at w s p ≡ 0
unfolding num_at
num_out w s p h = rw (lt-leb (p + w) (length s) h)

pub length_bytes : (w v : ℕ) → length (be_bytes w v) ≡ w
unfolding be_bytes
length_bytes zero v = refl
length_bytes (suc w) v = rw (length-append, length_bytes w (v / 256)) (add-one w)

-- the bytes of a number that is 0, and a number whose bytes are
value_zero : (w : ℕ) (s : List ℕ) (p : ℕ) → be_value w s p ≡ 0 → (i : ℕ) → p ≤ i → i < p + w → get_or s i 0 ≡ 0
unfolding be_value
value_zero zero s p e i k l = absurd (omega arith)
value_zero (suc w) s p e i k l =
    ⊎_elim (λ (m : i < p + w). value_zero w s p (omega arith) i k m)
    (λ (m : p + w ≤ i). let j : i ≡ p + w = omega arith in rw j (omega arith))
    (below_or i (p + w))

zero_value : (w : ℕ) (s : List ℕ) (p : ℕ) → ((i : ℕ) → p ≤ i → i < p + w → get_or s i 0 ≡ 0) → be_value w s p ≡ 0
unfolding be_value
zero_value zero s p h = refl
zero_value (suc w) s p h =
    rw (zero_value w s p (λ i k l. h i k (omega arith)), h (p + w) (omega arith) (omega arith)) refl

-- among the bytes of a number that is 0 every number is
pub num_zero : (s : List ℕ) (w p v q : ℕ) → p + w ≤ length s → num_at w s p ≡ 0 → p ≤ q → q + v ≤ p + w → num_at v s q ≡ 0
num_zero s w p v q l e k m =
    num_in v s q (omega arith) ∙ zero_value v s q (λ i a b. value_zero w s p (sym (num_in w s p l) ∙ e) i (omega arith) (omega arith))

-- one byte
pub value1 : (s : List ℕ) (p : ℕ) → be_value 1 s p ≡ get_or s p 0
unfolding be_value
value1 s p = rw add-zero (omega arith)

-- as std adds up two, four and eight bytes
pub value2 : (b : List ℕ) → from_be_bytes w16 b ≡ be_value 2 b 0
unfolding be_value
value2 b = omega arith

pub value4 : (b : List ℕ) → from_be_bytes w32 b ≡ be_value 4 b 0
unfolding be_value
value4 b = omega arith

pub value8 : (b : List ℕ) → from_be_bytes w64 b ≡ be_value 8 b 0
unfolding be_value
value8 b = omega arith

-- the number of bytes that stand somewhere is that of these bytes alone
value_part : (w n : ℕ) (s : List ℕ) (p : ℕ) → w ≤ n → be_value w (take n (drop p s)) 0 ≡ be_value w s p
unfolding be_value
value_part zero n s p l = refl
value_part (suc w) n s p l =
    rw (value_part w n s p (omega arith), get_or-take n (drop p s) (0 + w) 0 (omega arith), get_or-drop p s (0 + w) 0, zero-add w) refl

pub chunk_read : (w : ℕ) (s t : List ℕ) (p : ℕ) (r : Option (Bor (List ℕ))) → p + w ≤ length s → t ≡ take w (drop p s)
    → MatchOption r (length t < w) (λ y. IsFirstChunk t y.now w)
    → MatchOption r (num_at w s p ≡ 0) (λ b. num_at w s p ≡ be_value w b.now 0)
chunk_read w s t p None l e h = absurd (omega (arith, h, ap length e, length-take-le w (drop p s) (omega (arith, length-drop p s))))
chunk_read w s t p (Some b) l e h =
    num_in w s p (omega arith)
    ∙ sym (ap (λ (x : List ℕ). be_value w x 0) (h.same ∙ ap (take w) e ∙ take-take w w (drop p s) (omega arith)) ∙ value_part w w s p (omega arith))

-- bytes stored one after the other at the front
pub stored : (x b : List ℕ) → length x ≤ length b → sets b 0 x ≡ patch b 0 x
unfolding patch
stored x b l = sets-eq x b 0 (omega arith) ∙ simp append_assoc

-- the bytes of a number give its value
pub value_bytes_law : (w v : ℕ) (t : List ℕ) → v < 256 ^ w → be_value w (be_bytes w v ++ t) 0 ≡ v
unfolding be_value be_bytes
value_bytes_law zero v t h = omega arith
value_bytes_law (suc w) v t h =
    let l : v / 256 < 256 ^ w = (div-lt_iff_lt-mul {k = 256} {x = v} {y = 256 ^ w} (omega arith)).1 (rw (pow-suc 256 w) at h) in
    let a = value_bytes_law w (v / 256) (v % 256 ∷ t) l in
    let b = get_or-append-add (be_bytes w (v / 256)) (v % 256 ∷ t) 0 0 in
    let c : get_or (be_bytes w (v / 256) ++ (v % 256 ∷ t)) (0 + w) 0 ≡ v % 256 = rw (zero-add w) (rw (length_bytes w (v / 256), add-zero w) at b) in
    rw (append_assoc, a, c) (div-add-mod' v 256)

-- the value of bytes gives the bytes
pub bytes_value : (w : ℕ) (s : List ℕ) (p : ℕ) → Bytes s → p + w ≤ length s → be_bytes w (be_value w s p) ≡ take w (drop p s)
unfolding be_value be_bytes Bytes
bytes_value zero s p b l = refl
bytes_value (suc w) s p b l =
    let g = b (p + w) in
    let q : (be_value w s p * 256 + get_or s (p + w) 0) / 256 ≡ be_value w s p = omega arith in
    let r : (be_value w s p * 256 + get_or s (p + w) 0) % 256 ≡ get_or s (p + w) 0 = omega arith in
    rw (q, r, bytes_value w s p b (omega arith), take-suc (drop p s) w 0 (rw length-drop (omega arith)), get_or-drop)

-- a value of w bytes is below 256 to the w
pub value_below : (w : ℕ) (s : List ℕ) (p : ℕ) → Bytes s → be_value w s p < 256 ^ w
unfolding be_value Bytes
value_below zero s p b = omega arith
value_below (suc w) s p b = let l = value_below w s p b in let g = b (p + w) in rw (pow-suc 256 w) (omega arith)

-- the lesser of two numbers is at most each
pub lesser_within : (a b : ℕ) → (lesser a b ≤ a) × (lesser a b ≤ b)
lesser_within a b =
    ⊎_elim (λ (l : b < a). rw (lt-leb a b l) (omega arith)) (λ (l : a ≤ b). rw (le-leb a b l) (omega arith)) (below_or b a)

-- it is the second where that is no greater than the first
pub lesser_second : (a b : ℕ) → b ≤ a → b ≡ lesser a b
lesser_second a b l = ⊎_elim (λ (m : b < a). rw (lt-leb a b m) refl) (λ (m : a ≤ b). rw (le-leb a b m) (omega arith)) (below_or b a)

-- bytes with one of them changed are bytes
pub bytes_set : (s : List ℕ) (j x : ℕ) → Bytes s → x < 256 → Bytes (set s j x)
unfolding Bytes
bytes_set [] j x b l i = b i
bytes_set (y ∷ s) zero x b l zero = l
bytes_set (y ∷ s) zero x b l (suc i) = b (suc i)
bytes_set (y ∷ s) (suc j) x b l zero = b zero
bytes_set (y ∷ s) (suc j) x b l (suc i) = bytes_set s j x (λ i. b (suc i)) l i
