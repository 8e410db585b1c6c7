-- The check of bytes from those of five fifths.
use Rattle.std.proofs.Common.{◌≡◌, ℕ, ◌+◌, ◌*◌, ◌%◌, ◌^◌, ◌<◌, ◌≤◌, List, ◌++◌, length, get_or, take, sym, refl, ap, ◌∙◌, arith}
use Rattle.wire.specs.Parts.{part, parts}
use Rattle.wire.proofs.Parts.{part_at, length_part, parts_of}
use Rattle.checksum.specs.Checksum.{step, check_of}
use Rattle.checksum.proofs.Checksums.{joined, Checking, check_turn, check_ended, power_wraps}

-- while five fifths of n bytes are checked side by side
pub record Fifths (s : List ℕ) (n a b c d e i : ℕ) : Type 0 where
  pub long : 5 * n ≤ length s
  pub done : i ≤ n
  pub first : Checking 0 (part n s 0) a i
  pub second : Checking 0 (part n s 1) b i
  pub third : Checking 0 (part n s 2) c i
  pub fourth : Checking 0 (part n s 3) d i
  pub fifth : Checking 0 (part n s 4) e i

-- a byte more of a fifth
fifth_turn : (s : List ℕ) (n k : ℕ) {x y i at : ℕ} → k * n + n ≤ length s → i < n → Checking 0 (part n s k) x i
    → at ≡ k * n + i → y ≡ step x (get_or s at 0) → Checking 0 (part n s k) y (i + 1)
fifth_turn s n k {x} {y} {i} l m h p e =
    check_turn h (omega (arith, length_part n s k l))
    (e ∙ ap (λ (j : ℕ). step x (get_or s j 0)) p ∙ ap (step x) (sym (part_at n s k i m)))

module _ {s : List ℕ} {n a b c d e i : ℕ} (h : Fifths s n a b c d e i) where
  pub fifths_turn : {x y z w v : ℕ} → i < n → x ≡ step a (get_or s i 0) → y ≡ step b (get_or s (n + i) 0)
      → z ≡ step c (get_or s (2 * n + i) 0) → w ≡ step d (get_or s (3 * n + i) 0) → v ≡ step e (get_or s (4 * n + i) 0)
      → Fifths s n x y z w v (i + 1)
  fifths_turn l f g j k m =
      let long = h.long in
      record {
        long = h.long;
        done = omega arith;
        first = fifth_turn s n 0 (omega arith) l h.first (omega arith) f;
        second = fifth_turn s n 1 (omega arith) l h.second (omega arith) g;
        third = fifth_turn s n 2 (omega arith) l h.third refl j;
        fourth = fifth_turn s n 3 (omega arith) l h.fourth refl k;
        fifth = fifth_turn s n 4 (omega arith) l h.fifth refl m;
      }

-- two strings joined, the second of n bytes
join_two : (x y : List ℕ) (n : ℕ) {p q r e : ℕ} → length y ≡ n → p ≡ check_of x → q ≡ check_of y → e ≡ 3 ^ n % 2 ^ 32
    → r ≡ (p * e + q) % 2 ^ 32 → r ≡ check_of (x ++ y)
join_two x y n {p} {q} l f g w e =
    power_wraps p q (3 ^ n) w e
    ∙ (λ i. (f i * 3 ^ n + g i) % 2 ^ 32) ∙ ap (λ (k : ℕ). (check_of x * 3 ^ k + check_of y) % 2 ^ 32) (sym l) ∙ sym (joined x y)

pub fifths_ended : {s : List ℕ} {n a b c d e i p x y z w : ℕ} → Fifths s n a b c d e i → n ≤ i → p ≡ 3 ^ n % 2 ^ 32
    → x ≡ (a * p + b) % 2 ^ 32 → y ≡ (x * p + c) % 2 ^ 32 → z ≡ (y * p + d) % 2 ^ 32 → w ≡ (z * p + e) % 2 ^ 32
    → w ≡ check_of (take (5 * n) s)
unfolding parts check_of
fifths_ended {s} {n} h l u f g j k =
    let q0 = length_part n s 0 (omega (arith, h.long)) in
    let q1 = length_part n s 1 (omega (arith, h.long)) in
    let q2 = length_part n s 2 (omega (arith, h.long)) in
    let q3 = length_part n s 3 (omega (arith, h.long)) in
    let q4 = length_part n s 4 (omega (arith, h.long)) in
    let k0 = check_ended h.first (omega arith) in
    let k1 = check_ended h.second (omega arith) in
    let k2 = check_ended h.third (omega arith) in
    let k3 = check_ended h.fourth (omega arith) in
    let k4 = check_ended h.fifth (omega arith) in
    let two = join_two (part n s 0) (part n s 1) n q1 k0 k1 u f in
    let three = join_two (part n s 0 ++ part n s 1) (part n s 2) n q2 two k2 u g in
    let four = join_two (part n s 0 ++ part n s 1 ++ part n s 2) (part n s 3) n q3 three k3 u j in
    join_two (part n s 0 ++ part n s 1 ++ part n s 2 ++ part n s 3) (part n s 4) n q4 four k4 u k ∙ ap check_of (parts_of n s 5)
