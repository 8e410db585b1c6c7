-- Laws of bytes that are cut into parts of one length.
use Prim.Native.Nat.{ℕ, zero, suc, ◌+◌, ◌-◌, ◌*◌, ◌<◌, ◌≤◌}
use mathlib.Core.List.{List, [], ◌∷◌, ◌++◌}
use mathlib.Core.Logic.{⊎_elim}
use mathlib.Core.Path.{◌≡◌, refl, sym, ap, ◌∙◌}
use native.Mathlib.Nat.{mul-le-mul_right, zero-mul, sub-zero}
use native.Mathlib.Omega.{arith}
use lib.ListN.{length, take, drop, get_or, length-append, length-take, length-drop, get_or-eq_default}
use lib.Seq.{take_all, take-nil, take-take, take-add, take-append-le, drop-append-le, drop_at, get_or-take, get_or-drop, length-take-le}
use Rattle.wire.specs.Number.{Bytes}
use Rattle.wire.specs.Parts.{part, parts}
use Rattle.wire.proofs.Checks.{below_or}

-- a part of a front
pub drop_take : (k n : ℕ) (l : List ℕ) → drop k (take n l) ≡ take (n - k) (drop k l)
drop_take zero n l = rw sub-zero refl
drop_take (suc k) zero l = let e : 0 - suc k ≡ 0 = omega arith in rw e refl
drop_take (suc k) (suc n) [] = sym (take-nil (suc n - suc k))
drop_take (suc k) (suc n) (x ∷ l) = let e : suc n - suc k ≡ n - k = omega arith in rw e (drop_take k n l)

pub take_drop_take : (m k n : ℕ) (l : List ℕ) → k + m ≤ n → take m (drop k (take n l)) ≡ take m (drop k l)
take_drop_take m k n l h = ap (take m) (drop_take k n l) ∙ take-take m (n - k) (drop k l) (omega arith)

-- an entry of a part
pub part_at : (n : ℕ) (s : List ℕ) (i j : ℕ) → j < n → get_or (part n s i) j 0 ≡ get_or s (i * n + j) 0
unfolding part
part_at n s i j l = get_or-take n (drop (i * n) s) j 0 l ∙ get_or-drop (i * n) s j 0

pub length_part : (n : ℕ) (s : List ℕ) (i : ℕ) → i * n + n ≤ length s → length (part n s i) ≡ n
unfolding part
length_part n s i h = length-take-le n (drop (i * n) s) (rw length-drop (omega arith))

-- parts that are the same
pub parts_same : (f g : ℕ → List ℕ) (n : ℕ) → ((i : ℕ) → i < n → f i ≡ g i) → parts f n ≡ parts g n
unfolding parts
parts_same f g zero h = refl
parts_same f g (suc n) h = rw (parts_same f g n (λ i l. h i (omega arith)), h n (omega arith))

-- the parts of a list give its front
pub parts_of : (w : ℕ) (s : List ℕ) (n : ℕ) → parts (part w s) n ≡ take (n * w) s
unfolding parts part
parts_of w s zero = rw zero-mul refl
parts_of w s (suc n) =
    let e : n * w + w ≡ suc n * w = omega arith in
    rw (parts_of w s n, ← (take-add (n * w) w s)) (ap (λ (k : ℕ). take k s) e)

module _ (w : ℕ) (f : ℕ → List ℕ) where
  pub length_parts : (n : ℕ) → ((i : ℕ) → i < n → length (f i) ≡ w) → length (parts f n) ≡ n * w
  unfolding parts
  length_parts zero h = sym (zero-mul w)
  length_parts (suc n) h = rw (length-append, length_parts n (λ i l. h i (omega arith)), h n (omega arith)) (omega arith)

  -- and the parts can be taken out again
  pub part_of : (n : ℕ) → ((i : ℕ) → i < n → length (f i) ≡ w) → (i : ℕ) → i < n → part w (parts f n) i ≡ f i
  unfolding parts part
  part_of zero h i l = absurd (omega arith)
  part_of (suc n) h i l = ⊎_elim (λ (m : i < n). early m (part_of n (λ i l. h i (omega arith)) i m)) (λ (m : n ≤ i). last (omega arith)) (below_or i n)
    where
      k : length (parts f n) ≡ n * w
      k = length_parts n (λ i l. h i (omega arith))

      early : i < n → take w (drop (i * w) (parts f n)) ≡ f i → take w (drop (i * w) (parts f n ++ f n)) ≡ f i
      early m e =
          let a : i * w + w ≤ n * w = omega (arith, mul-le-mul_right w m) in
          rw (
            drop-append-le (i * w) (parts f n) (f n) (omega (arith, k)),
            take-append-le w (drop (i * w) (parts f n)) (f n) (rw length-drop (omega (arith, k))),
          )
          e

      last : i ≡ n → take w (drop (i * w) (parts f n ++ f n)) ≡ f i
      last e = rw (e, drop_at (parts f n) (f n) (n * w) k) (take_all w (f n) (omega (arith, h n (omega arith))))

-- a part of bytes is bytes
pub bytes_part : (n p : ℕ) (s : List ℕ) → Bytes s → Bytes (take n (drop p s))
unfolding Bytes
bytes_part n p s b i =
    ⊎_elim
    (λ (l : i < n). rw (get_or-take n (drop p s) i 0 l, get_or-drop p s i 0) (b (p + i)))
    (λ (l : n ≤ i). rw (get_or-eq_default (take n (drop p s)) 0 {n = i} (rw length-take (omega arith))) (omega arith))
    (below_or i n)
