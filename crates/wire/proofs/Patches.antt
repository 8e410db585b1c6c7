-- Laws of `patch`: bytes written over a part of a buffer, those before and after them; and of a list that ends with one thing repeated.
use Prim.Native.Nat.{ℕ, zero, suc, ◌+◌, ◌-◌, ◌<◌, ◌≤◌}
use mathlib.Core.List.{List, [], ◌∷◌, ◌++◌, append_assoc, append-nil}
use mathlib.Core.Path.{◌≡◌, refl, sym, ap, ◌∙◌}
use native.Mathlib.Nat.{zero-add, add-zero, add_assoc}
use native.Mathlib.Numerals.{add-one}
use native.Mathlib.Omega.{arith}
use lib.ListN.{length, get_or, take, drop, set, replicate, length-append, length-take, length-drop, drop_of_length-le, take-append-drop, get_or-append}
use lib.Seq.{take_all, take_at, drop_at, drop-drop, drop-append_seam, get_or-take, get_or-drop, set_split, length-take-le}
use borrow.Rule.Slice.PartMut.{mid_of, put_mid}
use Rattle.wire.specs.Agree.{Agree}
use Rattle.wire.specs.Patch.{patch}

-- what was written at the front of the part from at on was written into the whole at at
pub patch_part : (b ys x : List ℕ) (at : ℕ) → at + length x ≤ length b
    → ys ≡ patch (mid_of at (length b - at) b) 0 x → put_mid at (length b - at) b ys ≡ patch b at x
unfolding patch
patch_part b ys x at l h =
    let k : length (drop at b) ≤ length b - at = rw length-drop (omega arith) in
    rw (h, take_all (length b - at) (drop at b) k, drop_of_length-le (drop at b) k, append-nil, zero-add, drop-drop)

module _ (b : List ℕ) (at : ℕ) (x : List ℕ) (l : at + length x ≤ length b) where
  head_length : length (take at b ++ x) ≡ at + length x
  head_length = rw (length-append, length-take-le at b (omega arith))

  whole : patch b at x ≡ (take at b ++ x) ++ drop (at + length x) b
  unfolding patch
  whole = simp append_assoc

  pub length_patch : length (patch b at x) ≡ length b
  unfolding patch
  length_patch = simp (length-append, length-take, length-drop) (omega arith)

  front : take (at + length x) (patch b at x) ≡ take at b ++ x
  front = rw whole (take_at (take at b ++ x) _ (at + length x) head_length)

  back : drop (at + length x) (patch b at x) ≡ drop (at + length x) b
  back = rw whole (drop_at (take at b ++ x) _ (at + length x) head_length)

  -- from at on stand the bytes written, then what followed
  pub drop_patch : drop at (patch b at x) ≡ x ++ drop (at + length x) b
  unfolding patch
  drop_patch = drop_at (take at b) _ at (length-take-le at b (omega arith))

over_front : (b w : List ℕ) (at : ℕ) (x y : List ℕ) → take (at + length x) w ≡ take at b ++ x
    → drop (at + length x) w ≡ drop (at + length x) b → patch w (at + length x) y ≡ patch b at (x ++ y)
unfolding patch
over_front b w at x y f d =
    rw (f, ← (drop-drop (length y) (at + length x) w), d) (simp (drop-drop, length-append, append_assoc, add_assoc))

-- one write after another
pub patch_patch : (b : List ℕ) (at : ℕ) (x y : List ℕ) → at + length x ≤ length b
    → patch (patch b at x) (at + length x) y ≡ patch b at (x ++ y)
patch_patch b at x y l = over_front b (patch b at x) at x y (front b at x l) (back b at x l)

-- w is b with x written from at on, and v is w with y written after that
pub patch_then : (b : List ℕ) (at : ℕ) (x y : List ℕ) {w v : List ℕ} → w ≡ patch b at x → v ≡ patch w (at + length x) y
    → at + length x ≤ length b → v ≡ patch b at (x ++ y)
patch_then b at x y p q l = q ∙ ap (λ (u : List ℕ). patch u (at + length x) y) p ∙ patch_patch b at x y l

set_patch : (b : List ℕ) (i a : ℕ) → i < length b → set b i a ≡ patch b i (a ∷ [])
unfolding patch
set_patch b i a l = rw (set_split b i a l, add-one)

pub patch_nil : (b : List ℕ) (at : ℕ) → patch b at [] ≡ b
unfolding patch
patch_nil b at = rw (add-zero, take-append-drop)

-- one byte after those written already
pub patch_set : (b : List ℕ) (at : ℕ) (x : List ℕ) (i a : ℕ) → i ≡ at + length x → i < length b
    → set (patch b at x) i a ≡ patch b at (x ++ a ∷ [])
patch_set b at x i a h l =
    let k : at + length x ≤ length b = omega arith in
    rw h (set_patch (patch b at x) (at + length x) a (omega (arith, length_patch b at x k)) ∙ patch_patch b at x (a ∷ []) k)

-- w is b with x written from at on; the part from k on, where x ends, was lent, and came back with y at its front
pub part_then : (b : List ℕ) (at : ℕ) (x y : List ℕ) (k : ℕ) {w ys : List ℕ} → w ≡ patch b at x → k ≡ at + length x
    → k + length y ≤ length b → ys ≡ patch (mid_of k (length w - k) w) 0 y → put_mid k (length w - k) w ys ≡ patch b at (x ++ y)
part_then b at x y k {w} {ys} p e l h =
    let m : length w ≡ length b = ap length p ∙ length_patch b at x (omega arith) in
    patch_then b at x y p (patch_part w ys y k (omega arith) h ∙ ap (λ (i : ℕ). patch w i y) e) (omega arith)

-- an entry, where the same is told past the end
pub repeated_at : {A : Type 0} (d : A) (n i : ℕ) → get_or (replicate n d) i d ≡ d
repeated_at d zero i = refl
repeated_at d (suc n) zero = refl
repeated_at d (suc n) (suc i) = repeated_at d n i

pub filled_at : {A : Type 0} (d : A) (xs : List A) (k i : ℕ) → get_or (xs ++ replicate k d) i d ≡ get_or xs i d
filled_at d [] k i = repeated_at d k i
filled_at d (x ∷ xs) k zero = refl
filled_at d (x ∷ xs) k (suc i) = filled_at d xs k i

-- bytes before and after those that are written
module _ (b : List ℕ) (at : ℕ) (x : List ℕ) (l : at + length x ≤ length b) where
  pub patch_before : Agree b (patch b at x) 0 at
  unfolding patch
  patch_before = record {
    left = omega arith;
    right = omega (arith, length_patch b at x l);
    same = λ i m n. sym (get_or-append (take at b) (x ++ drop (at + length x) b) 0 i (rw (length-take-le at b (omega arith)) n) ∙ get_or-take at b i 0 n);
  }

  drop_after : drop (at + length x) (patch b at x) ≡ drop (at + length x) b
  drop_after =
      sym (drop-drop (length x) at (patch b at x)) ∙ ap (drop (length x)) (drop_patch b at x l)
      ∙ drop-append_seam x (drop (at + length x) b)

  pub patch_after : Agree b (patch b at x) (at + length x) (length b)
  patch_after = record {
    left = omega arith;
    right = omega (arith, length_patch b at x l);
    same = λ i m n.
        let j : at + length x + (i - (at + length x)) ≡ i = omega arith in
        let f = get_or-drop (at + length x) b (i - (at + length x)) 0 in
        let g = get_or-drop (at + length x) (patch b at x) (i - (at + length x)) 0 in
        rw j at (sym f ∙ ap (λ (y : List ℕ). get_or y (i - (at + length x)) 0) (sym drop_after) ∙ g);
  }
