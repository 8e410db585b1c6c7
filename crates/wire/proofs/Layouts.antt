-- Laws of layouts: reading and writing undo each other, once for every list of widths.
use Prim.Native.Nat.{ℕ, zero, suc, ◌+◌, ◌≤◌}
use mathlib.Core.Bool.{Bool, true, false}
use mathlib.Core.List.{List, [], ◌∷◌, ◌++◌, append_assoc}
use mathlib.Core.Path.{◌≡◌, refl, sym, ap, ◌∙◌}
use native.Mathlib.Nat.{zero-add}
use native.Mathlib.Omega.{arith}
use lib.ListN.{length, take, drop, length-append, length-drop}
use lib.Seq.{get_or-drop, drop-drop, drop_at, take-add}
use Rattle.wire.specs.Number.{be_value, Bytes, num_at, be_bytes}
use Rattle.wire.specs.Layout.{width_of, extent, values_at, value_bytes, Fit}
use Rattle.wire.proofs.Numbers.{num_in, length_bytes, value_bytes_law, bytes_value, value_below}

-- an offset has four bytes at least, and eight at most
pub width_within : (b : Bool) → (4 ≤ width_of b) × (width_of b ≤ 8)
unfolding width_of
width_within true = omega arith
width_within false = omega arith

pub length_values : (ws vs : List ℕ) → length (value_bytes ws vs) ≡ extent ws
length_values [] vs = refl
length_values (w ∷ ws) [] = rw (length-append, length_bytes w 0, length_values ws [])
length_values (w ∷ ws) (v ∷ vs) = rw (length-append, length_bytes w v, length_values ws vs)

-- a value is that of the bytes from its place on
pub value_drop : (w : ℕ) (s : List ℕ) (p : ℕ) → be_value w s p ≡ be_value w (drop p s) 0
unfolding be_value
value_drop zero s p = refl
value_drop (suc w) s p = rw (value_drop w s p, ← (get_or-drop p s w 0), zero-add w)

-- the first number of what was written, and the bytes after it
first_written : (w v : ℕ) (x s : List ℕ) (p : ℕ) → p ≤ length s → drop p s ≡ be_bytes w v ++ x
    → (p + w ≤ length s) × (num_at w s p ≡ be_value w (be_bytes w v ++ x) 0) × (drop (p + w) s ≡ x)
first_written w v x s p l e =
    let n = ap length e in
    let m : length (drop p s) ≡ w + length x = n ∙ length-append (be_bytes w v) x ∙ ap (λ (k : ℕ). k + length x) (length_bytes w v) in
    let k = length-drop p s in
    let i : p + w ≤ length s = omega arith in (
      i,
      num_in w s p i ∙ value_drop w s p ∙ ap (λ (u : List ℕ). be_value w u 0) e,
      sym (drop-drop w p s) ∙ ap (drop w) e ∙ drop_at (be_bytes w v) x w (length_bytes w v),
    )

-- what was written is read
pub read_written : (ws vs s : List ℕ) (p : ℕ) (rest : List ℕ) → Fit ws vs → p ≤ length s → drop p s ≡ value_bytes ws vs ++ rest
    → values_at ws s p ≡ vs
read_written [] [] s p rest f l e = refl
read_written [] (v ∷ vs) s p rest f l e = absurd f
read_written (w ∷ ws) [] s p rest f l e = absurd f
read_written (w ∷ ws) (v ∷ vs) s p rest f l e =
    let h = first_written w v (value_bytes ws vs ++ rest) s p l (e ∙ append_assoc (be_bytes w v) (value_bytes ws vs) rest) in
    rw (h.1, value_bytes_law w v (value_bytes ws vs ++ rest) f.0, read_written ws vs s (p + w) rest f.1 h.0 h.2)

-- what was read is written
pub write_read : (ws s : List ℕ) (p : ℕ) → Bytes s → p + extent ws ≤ length s → value_bytes ws (values_at ws s p) ≡ take (extent ws) (drop p s)
write_read [] s p b l = sym refl
write_read (w ∷ ws) s p b l =
    rw (num_in w s p (omega arith), bytes_value w s p b (omega arith), write_read ws s (p + w) b (omega arith), ← (drop-drop w p s))
    (sym (take-add w (extent ws) (drop p s)))

-- what was read fits
pub values_fit : (ws s : List ℕ) (p : ℕ) → Bytes s → p + extent ws ≤ length s → Fit ws (values_at ws s p)
values_fit [] s p b l = tt
values_fit (w ∷ ws) s p b l = (rw (num_in w s p (omega arith)) (value_below w s p b), values_fit ws s (p + w) b (omega arith))
