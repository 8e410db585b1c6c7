-- Rows written one after the other.
use Prim.Native.Nat.{ℕ, zero, suc, ◌+◌, ◌-◌, ◌*◌, ◌/◌, ◌<◌, ◌≤◌}
use mathlib.Core.List.{List, [], ◌∷◌, ◌++◌}
use mathlib.Core.Path.{◌≡◌, sym, ◌∙◌}
use native.Mathlib.Nat.{add-zero, zero-add}
use native.Mathlib.Omega.{arith}
use borrow.Author.Tests.{le-leb, lt-leb}
use borrow.Rule.Slice.PartMut.{put_mid}
use lib.Dec.{leb}
use lib.Seq.{drop-drop}
use lib.ListN.{length, drop, replicate, length-replicate}
use Rattle.wire.specs.Check.{pick}
use Rattle.wire.specs.Patch.{patch}
use Rattle.wire.proofs.Patches.{length_patch, patch_nil, patch_patch}
use Rattle.table.specs.Table.{filled}
use Rattle.inforow.specs.Row.{six, flat, put_row, put_rows}
use Rattle.inforow.specs.declared.Row.{Row}

-- one row
pub no_room : (t : List ℕ) (n : ℕ) (r : Row) → length t / 6 ≤ n → t ≡ put_row t n r
unfolding put_row
no_room t n r h = rw (lt-leb (n * 6 + 6) (length t) (omega arith))

pub row_put : (t ys : List ℕ) (n : ℕ) (r : Row) → n < length t / 6 → ys ≡ six r
    → put_mid (n * 6) (n * 6 + 6 - n * 6) t ys ≡ put_row t n r
unfolding put_row patch
row_put t ys n r h e =
    let k : n * 6 + 6 - n * 6 ≡ 6 = omega arith in
    rw (le-leb (n * 6 + 6) (length t) (omega arith), e, k, drop-drop)

-- rows
pub more_rows : (t : List ℕ) (n : ℕ) (rs ss : List Row) → put_rows (put_rows t n rs) (n + length rs) ss ≡ put_rows t n (rs ++ ss)
unfolding put_rows
more_rows t n [] ss = rw add-zero
more_rows t n (r ∷ rs) ss =
    let e : n + suc (length rs) ≡ suc n + length rs = omega arith in
    rw e (more_rows (put_row t n r) (suc n) rs ss)

-- rows that fit stand at the front
rows_front : (t : List ℕ) (n : ℕ) (rs : List Row) → (n + length rs) * 6 ≤ length t → put_rows t n rs ≡ patch t (n * 6) (flat rs)
unfolding put_rows flat put_row
rows_front t n [] h = sym (patch_nil t (n * 6))
rows_front t n (r ∷ rs) h =
    let e : pick (leb (n * 6 + 6) (length t)) (patch t (n * 6) (six r)) t ≡ patch t (n * 6) (six r) =
    rw (le-leb (n * 6 + 6) (length t) (omega arith)) in
    let l = length_patch t (n * 6) (six r) (omega arith) in
    let m : suc n * 6 ≡ n * 6 + 6 = omega arith in
    rw e
    (rows_front (patch t (n * 6) (six r)) (suc n) rs (omega arith)
    ∙ rw m (patch_patch t (n * 6) (six r) (flat rs) (omega arith)))

-- and the rest of a cleared table is 0
drop_zeros : (n k : ℕ) → drop k (replicate {A = ℕ} n 0) ≡ replicate (n - k) 0
drop_zeros n zero = let e : n - 0 ≡ n = omega arith in rw e
drop_zeros zero (suc k) = let e : 0 - suc k ≡ 0 = omega arith in rw e
drop_zeros (suc n) (suc k) = let e : suc n - suc k ≡ n - k = omega arith in rw e (drop_zeros n k)

pub all_rows : (n : ℕ) (rs : List Row) → length rs ≤ n / 6 → put_rows (filled [] n) 0 rs ≡ filled (flat rs) n
unfolding patch
all_rows n rs h =
    let z : n - 0 ≡ n = omega arith in
    let e = length-replicate {A = ℕ} n 0 in
    rw z (rows_front (replicate n 0) 0 rs (omega arith) ∙ rw (zero-add, drop_zeros))
