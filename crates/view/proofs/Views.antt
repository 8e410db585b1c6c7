-- The list against the rows of a verdict.
use Prim.Native.Nat.{ℕ, zero, suc, ◌-◌, ◌<◌, ◌≤◌}
use mathlib.Core.List.{List, [], ◌∷◌, ◌++◌}
use mathlib.Core.Logic.{⊎_elim}
use mathlib.Core.Path.{◌≡◌, refl, sym, ap, ◌∙◌}
use native.Mathlib.Omega.{arith}
use lib.ListN.{length, get_or, replicate, length-append, length-replicate, get_or-append}
use lib.Seq.{ext_get_or, get_or-append_seam}
use Rattle.wire.specs.Lent.{Lent, MutLent, MutLentOf, held, before, after}
use Rattle.wire.specs.declared.Answer.{Answer}
use Rattle.wire.proofs.Checks.{below_or}
use Rattle.wire.proofs.Numbers.{lesser_within}
use Rattle.wire.proofs.Patches.{filled_at}
use Rattle.key.specs.Piece.{size_at, piece_at, size_of}
use Rattle.std.specs.Prelude.{Result}
use Rattle.wire.specs.declared.fault.Fault.{Fault}
use Rattle.key.specs.declared.piece.Piece.{Piece}
use Rattle.key.proofs.Pieces.{View, no_size, no_key, a_record, a_gap, view}
use Rattle.table.specs.Table.{filled_with, filled}
use Rattle.rules.specs.Demand.{Demand, Passes}
use Rattle.rules.specs.Free.{Mode, compared}
use Rattle.rules.specs.Order.{Verdict, passed, refused, verdict, number_of, starts_of, parts_of, owners_of}
use Rattle.rules.proofs.Partitions.{above, sized_at}
use Rattle.audit.specs.Tables.{AuditsWithin}
use Rattle.view.specs.View.{no_row, rows, rows_of, row_at, up_to, Views}
use Rattle.view.specs.declared.Row.{Row}
use Rattle.view.proofs.Lists.{size_none, size_some, row_is, length_up_to}

-- a piece has the size that its bytes give
size_is : (s : List ℕ) (p : ℕ) → 0 < size_of (piece_at s p) → size_at s p ≡ size_of (piece_at s p)
size_is s p = go (view s p)
  where
    go : {x : (Result Piece Fault)} → View s p x → 0 < size_of x → size_at s p ≡ size_of x
    go (no_size h) o = absurd (omega arith)
    go (no_key h e) o = absurd (omega arith)
    go (a_record h) o = h.size
    go (a_gap h e) o = refl

up_to_at : (f : ℕ → Row) (m i : ℕ) → i < m → get_or (up_to f m) i no_row ≡ f i
unfolding up_to
up_to_at f zero i l = absurd (omega arith)
up_to_at f (suc m) i l =
    ⊎_elim
    (λ (h : i < m). get_or-append (up_to f m) (f m ∷ []) no_row i (omega (arith, length_up_to f m)) ∙ up_to_at f m i h)
    (λ (h : m ≤ i).
    let e : i ≡ length (up_to f m) = omega (arith, length_up_to f m) in
    let g : i ≡ m = omega arith in
    ap (λ (k : ℕ). get_or (up_to f m ++ f m ∷ []) k no_row) e ∙ get_or-append_seam (up_to f m) (f m) [] no_row ∙ ap f (sym g))
    (below_or i m)

-- rows of pieces that are there
pub record Sized (s qs ps os : List ℕ) : Type 0 where
  pub parts : length ps ≡ length qs
  pub owners : length os ≡ length qs
  pub some : (i : ℕ) → i < length qs → get_or qs i 0 ≡ 0 → ⊥
  pub sized : (i : ℕ) → i < length qs → 0 < size_of (piece_at s (get_or qs i 0))

rest : {s : List ℕ} {q p o : ℕ} {qs ps os : List ℕ} → Sized s (q ∷ qs) (p ∷ ps) (o ∷ os) → Sized s qs ps os
rest h = record {
  parts = omega (arith, h.parts);
  owners = omega (arith, h.owners);
  some = λ i l. h.some (suc i) (omega arith);
  sized = λ i l. h.sized (suc i) (omega arith);
}

count_rows : (s qs ps os : List ℕ) → Sized s qs ps os → length (rows s qs ps os) ≡ length qs
count_rows s [] ps os h = refl
count_rows s (q ∷ qs) [] os h = absurd (omega (arith, h.parts))
count_rows s (q ∷ qs) (p ∷ ps) [] h = absurd (omega (arith, h.owners))
count_rows s (q ∷ qs) (p ∷ ps) (o ∷ os) h = ap suc (count_rows s qs ps os (rest h))

rows_at : (s qs ps os : List ℕ) → Sized s qs ps os → (i : ℕ) → row_at s qs ps os i ≡ get_or (rows s qs ps os) i no_row
unfolding row_at
rows_at s [] [] [] h i = sym (row_is s [] [] [] i refl (size_none s 0 refl) refl refl)
rows_at s [] (p ∷ ps) os h i = absurd (omega (arith, h.parts))
rows_at s [] [] (o ∷ os) h i = absurd (omega (arith, h.owners))
rows_at s (q ∷ qs) [] os h i = absurd (omega (arith, h.parts))
rows_at s (q ∷ qs) (p ∷ ps) [] h i = absurd (omega (arith, h.owners))
rows_at s (q ∷ qs) (p ∷ ps) (o ∷ os) h zero =
    let z = sym (size_is s q (h.sized 0 (omega arith))) ∙ size_some s q (h.some 0 (omega arith)) in
    sym (row_is s (q ∷ qs) (p ∷ ps) (o ∷ os) 0 refl z refl refl)
rows_at s (q ∷ qs) (p ∷ ps) (o ∷ os) h (suc i) = rows_at s qs ps os (rest h) i

rows_filled : (s qs ps os : List ℕ) → Sized s qs ps os → (a b c i : ℕ)
    → row_at s (filled qs a) (filled ps b) (filled os c) i ≡ get_or (rows s qs ps os) i no_row
unfolding row_at
rows_filled s qs ps os h a b c i =
    rw (filled_at 0 qs (a - length qs) i, filled_at 0 ps (b - length ps) i, filled_at 0 os (c - length os) i) (rows_at s qs ps os h i)

-- tables that hold the rows and then zeros are shown so
shows_rows : (s qs ps os : List ℕ) → Sized s qs ps os → (a b c m : ℕ) → length qs ≤ m
    → up_to (row_at s (filled qs a) (filled ps b) (filled os c)) m ≡ filled_with no_row (rows s qs ps os) m
shows_rows s qs ps os h a b c m l =
    ext_get_or no_row (up_to f m) (filled_with no_row (rows s qs ps os) m) (length_up_to f m ∙ sym whole)
    (λ i k.
    up_to_at f m i (omega (arith, length_up_to f m)) ∙ rows_filled s qs ps os h a b c i
    ∙ sym (filled_at no_row (rows s qs ps os) (m - length (rows s qs ps os)) i))
  where
    f : ℕ → Row
    f = row_at s (filled qs a) (filled ps b) (filled os c)

    whole : length (filled_with no_row (rows s qs ps os) m) ≡ m
    whole =
        length-append (rows s qs ps os) (replicate (m - length (rows s qs ps os)) no_row)
        ∙ omega (arith, length-replicate (m - length (rows s qs ps os)) no_row, count_rows s qs ps os h)

pieces : {mode : Mode} {s : List ℕ} {room : ℕ} {qs ps os : List ℕ} → Passes mode s room qs ps os → Sized s qs ps os
pieces {s = s} {qs = qs} k = record {
  parts = k.rules.parts;
  owners = k.rules.owners;
  some = λ i l e. omega (arith, e, above s 100 qs (length s) k.partition.1 i l);
  sized = sized_at s 100 qs (length s) k.partition.1;
}

-- the rows of a verdict, in a list that is no shorter than the room
module _ (s : List ℕ) (room m : ℕ) (l : room ≤ m) (d : Demand compared s room) (a b c : ℕ) where
  told_rows : (v : Verdict) → verdict compared s room ≡ v
      → up_to (row_at s (filled (starts_of v) a) (filled (parts_of v) b) (filled (owners_of v) c)) m ≡ filled_with no_row (rows_of s v) m
  told_rows (refused n p k) e = shows_rows s [] [] [] none a b c m (omega arith)
    where
      none : Sized s [] [] []
      none = record { parts = refl; owners = refl; some = λ i h. absurd (omega arith); sized = λ i h. absurd (omega arith) }
  told_rows (passed qs ps os) e =
      let p = d.sound (ap number_of e) in
      let f = sym p.3 ∙ e in
      let k = p.4 in
      shows_rows s qs ps os (there (ap starts_of f) (ap parts_of f) (ap owners_of f) k) a b c m
      (omega (arith, k.fits, ap (λ (v : Verdict). length (starts_of v)) f))
    where
      there : {us vs ws : List ℕ} → us ≡ qs → vs ≡ ps → ws ≡ os → Passes compared s room us vs ws → Sized s qs ps os
      there x y z k = rw (x, y, z) at (pieces k)

  pub told_list : up_to (row_at s (filled (starts_of (verdict compared s room)) a) (filled (parts_of (verdict compared s room)) b)
      (filled (owners_of (verdict compared s room)) c)) m ≡ filled_with no_row (rows_of s (verdict compared s room)) m
  told_list = told_rows (verdict compared s room) refl

-- what the audit and the list promise together
pub views : {file : Lent} {start part owner : MutLent} {list : MutLentOf Row} {r : Answer} → AuditsWithin compared (length (before list)) file start part owner r
    → after list ≡ up_to (row_at (held file) (after start) (after part) (after owner)) (length (before list))
    → Views file start part owner list r
views {file} {list = list} k e = record {
  audits = k;
  shown = e
      ∙ rw (k.starts, k.parts, k.owners)
      (told_list (held file) _ (length (before list)) (lesser_within (length (before list)) _).0 k.demand _ _ _);
  same = e;
}
