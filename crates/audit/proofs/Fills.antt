-- The first parts: each without the mark, row by row, and the head is found.
use Prim.Native.Nat.{ℕ, ◌+◌, ◌%◌, ◌<◌, ◌≤◌}
use mathlib.Core.Bool.{Bool, true, false}
use mathlib.Core.List.{List, [], ◌∷◌, ◌++◌, map, append-nil}
use mathlib.Core.Logic.{⊎_elim}
use mathlib.Core.Path.{◌≡◌, refl, sym, ap, ◌∙◌}
use native.Mathlib.Nat.{zero-add}
use native.Mathlib.Numerals.{add-one}
use native.Mathlib.Omega.{arith}
use borrow.Author.Tests.{eq-eqb, ne_eqb}
use lib.Dec.{eqb}
use lib.ListN.{length, take, set, get_or, length-map, length-set, drop_of_length-le, get_or-eq_default}
use lib.Seq.{take-suc, take_all, length-take-le, get_or-set_same, get_or-set_other, ext_get_or}
use Rattle.std.specs.Prelude.{Option, Some, None}
use Rattle.wire.specs.Check.{pick}
use Rattle.wire.specs.Patch.{patch}
use Rattle.wire.proofs.Checks.{below_or}
use Rattle.wire.proofs.Patches.{length_patch, patch_nil, patch_set}
use Rattle.key.specs.Piece.{piece_at}
use Rattle.fileheader.specs.declared.FileHead.{FileHead}
use Rattle.rules.specs.Free.{is_gap}
use Rattle.rules.specs.Turn.{first_part, first_parts}
use Rattle.rules.proofs.Begins.{map_at}
use Rattle.rules.proofs.Items.{same?}
use Rattle.rows.specs.Row.{Rises, RowOf}
use Rattle.waiting.specs.Waiting.{parts_in, Keeps}
use Rattle.waiting.specs.declared.Waiting.{Waiting}
use Rattle.waiting.proofs.Trees.{bare_parts}
use Rattle.waiting.proofs.Keeping.{none_yet}
use Rattle.audit.specs.Listing.{rest_part, rest_parts}

-- while the parts are filled in
pub record Parting (s start t u : List ℕ) (h : FileHead) (i : ℕ) : Type 0 where
  pub within : i ≤ length start
  pub same : length t ≡ length start
  pub table : u ≡ patch t 0 (rest_parts s h (take i start))

pub parts_began : (s start t : List ℕ) (h : FileHead) → length t ≡ length start → Parting s start t t h 0
parts_began s start t h e = record { within = omega arith; same = e; table = sym (patch_nil t 0) }

map_more : (f : ℕ → ℕ) (xs : List ℕ) (a : ℕ) → map f (xs ++ a ∷ []) ≡ map f xs ++ f a ∷ []
map_more f [] a = refl
map_more f (x ∷ xs) a = rw (map_more f xs a)

module _ {s start t u : List ℕ} {h : FileHead} {i : ℕ} (m : Parting s start t u h i) where
  given : length (rest_parts s h (take i start)) ≡ i
  given = rw (length-map (take i start) (rest_part s h), length-take-le i start m.within)

  pub parts_kept : length u ≡ length t
  parts_kept = ap length m.table ∙ length_patch t 0 (rest_parts s h (take i start)) (omega (arith, given, m.within, m.same))

  pub parts_again : {a : ℕ} → i < length start → a ≡ rest_part s h (get_or start i 0) → Parting s start t (set u i a) h (i + 1)
  parts_again {a} l e = record {
    within = omega arith;
    same = m.same;
    table =
        ap (λ (w : List ℕ). set w i a) m.table
        ∙ patch_set t 0 (rest_parts s h (take i start)) i a (omega (arith, given)) (omega (arith, m.same))
        ∙ ap (patch t 0) (rw (add-one, take-suc start i 0 l, e) (sym (map_more (rest_part s h) (take i start) (get_or start i 0))));
  }

  pub parts_ended : length start ≤ i → u ≡ rest_parts s h start
  unfolding patch
  parts_ended l =
      m.table
      ∙ rw (take_all i start l, zero-add, length-map start (rest_part s h), drop_of_length-le t {i = length start} (omega (arith, m.same)), append-nil)

-- only the head has the mark
either : (b : Bool) {x y : ℕ} → x < 8 → y < 8 → pick b x y < 8
either true h g = h
either false h g = g

first_rests : (s : List ℕ) (h : FileHead) (q : ℕ) → (q ≡ 100 → ⊥) → first_part s h q < 8
unfolding first_part
first_rests s h q z =
    rw (ne_eqb q 100 z)
    (either (eqb q h.seekfree) (omega arith)
    (either (eqb q h.seekinfo) (omega arith) (either (is_gap (piece_at s q)) (omega arith) (omega arith))))

first_head : (s : List ℕ) (h : FileHead) (q : ℕ) → q ≡ 100 → first_part s h q ≡ 9
unfolding first_part
first_head s h q e = rw (eq-eqb q 100 e)

-- the row that was sought
pub found_row : (qs : List ℕ) {r : Option ℕ} {i : ℕ} → RowOf qs 100 r → r ≡ Some i → (i < length qs) × (get_or qs i 0 ≡ 100)
found_row qs h e = rw e at h

pub no_found_row : (qs : List ℕ) {r : Option ℕ} → Rises qs → RowOf qs 100 r → r ≡ None → (i : ℕ) → i < length qs → get_or qs i 0 ≡ 100 → ⊥
no_found_row qs up h e = let g : RowOf qs 100 None = rw e at h in g up

module _ (s : List ℕ) (h : FileHead) (qs : List ℕ) where
  first_at : (i : ℕ) → i < length qs → get_or (first_parts s h qs) i 0 ≡ first_part s h (get_or qs i 0)
  first_at i l = map_at (first_part s h) qs i l

  rest_at : (i : ℕ) → i < length qs → get_or (rest_parts s h qs) i 0 ≡ first_part s h (get_or qs i 0) % 8
  rest_at i l = map_at (rest_part s h) qs i l

  size : length (rest_parts s h qs) ≡ length qs
  size = length-map qs (rest_part s h)

  rest_below : (i : ℕ) → get_or (rest_parts s h qs) i 0 < 8
  rest_below i =
      ⊎_elim (λ (l : i < length qs). omega (arith, rest_at i l))
      (λ (l : length qs ≤ i). omega (arith, get_or-eq_default (rest_parts s h qs) 0 {n = i} (omega (arith, size))))
      (below_or i (length qs))

  alone : parts_in (rest_parts s h qs) ≡ rest_parts s h qs
  alone = bare_parts (rest_parts s h qs) rest_below

  -- what is kept before the head is found
  kept_none : {w : Waiting} → w.row ≡ length (rest_parts s h qs) → w.place ≡ 0 → w.number ≡ 0 → Keeps qs (rest_parts s h qs) w
  kept_none e f g = none_yet qs (rest_parts s h qs) rest_below e (omega (arith, size)) f g

  pub none_found : ((i : ℕ) → i < length qs → get_or qs i 0 ≡ 100 → ⊥) → {p : List ℕ} {w : Waiting} → p ≡ rest_parts s h qs
      → w.row ≡ length p → w.place ≡ 0 → w.number ≡ 0 → (parts_in p ≡ first_parts s h qs) × Keeps qs p w
  none_found z {p} {w} e f g n =
      let b = f ∙ ap length e in
      rw e (alone ∙ ext_get_or 0 (rest_parts s h qs) (first_parts s h qs) (size ∙ sym (length-map qs (first_part s h))) same, kept_none b g n)
    where
      same : (i : ℕ) → i < length (rest_parts s h qs) → get_or (rest_parts s h qs) i 0 ≡ get_or (first_parts s h qs) i 0
      same i l =
          let m : i < length qs = omega (arith, size) in
          omega (arith, rest_at i m, first_at i m, first_rests s h (get_or qs i 0) (z i m))

  module _ (up : Rises qs) (row : ℕ) (l : row < length qs) (e : get_or qs row 0 ≡ 100) where
    there : get_or (rest_parts s h qs) row 0 ≡ 1
    there = omega (arith, rest_at row l, first_head s h (get_or qs row 0) e)

    other : (i : ℕ) → i < length qs → (i ≡ row → ⊥) → get_or qs i 0 ≡ 100 → ⊥
    other i m n f =
        ⊎_elim (λ (k : i < row). omega (arith, up i row k l)) (λ (k : row ≤ i). omega (arith, up row i (omega arith) m)) (below_or i row)

    with_mark : set (rest_parts s h qs) row 9 ≡ first_parts s h qs
    with_mark =
        ext_get_or 0 (set (rest_parts s h qs) row 9) (first_parts s h qs)
        (length-set (rest_parts s h qs) row 9 ∙ size ∙ sym (length-map qs (first_part s h))) same
      where
        same : (i : ℕ) → i < length (set (rest_parts s h qs) row 9) → get_or (set (rest_parts s h qs) row 9) i 0 ≡ get_or (first_parts s h qs) i 0
        same i k =
            let m : i < length qs = omega (arith, size, length-set (rest_parts s h qs) row 9) in
            ⊎_elim
            (λ (z : i ≡ row). rw (z, get_or-set_same (rest_parts s h qs) row 9 0 (omega (arith, size)))
            (sym (first_at row l ∙ first_head s h (get_or qs row 0) e)))
            (λ (z : i ≡ row → ⊥).
            omega (arith, get_or-set_other (rest_parts s h qs) row i 9 0 z, rest_at i m, first_at i m, first_rests s h (get_or qs i 0) (other i m z)))
            (same? i row)

    pub head_found : {p us : List ℕ} {w v : Waiting} → p ≡ rest_parts s h qs → w.row ≡ length p → w.place ≡ 0 → w.number ≡ 0
        → parts_in us ≡ set (parts_in p) row (get_or (parts_in p) row 0 % 8 + 8)
        → (Keeps qs p w → row < length p → get_or p row 0 % 16 ≤ 6 → Keeps qs us v) → (parts_in us ≡ first_parts s h qs) × Keeps qs us v
    head_found {p} {us} {w} {v} f i j n m k =
        let a : parts_in p ≡ rest_parts s h qs = ap parts_in f ∙ alone in
        let b : get_or (parts_in p) row 0 ≡ 1 = ap (λ (t : List ℕ). get_or t row 0) a ∙ there in
        let c : get_or p row 0 ≡ 1 = ap (λ (t : List ℕ). get_or t row 0) f ∙ there in
        let d : get_or (parts_in p) row 0 % 8 + 8 ≡ 9 = omega arith in
        let kept : Keeps qs p w = rw (sym f) at (kept_none {w = w} (i ∙ ap length f) j n) in
        (m ∙ (λ y. set (a y) row (d y)) ∙ with_mark, k kept (omega (arith, ap length f, size)) (omega arith))
