-- What is kept beside the tables: laws of the number, and what giving and settling keep.
use Prim.Native.Nat.{ℕ, zero, suc, ◌+◌, ◌-◌, ◌*◌, ◌/◌, ◌%◌, ◌≤◌, ◌<◌, min}
use mathlib.Core.List.{List, [], ◌∷◌}
use mathlib.Core.Logic.{⊎_elim}
use mathlib.Core.Path.{◌≡◌, refl, sym, ap, ◌∙◌}
use native.Mathlib.Omega.{arith}
use lib.ListN.{length, get_or, set, length-set, get_or-eq_default}
use lib.Seq.{get_or-set_same, get_or-set_other}
use borrow.Author.Tests.{le-leb, lt-leb}
use Rattle.wire.proofs.Checks.{below_or}
use Rattle.rules.specs.Turn.{next_row}
use Rattle.rules.proofs.Items.{same?}
use Rattle.rules.proofs.Rows.{next_row_law, next_row_none}
use Rattle.waiting.specs.Waiting.{parts_in, waits, waiting_number, node, Tree, Keeps}
use Rattle.waiting.specs.declared.Waiting.{Waiting}
use Rattle.waiting.proofs.Trees.{part_at, parts_size, parts_set, row_changed, row_rests, top, clean, bare_tree}

-- a part that is put into an entry, and the tree mended above it
module _ (p : List ℕ) (row new x : ℕ) (l : row < length p) (f : new < 16) (e : x ≡ get_or p row 0 / 16 * 16 + new) where
  pub parts_put : parts_in (set p row x) ≡ set (parts_in p) row new
  parts_put = let d : x % 16 ≡ new = omega arith in parts_set p row x ∙ ap (set (parts_in p) row) d

  pub put_mended : {q : List ℕ} → (parts_in q ≡ parts_in (set p row x)) × (Tree (set p row x) ((length (set p row x) + row) / 2) → Tree q 0)
      → (parts_in q ≡ set (parts_in p) row new) × (Tree p 0 → Tree q 0)
  put_mended h = (h.0 ∙ parts_put, λ t. h.1 (rw (length-set p row x) (row_changed p row x l (omega arith) t)))

-- how many wait
waits_yes : (k : ℕ) → 8 ≤ k → waits k ≡ 1
unfolding waits
waits_yes k h = rw (le-leb 8 k h)

waits_no : (k : ℕ) → k < 8 → waits k ≡ 0
unfolding waits
waits_no k h = rw (lt-leb 8 k h)

waits_most : (k : ℕ) → waits k ≤ 1
waits_most k = ⊎_elim (λ (h : k < 8). omega (arith, waits_no k h)) (λ (h : 8 ≤ k). omega (arith, waits_yes k h)) (below_or k 8)

number_set : (ks : List ℕ) (i m : ℕ) → i < length ks → waiting_number (set ks i m) + waits (get_or ks i 0) ≡ waiting_number ks + waits m
unfolding waiting_number
number_set [] i m l = absurd (omega arith)
number_set (k ∷ ks) zero m l = omega arith
number_set (k ∷ ks) (suc i) m l = omega (arith, number_set ks i m (omega arith))

number_most : (ks : List ℕ) → waiting_number ks ≤ length ks
unfolding waiting_number
number_most [] = omega arith
number_most (k ∷ ks) = omega (arith, waits_most k, number_most ks)

number_room : (ks : List ℕ) (i : ℕ) → i < length ks → get_or ks i 0 < 8 → waiting_number ks < length ks
unfolding waiting_number
number_room [] i l h = absurd (omega arith)
number_room (k ∷ ks) zero l h = omega (arith, waits_no k h, number_most ks)
number_room (k ∷ ks) (suc i) l h = omega (arith, waits_most k, number_room ks i (omega arith) h)

number_holds : (ks : List ℕ) (i : ℕ) → i < length ks → 8 ≤ get_or ks i 0 → 0 < waiting_number ks
unfolding waiting_number
number_holds [] i l h = absurd (omega arith)
number_holds (k ∷ ks) zero l h = omega (arith, waits_yes k h)
number_holds (k ∷ ks) (suc i) l h = omega (arith, number_holds ks i (omega arith) h)

number_rests : (ks : List ℕ) → ((i : ℕ) → i < length ks → get_or ks i 0 < 8) → waiting_number ks ≡ 0
unfolding waiting_number
number_rests [] h = refl
number_rests (k ∷ ks) h = omega (arith, waits_no k (h 0 (omega arith)), number_rests ks (λ i l. h (suc i) (omega arith)))

number_none : (ks : List ℕ) → waiting_number ks ≡ 0 → (i : ℕ) → i < length ks → get_or ks i 0 < 8
unfolding waiting_number
number_none [] e i l = absurd (omega arith)
number_none (k ∷ ks) e zero l =
    ⊎_elim (λ (h : k < 8). h) (λ (h : 8 ≤ k). absurd (omega (arith, waits_yes k h))) (below_or k 8)
number_none (k ∷ ks) e (suc i) l = number_none ks (omega arith) i (omega arith)

-- the lowest, where a row that rests is given a part that rests
next_set : (ks : List ℕ) (i m : ℕ) → get_or ks i 0 < 8 → m < 8 → next_row (set ks i m) ≡ next_row ks
unfolding next_row
next_set [] i m h g = refl
next_set (k ∷ ks) zero m h g = rw (lt-leb 8 m g, lt-leb 8 k h)
next_set (k ∷ ks) (suc i) m h g = rw (next_set ks i m h g)

-- what is kept tells which comes next, and when none is left
module _ {qs p : List ℕ} {w : Waiting} (k : Keeps qs p w) where
  pub none_waits : w.number ≡ 0 → next_row (parts_in p) ≡ length (parts_in p)
  none_waits e = next_row_none (parts_in p) (number_none (parts_in p) (sym k.number ∙ e))

  pub over : w.number ≡ 0 → parts_in p ≡ p
  over e = clean p k.tree (λ r l. rw (part_at p r) at (number_none (parts_in p) (sym k.number ∙ e) r (omega (arith, parts_size p))))

  pub one_waits : 0 < w.number → (w.row < length p) × (8 ≤ get_or p w.row 0 % 16)
  one_waits o =
      let n = next_row_law (parts_in p) in
      let l : next_row (parts_in p) < length (parts_in p) =
      ⊎_elim (λ (h : next_row (parts_in p) < length (parts_in p)). h)
      (λ (h : length (parts_in p) ≤ next_row (parts_in p)).
      absurd (omega (arith, k.number, number_rests (parts_in p) (λ i m. n.before i (omega arith)))))
      (below_or (next_row (parts_in p)) (length (parts_in p))) in
      (omega (arith, k.row, parts_size p), rw (k.row, ← (part_at p (next_row (parts_in p)))) (n.found l))

-- a row that is given another part
module _ {qs p : List ℕ} {w : Waiting} (k : Keeps qs p w) (q : List ℕ) (row new : ℕ) (l : row < length p) (m : new ≤ 14)
    (e : parts_in q ≡ set (parts_in p) row new) where
  within : (i : ℕ) → get_or q i 0 % 16 ≤ 14
  within i =
      rw (sym (part_at q i) ∙ ap (λ (ks : List ℕ). get_or ks i 0) e)
      (⊎_elim
      (λ (z : i ≡ row). rw (z, get_or-set_same (parts_in p) row new 0 (omega (arith, parts_size p))) m)
      (λ (z : i ≡ row → ⊥). rw (get_or-set_other (parts_in p) row i new 0 z, part_at p i) (k.parts i))
      (same? i row))

  pub changed : Tree q 0 → {r : Waiting} {number : ℕ}
      → (r.number ≡ number) × (r.row ≡ length q - node q 1) × (r.place ≡ get_or qs r.row 0)
      → number + waits (get_or p row 0 % 16) ≡ w.number + waits new → Keeps qs q r
  changed t {r} h n =
      let y = h.1 ∙ top q t in
      let z = rw (part_at p row) at (number_set (parts_in p) row new (omega (arith, parts_size p))) in
      record {
        tree = t;
        parts = within;
        row = y;
        place = h.2 ∙ ap (λ (i : ℕ). get_or qs i 0) y;
        number = omega (arith, h.0, n, z, k.number, ap waiting_number e);
      }

  pub rested : Tree q 0 → get_or p row 0 % 16 < 8 → new < 8 → Keeps qs q w
  rested t h g =
      let y = next_set (parts_in p) row new (rw (part_at p row) h) g in
      let z = rw (part_at p row) at (number_set (parts_in p) row new (omega (arith, parts_size p))) in
      let x : next_row (parts_in q) ≡ next_row (parts_in p) = ap next_row e ∙ y in
      record {
        tree = t;
        parts = within;
        row = k.row ∙ sym x;
        place = k.place ∙ ap (λ (i : ℕ). get_or qs i 0) (sym x);
        number = omega (arith, z, k.number, ap waiting_number e, waits_no (get_or p row 0 % 16) h, waits_no new g);
      }

-- giving
pub give_kept : {qs p : List ℕ} {w : Waiting} (row new x : ℕ) → Keeps qs p w → (l : row < length p) → (h : get_or p row 0 % 16 < 8)
    → x ≡ get_or p row 0 / 16 * 16 + new % 8 → Keeps qs (set p row x) w
give_kept {qs} {p} {w} row new x k l h e =
    rested k (set p row x) row (new % 8) l (omega arith) (parts_put p row (new % 8) x l (omega arith) e)
    (row_rests p row x l (omega arith) (omega arith) h k.tree) h (omega arith)

-- a directory that is found
pub found_kept : {qs p : List ℕ} {w : Waiting} (row : ℕ) → Keeps qs p w → (l : row < length p) → (h : get_or p row 0 % 16 ≤ 6) → (q : List ℕ)
    → (parts_in q ≡ set (parts_in p) row (get_or p row 0 % 8 + 8)) × (Tree p 0 → Tree q 0) → {r : Waiting} {number : ℕ}
    → number ≡ min w.number (length p - 1) + 1
    → (r.number ≡ number) × (r.row ≡ length q - node q 1) × (r.place ≡ get_or qs r.row 0) → Keeps qs q r
found_kept {qs} {p} {w} row k l h q f n j =
    let y = number_room (parts_in p) row (omega (arith, parts_size p)) (omega (arith, part_at p row)) in
    let z = parts_size p in
    changed k q row (get_or p row 0 % 8 + 8) l (omega arith) f.0 (f.1 k.tree) j
    (omega (arith, waits_yes (get_or p row 0 % 8 + 8) (omega arith), waits_no (get_or p row 0 % 16) (omega arith)))

-- settling
module _ {qs p : List ℕ} {w : Waiting} (k : Keeps qs p w) (row : ℕ) (l : row < length p) (h : 8 ≤ get_or p row 0 % 16) where
  pub settle_kept : (q : List ℕ) → (parts_in q ≡ set (parts_in p) row (get_or p row 0 % 8)) × (Tree p 0 → Tree q 0)
      → {r : Waiting} {number : ℕ} → number ≡ w.number - 1
      → (r.number ≡ number) × (r.row ≡ length q - node q 1) × (r.place ≡ get_or qs r.row 0) → Keeps qs q r
  settle_kept q f n j =
      let y = number_holds (parts_in p) row (omega (arith, parts_size p)) (rw (part_at p row) h) in
      changed k q row (get_or p row 0 % 8) l (omega arith) f.0 (f.1 k.tree) j
      (omega (arith, n, y, k.number, waits_no (get_or p row 0 % 8) (omega arith), waits_yes (get_or p row 0 % 16) h))

pub settled_part : (p : List ℕ) (row : ℕ) → get_or p row 0 % 8 ≡ get_or (parts_in p) row 0 % 8
settled_part p row = rw (part_at p row) (omega arith)

-- before any directory is found
pub none_yet : (qs p : List ℕ) {w : Waiting} → ((i : ℕ) → get_or p i 0 < 8) → w.row ≡ length p → length qs ≤ length p → w.place ≡ 0
    → w.number ≡ 0 → Keeps qs p w
none_yet qs p {w} h e l f g =
    let x : next_row (parts_in p) ≡ length p = next_row_none (parts_in p) small ∙ parts_size p in
    record {
      tree = bare_tree p h;
      parts = λ i. omega (arith, h i);
      row = e ∙ sym x;
      place = f ∙ sym (ap (λ (i : ℕ). get_or qs i 0) x ∙ get_or-eq_default qs 0 l);
      number = g ∙ sym (number_rests (parts_in p) small);
    }
  where
    small : (i : ℕ) → i < length (parts_in p) → get_or (parts_in p) i 0 < 8
    small i m = omega (arith, part_at p i, h i)
