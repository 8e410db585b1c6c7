-- Key headers and pieces of bytes that agree.
use Prim.Native.Nat.{ℕ, ◌+◌, ◌≤◌, ◌<◌}
use mathlib.Core.List.{List}
use mathlib.Core.Logic.{⊎_elim}
use mathlib.Core.Path.{◌≡◌, refl, sym, ap, ◌∙◌, subst}
use native.Mathlib.Omega.{arith}
use lib.Dec.{ltb}
use lib.ListN.{length}
use Rattle.wire.specs.Agree.{Agree}
use Rattle.wire.specs.Check.{All}
use Rattle.wire.specs.Layout.{values_at, offset_width}
use Rattle.wire.specs.Number.{num_at}
use Rattle.wire.proofs.Agrees.{num_same, values_same, text_kept}
use Rattle.wire.proofs.Checks.{below_or}
use Rattle.wire.proofs.Layouts.{width_within}
use Rattle.key.specs.Header.{key_layout, fixed_part, width_at, key_from, key_at, sum_of, header_in}
use Rattle.key.specs.Piece.{size_at, sized, piece_at, size_of}
use Rattle.key.specs.declared.header.Key.{Key}
use Rattle.std.specs.Prelude.{Some}
use Rattle.std.specs.Prelude.{Result, Ok, Err}
use Rattle.wire.specs.declared.fault.Fault.{Fault}
use Rattle.key.specs.declared.piece.Piece.{Piece}
use Rattle.key.specs.declared.piece.Piece.TheVariants.{Record, Gap}
use Rattle.key.proofs.Headers.{Formed, Strings, names_of, good, strings, placed}
use Rattle.key.proofs.Names.{all_names}
use Rattle.key.proofs.Pieces.{View, a_gap, view, size_plus, from_record, from_gap, record_there_law, gap_there, no_gap}

module _ {s t : List ℕ} (p end : ℕ) {k : Key} (f : Formed s p end k) {a b : ℕ} (h : Agree s t a b) (l : a ≤ p) (m : p + sum_of k ≤ b) where
  -- where its strings end
  ends : (p + fixed_part (width_at s p) < k.class.next) × ((k.class.next < k.name.next) × (k.name.next < k.title.next))
  ends =
      let c = f.strings.class in
      let n = f.strings.name in
      let d = f.strings.title in
      (omega (arith, c.start, c.content), (omega (arith, n.start, n.content), omega (arith, d.start, d.content)))

  -- the numbers of a key
  width_same : width_at s p ≡ width_at t p
  width_same =
      let w = width_within (ltb 1000 (num_at 2 s (p + 4))) in
      ap offset_width (num_same 2 (p + 4) h (omega arith) (omega (arith, f.sum, ends)))

  key_same : key_at s p (names_of k) ≡ key_at t p (names_of k)
  unfolding key_at
  key_same =
      ap (λ (v : List ℕ). key_from v (names_of k)) (values_same (key_layout (width_at s p)) p h l (omega (arith, f.sum, ends)))
      ∙ ap (λ (w : ℕ). key_from (values_at (key_layout w) t p) (names_of k)) width_same

  -- a header that was read is read, within any end
  module _ (end' : ℕ) (i : p + sum_of k ≤ end') (r : end' ≤ length t) where
    strings_same : Strings t p end' (names_of k)
    strings_same =
        let c = f.strings.class in
        let n = f.strings.name in
        let d = f.strings.title in
        strings t p end' (ap (λ (w : ℕ). p + fixed_part w) width_same)
        (all_names t (p + fixed_part (width_at s p)) end'
        (text_kept (p + fixed_part (width_at s p)) end c h (omega arith) (omega (arith, f.sum, ends)) end' (omega (arith, f.sum, ends)) r)
        (text_kept k.class.next end n h (omega (arith, ends)) (omega (arith, f.sum, ends)) end' (omega (arith, f.sum, ends)) r)
        (text_kept k.name.next end d h (omega (arith, ends)) (omega (arith, f.sum, ends)) end' (omega (arith, f.sum, ends)) r))

    header_kept : Some k ≡ header_in t p end'
    header_kept = good t p end' strings_same (f.is ∙ key_same) f.fits

module _ (s : List ℕ) (p : ℕ) where
  gap_size : {n : ℕ} → View s p (Ok (Gap n)) → n ≡ size_at s p
  gap_size (a_gap h i) = refl

  size_there : {n : ℕ} → piece_at s p ≡ Ok (Gap n) → n ≡ size_at s p
  size_there e = gap_size (subst (View s p) e (view s p))

  -- the size of a record stands in its first four bytes
  nbytes_there : {k : Key} → piece_at s p ≡ Ok (Record k) → k.nbytes ≡ num_at 4 s p
  unfolding key_at
  nbytes_there {k} e =
      let f = (from_record s p e).header in
      ap (λ (l : Key). l.nbytes) f.is ∙ (placed (width_at s p) s p (names_of k)).nbytes

  size_is : (t : List ℕ) → num_at 4 s p ≡ num_at 4 t p → size_at s p ≡ size_at t p
  unfolding size_at
  size_is t e = rw e

module _ {s t : List ℕ} (p : ℕ) where
  -- a record, of which the bytes of its key's sum agree
  record_same : {k : Key} → piece_at s p ≡ Ok (Record k) → {a b : ℕ} → Agree s t a b → a ≤ p → p + sum_of k ≤ b → p + k.nbytes ≤ length t
      → piece_at t p ≡ Ok (Record k)
  record_same {k} e h l m r =
      let x = from_record s p e in
      let f = x.header in
      let w = width_within (ltb 1000 k.version) in
      let n : k.nbytes ≡ num_at 4 t p = nbytes_there s p e ∙ num_same 4 p h l (omega arith) in
      let low : num_at 4 t p < 2147483648 = omega (arith, f.fits) in
      let z = size_plus t p low in
      let c : All (sized t p) = (omega (arith, x.size, x.sized_there), (omega arith, tt)) in
      sym (record_there_law t p (record { is = n; low = omega (arith, n, low); fits = c })
      (header_kept p (p + size_at s p) f h l m (p + k.nbytes) (omega (arith, f.fits)) r) x.place).0

  -- a gap, of which the first four bytes agree
  gap_same : {n : ℕ} → piece_at s p ≡ Ok (Gap n) → {a b : ℕ} → Agree s t a b → a ≤ p → p + 4 ≤ b → p + n ≤ length t → piece_at t p ≡ Ok (Gap n)
  gap_same {n} e h l m r =
      let g = from_gap s p e in
      let i = num_same 4 p h l m in
      let z = size_there s p e in
      ⊎_elim
      (λ (x : num_at 4 s p < 2147483648). absurd (no_gap s p x e))
      (λ (x : 2147483648 ≤ num_at 4 s p).
      let y : size_at s p ≡ size_at t p = size_is s p t i in
      sym (gap_there t p (omega arith) (omega arith, (omega arith, tt)) (z ∙ y)).0)
      (below_or (num_at 4 s p) 2147483648)

  -- a piece, of which all bytes agree
  pub piece_same : 0 < size_of (piece_at s p) → Agree s t p (p + size_of (piece_at s p)) → piece_at t p ≡ piece_at s p
  piece_same l g = go (piece_at s p) refl l g
    where
      go : (x : Result Piece Fault) → piece_at s p ≡ x → 0 < size_of x → Agree s t p (p + size_of x) → piece_at t p ≡ piece_at s p
      go (Ok (Record k)) e l g =
          let f = (from_record s p e).header in
          record_same e g (omega arith) (omega (arith, f.fits)) g.right ∙ sym e
      go (Ok (Gap n)) e l g = gap_same e g (omega arith) (omega (arith, from_gap s p e)) g.right ∙ sym e
      go (Err f) e l g = absurd (omega arith)
