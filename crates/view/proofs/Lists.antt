-- Laws of the list: while it is filled, and as a whole.
use Prim.Native.Nat.{ℕ, zero, suc, ◌+◌, ◌-◌, ◌<◌, ◌≤◌}
use mathlib.Core.List.{List, [], ◌∷◌, ◌++◌, append-nil, append_assoc}
use mathlib.Core.Path.{◌≡◌, refl, sym, ap, ◌∙◌}
use native.Mathlib.Numerals.{add-one}
use native.Mathlib.Omega.{arith}
use lib.ListN.{length, get_or, set, drop, length-append, length-drop}
use lib.Seq.{set_at, drop-cons, drop-length}
use borrow.Author.Tests.{eq-eqb, ne_eqb}
use Rattle.wire.specs.Number.{num_at}
use Rattle.key.specs.Piece.{size_at}
use Rattle.key.proofs.Pieces.{size_plus, size_minus}
use Rattle.view.specs.View.{no_row, size_in, row_at, up_to}
use Rattle.view.specs.declared.Row.{Row}

-- the size at a place
module _ (s : List ℕ) (q : ℕ) where
  pub size_none : q ≡ 0 → 0 ≡ size_in s q
  unfolding size_in
  size_none e = rw (eq-eqb q 0 e)

  pub size_some : (q ≡ 0 → ⊥) → size_at s q ≡ size_in s q
  unfolding size_in
  size_some z = rw (ne_eqb q 0 z)

  pub size_record : (q ≡ 0 → ⊥) → {n : ℕ} → n ≡ num_at 4 s q → n < 2147483648 → n ≡ size_in s q
  size_record z e l = e ∙ sym (size_plus s q (omega (arith, e))) ∙ size_some z

  pub size_gap : (q ≡ 0 → ⊥) → {n : ℕ} → n ≡ num_at 4 s q → 2147483648 ≤ n → n < 4294967296 → 4294967296 - n ≡ size_in s q
  size_gap z e l m = ap (λ (k : ℕ). 4294967296 - k) e ∙ sym (size_minus s q (omega (arith, e)) (omega (arith, e))) ∙ size_some z

-- an entry of three tables, by its parts
pub row_is : (s qs ps os : List ℕ) (i : ℕ) {a z p o : ℕ} → a ≡ get_or qs i 0 → z ≡ size_in s a → p ≡ get_or ps i 0 → o ≡ get_or os i 0
    → record { start = a; size = z; part = p; owner = o } ≡ row_at s qs ps os i
unfolding row_at
row_is s qs ps os i ea ez ep eo = rw (ez, ep, eo) (ap (λ (a : ℕ). record { start = a; size = size_in s a; part = get_or ps i 0; owner = get_or os i 0 }) ea)

-- the list while it is filled: i records, and the rest as it was
unfoldable pub over : (ℕ → Row) → List Row → ℕ → List Row
over f xs i = up_to f i ++ drop i xs

pub length_up_to : (f : ℕ → Row) (i : ℕ) → length (up_to f i) ≡ i
unfolding up_to
length_up_to f zero = refl
length_up_to f (suc i) = length-append (up_to f i) (f i ∷ []) ∙ ap (λ (k : ℕ). k + 1) (length_up_to f i) ∙ add-one i

module _ (f : ℕ → Row) (xs : List Row) where
  pub over_none : xs ≡ over f xs 0
  unfolding over up_to
  over_none = refl

  pub over_more : (i : ℕ) {ys : List Row} {r : Row} → ys ≡ over f xs i → r ≡ f i → i < length xs → set ys i r ≡ over f xs (i + 1)
  unfolding over up_to
  over_more i {ys} {r} e g h =
      ap (λ (y : Row). set ys i y) g ∙ ap (λ (zs : List Row). set zs i (f i)) e
      ∙ ap (λ (zs : List Row). set (up_to f i ++ zs) i (f i)) (drop-cons xs i no_row h)
      ∙ set_at (up_to f i) (get_or xs i no_row) (drop (suc i) xs) (f i) i (length_up_to f i)
      ∙ sym (append_assoc (up_to f i) (f i ∷ []) (drop (suc i) xs))
      ∙ ap (λ (k : ℕ). up_to f k ++ drop k xs) (sym (add-one i))

  pub over_all : (i : ℕ) {ys : List Row} → ys ≡ over f xs i → i ≡ length xs → ys ≡ up_to f (length xs)
  unfolding over
  over_all i e g =
      e ∙ ap (λ (k : ℕ). up_to f k ++ drop k xs) g ∙ ap (λ (r : List Row). up_to f (length xs) ++ r) (drop-length xs)
      ∙ append-nil (up_to f (length xs))

  pub length_over : (i : ℕ) → i ≤ length xs → length (over f xs i) ≡ length xs
  unfolding over
  length_over i h = length-append (up_to f i) (drop i xs) ∙ omega (arith, length_up_to f i, length-drop i xs, h)
