-- Which piece is a gap, from its number and from its size.
use Prim.Native.Nat.{ℕ, ◌+◌, ◌<◌, ◌≤◌}
use mathlib.Core.Bool.{true, false}
use mathlib.Core.List.{List}
use mathlib.Core.Path.{◌≡◌, refl, sym, ap, ◌∙◌}
use native.Mathlib.Omega.{arith}
use lib.ListN.{length}
use Rattle.std.proofs.lemmas.Bool.Decides.{nat_tests}
use Rattle.wire.specs.Number.{num_at}
use Rattle.key.specs.Piece.{piece_at, size_of}
use Rattle.std.specs.Prelude.{Result, Ok, Err}
use Rattle.wire.specs.declared.fault.Fault.{Fault}
use Rattle.key.specs.declared.piece.Piece.{Piece}
use Rattle.key.specs.declared.piece.Piece.TheVariants.{Record, Gap}
use Rattle.key.proofs.Pieces.{from_gap, no_gap as positive}
use Rattle.rules.specs.Free.{is_gap}
use Rattle.rows.specs.Gap.{gap_of}

-- a number that is not negative starts no gap
pub no_gap : (s : List ℕ) (p : ℕ) → num_at 4 s p < 2147483648 → ◌≡◌ {A = ℕ} 0 (gap_of (piece_at s p))
no_gap s p l = go (piece_at s p) refl
  where
    go : (r : Result Piece Fault) → piece_at s p ≡ r → ◌≡◌ {A = ℕ} 0 (gap_of r)
    go (Ok (Record k)) e = refl
    go (Ok (Gap n)) e = absurd (positive s p l e)
    go (Err d) e = refl

-- a size of 0 is no gap, any other is that of a gap
module _ (s : List ℕ) (p : ℕ) {n : ℕ} (size : n ≡ gap_of (piece_at s p)) where
  not_gap : n ≡ 0 → (r : Result Piece Fault) → piece_at s p ≡ r → is_gap r ≡ false
  not_gap e (Ok (Record k)) f = refl
  not_gap e (Ok (Gap m)) f = let l = from_gap s p f in absurd (omega (arith, size ∙ ap gap_of f, l))
  not_gap e (Err d) f = refl

  pub gap_none : n ≡ 0 → is_gap (piece_at s p) ≡ false
  gap_none e = not_gap e (piece_at s p) refl

  is_gap_law : (n ≡ 0 → ⊥) → (r : Result Piece Fault) → piece_at s p ≡ r → (is_gap r ≡ true) × (size_of r ≡ n)
  is_gap_law e (Ok (Record k)) f = absurd (e (size ∙ ap gap_of f))
  is_gap_law e (Ok (Gap m)) f = (refl, sym (size ∙ ap gap_of f))
  is_gap_law e (Err d) f = absurd (e (size ∙ ap gap_of f))

  pub gap_some : (n ≡ 0 → ⊥) → (is_gap (piece_at s p) ≡ true) × (size_of (piece_at s p) ≡ n)
  gap_some e = is_gap_law e (piece_at s p) refl

  -- a gap ends in the file
  ends : (r : Result Piece Fault) → piece_at s p ≡ r → (n ≡ 0 → ⊥) → p + n ≤ length s
  ends (Ok (Record k)) f z = absurd (z (size ∙ ap gap_of f))
  ends (Ok (Gap m)) f z = omega (arith, from_gap s p f, size ∙ ap gap_of f)
  ends (Err d) f z = absurd (z (size ∙ ap gap_of f))

  pub gap_ends : (n ≡ 0 → ⊥) → p + n ≤ length s
  gap_ends = ends (piece_at s p) refl

-- what tells the part of a piece
pub ruleset gap_tests = (nat_tests, gap_none, gap_some)
