-- The parts before the first directory: which rows have them, and what stands there.
use Prim.Native.Nat.{ℕ}
use mathlib.Core.Bool.{Bool, true, false}
use mathlib.Core.List.{List}
use mathlib.Core.Path.{◌≡◌, refl}
use borrow.Author.Tests.{ne_eqb, eqb-true, eqb-false}
use lib.Dec.{eqb}
use Rattle.key.specs.Piece.{piece_at}
use Rattle.fileheader.specs.declared.FileHead.{FileHead}
use Rattle.rules.specs.Free.{is_gap}
use Rattle.rules.specs.Turn.{first_part}

-- which of the five a place is
pub data Place (s : List ℕ) (h : FileHead) (q : ℕ) : Type 0 where
  head : q ≡ 100 → first_part s h q ≡ 9 → Place s h q
  free : (q ≡ 100 → ⊥) → q ≡ h.seekfree → first_part s h q ≡ 2 → Place s h q
  info : (q ≡ 100 → ⊥) → (q ≡ h.seekfree → ⊥) → q ≡ h.seekinfo → first_part s h q ≡ 3 → Place s h q
  gap : (q ≡ 100 → ⊥) → (q ≡ h.seekfree → ⊥) → (q ≡ h.seekinfo → ⊥) → is_gap (piece_at s q) ≡ true → first_part s h q ≡ 0 → Place s h q
  other : (q ≡ 100 → ⊥) → (q ≡ h.seekfree → ⊥) → (q ≡ h.seekinfo → ⊥) → is_gap (piece_at s q) ≡ false → first_part s h q ≡ 7 → Place s h q

pub place : (s : List ℕ) (h : FileHead) (q : ℕ) → Place s h q
unfolding first_part
place s h q = first (eqb q 100) refl
  where
    fourth : (q ≡ 100 → ⊥) → (q ≡ h.seekfree → ⊥) → (q ≡ h.seekinfo → ⊥) → (b : Bool) → is_gap (piece_at s q) ≡ b → Place s h q
    fourth x y z true e =
        gap x y z e (rw (ne_eqb q 100 x, ne_eqb q h.seekfree y, ne_eqb q h.seekinfo z, e))
    fourth x y z false e =
        other x y z e (rw (ne_eqb q 100 x, ne_eqb q h.seekfree y, ne_eqb q h.seekinfo z, e))

    third : (q ≡ 100 → ⊥) → (q ≡ h.seekfree → ⊥) → (b : Bool) → eqb q h.seekinfo ≡ b → Place s h q
    third x y true e = info x y (eqb-true q h.seekinfo e) (rw (ne_eqb q 100 x, ne_eqb q h.seekfree y, e))
    third x y false e = fourth x y (eqb-false q h.seekinfo e) (is_gap (piece_at s q)) refl

    second : (q ≡ 100 → ⊥) → (b : Bool) → eqb q h.seekfree ≡ b → Place s h q
    second x true e = free x (eqb-true q h.seekfree e) (rw (ne_eqb q 100 x, e))
    second x false e = third x (eqb-false q h.seekfree e) (eqb q h.seekinfo) refl

    first : (b : Bool) → eqb q 100 ≡ b → Place s h q
    first true e = head (eqb-true q 100 e) (rw e)
    first false e = second (eqb-false q 100 e) (eqb q h.seekfree) refl
