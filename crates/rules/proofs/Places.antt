-- Rows and their places.
use Prim.Native.Nat.{ℕ, ◌<◌}
use mathlib.Core.Bool.{Bool, true, false}
use mathlib.Core.List.{List, [], ◌∷◌}
use mathlib.Core.Path.{◌≡◌, refl}
use native.Mathlib.Omega.{arith}
use borrow.Author.Tests.{eqb-true}
use lib.Dec.{eqb}
use lib.ListN.{length, get_or}
use Rattle.wire.proofs.Checks.{false_true}
use Rattle.rules.specs.Row.{starts}
use Rattle.rules.specs.Turn.{row_of}

-- where a piece starts at p, its row holds p
pub row_in : (qs : List ℕ) (p : ℕ) → starts qs p ≡ true → (row_of qs p < length qs) × (get_or qs (row_of qs p) 0 ≡ p)
unfolding starts row_of
row_in [] p e = false_true e
row_in (q ∷ qs) p e = go (eqb q p) refl (row_in qs p)
  where
    go : (b : Bool) → eqb q p ≡ b → (starts qs p ≡ true → (row_of qs p < length qs) × (get_or qs (row_of qs p) 0 ≡ p))
        → (row_of (q ∷ qs) p < length (q ∷ qs)) × (get_or (q ∷ qs) (row_of (q ∷ qs) p) 0 ≡ p)
    go true f r = rw f (omega arith, eqb-true q p f)
    go false f r = let x = r (rw f at e) in rw f (omega (arith, x.0), x.1)
