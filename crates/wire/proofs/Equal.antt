-- Laws of `eq_bytes`.
use Prim.Native.Nat.{ℕ}
use mathlib.Core.List.{List, [], ◌∷◌}
use mathlib.Core.Bool.{Bool, true, false, ◌&&◌}
use mathlib.Core.Path.{◌≡◌, refl, sym, subst}
use borrow.Author.Tests.{eq-eqb, eqb-true}
use lib.Dec.{eqb, T}
use Rattle.std.specs.Cmp.Lexicographic.{pointwise}
use Rattle.std.specs.Prelude.{nat_eq}
use Rattle.wire.specs.Equal.{eq_bytes}

-- what `==` says of two slices
pub pointwise_bytes : (a b : List ℕ) → pointwise nat_eq a b ≡ eq_bytes a b
unfolding eq_bytes
pointwise_bytes [] [] = refl
pointwise_bytes [] (y ∷ b) = refl
pointwise_bytes (x ∷ a) [] = refl
pointwise_bytes (x ∷ a) (y ∷ b) = rw (pointwise_bytes a b) refl

-- the test says what it says
pub eq_same : (a b : List ℕ) → eq_bytes a b ≡ true → a ≡ b
unfolding eq_bytes
eq_same [] [] e = refl
eq_same [] (y ∷ b) e = absurd (subst T (sym e) tt)
eq_same (x ∷ a) [] e = absurd (subst T (sym e) tt)
eq_same (x ∷ a) (y ∷ b) e = go (eqb x y) refl e (λ f. eq_same a b f)
  where
    go : (c : Bool) → eqb x y ≡ c → (c && eq_bytes a b) ≡ true → (eq_bytes a b ≡ true → a ≡ b) → x ∷ a ≡ y ∷ b
    go true f g h = let p = eqb-true x y f in let q = h g in cc
    go false f g h = absurd (subst T (sym g) tt)

pub same_eq : (a : List ℕ) → eq_bytes a a ≡ true
unfolding eq_bytes
same_eq [] = refl
same_eq (x ∷ a) = rw (eq-eqb x x refl) (same_eq a)
