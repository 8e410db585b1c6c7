-- A list of comparisons: the test holds exactly where the facts do.
use Prim.Native.Nat.{ℕ, ◌≤◌, ◌<◌}
use mathlib.Core.List.{List, [], ◌∷◌}
use mathlib.Core.Bool.{Bool, true, false, ◌&&◌}
use mathlib.Core.Path.{◌≡◌, refl, sym, subst, ◌∙◌}
use mathlib.Core.Logic.{◌⊎◌, inl, inr, ⊎_elim}
use lib.Dec.{T, ltb}
use borrow.Author.Tests.{leb-true, ltb-true, ltb-false, eqb-true, le-leb, lt-ltb, eq-eqb}
use Rattle.wire.specs.Check.{Check, le, lt, eq, yes, passes, Holds, all, All, pick}

pub false_true : {A : Type 0} → ◌≡◌ {A = Bool} false true → A
false_true e = absurd (subst T (sym e) tt)

passed : (c : Check) → Holds c → passes c ≡ true
passed (le a b) h = le-leb a b h
passed (lt a b) h = lt-ltb a b h
passed (eq a b) h = eq-eqb a b h
passed (yes b) h = h

held : (c : Check) → passes c ≡ true → Holds c
held (le a b) e = leb-true a b e
held (lt a b) e = ltb-true a b e
held (eq a b) e = eqb-true a b e
held (yes b) e = e

and_left : (a b : Bool) → (a && b) ≡ true → a ≡ true
and_left true b e = refl
and_left false b e = e

and_right : (a b : Bool) → (a && b) ≡ true → b ≡ true
and_right true b e = e
and_right false b e = absurd (subst T (sym e) tt)

pub yes_all : (cs : List Check) → All cs → all cs ≡ true
yes_all [] h = refl
yes_all (c ∷ cs) h = rw (passed c h.0) (yes_all cs h.1)

pub all_yes : (cs : List Check) → all cs ≡ true → All cs
all_yes [] e = tt
all_yes (c ∷ cs) e = (held c (and_left _ (all cs) e), all_yes cs (and_right (passes c) _ e))

pub not_all : (cs : List Check) → (All cs → ⊥) → all cs ≡ false
not_all cs h = go (all cs) refl
  where
    go : (b : Bool) → all cs ≡ b → all cs ≡ false
    go true e = absurd (h (all_yes cs e))
    go false e = e

-- the facts hold or they do not
pub all_or : (cs : List Check) → All cs ⊎ (All cs → ⊥)
all_or cs = go (all cs) refl
  where
    go : (b : Bool) → all cs ≡ b → All cs ⊎ (All cs → ⊥)
    go true e = inl (all_yes cs e)
    go false e = inr (λ h. absurd (subst T (sym (yes_all cs h) ∙ e) tt))

-- what is picked, from facts
pub picked : {A : Type 0} (cs : List Check) (a b : A) → All cs → pick (all cs) a b ≡ a
picked cs a b h = rw (yes_all cs h)

pub not_picked : {A : Type 0} (cs : List Check) (a b : A) → (All cs → ⊥) → pick (all cs) a b ≡ b
not_picked cs a b h = rw (not_all cs h)

-- what was picked tells which: where it is not the second, it is the first and the facts hold; where it is not the first, they do not
pub from_picked : {A : Type 0} (cs : List Check) (x y : A) {z : A} → z ≡ pick (all cs) x y → (z ≡ y → ⊥) → (z ≡ x) × All cs
from_picked cs x y {z} e n =
    ⊎_elim (λ (h : All cs). (e ∙ picked cs x y h, h)) (λ (h : All cs → ⊥). absurd (n (e ∙ not_picked cs x y h))) (all_or cs)

pub from_not_picked : {A : Type 0} (cs : List Check) (x y : A) {z : A} → z ≡ pick (all cs) x y → (z ≡ x → ⊥) → All cs → ⊥
from_not_picked cs x y e n h = n (e ∙ picked cs x y h)

-- a number is below another or not
pub below_or : (a b : ℕ) → (a < b) ⊎ (b ≤ a)
below_or a b = go (ltb a b) refl
  where
    go : (c : Bool) → ltb a b ≡ c → (a < b) ⊎ (b ≤ a)
    go true e = inl (ltb-true a b e)
    go false e = inr (ltb-false a b e)
