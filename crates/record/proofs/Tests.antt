-- Tests of the code against lists of checks.
use Prim.Native.Nat.{ℕ}
use mathlib.Core.Bool.{Bool, true, false, not, ◌&&◌}
use mathlib.Core.List.{List, [], ◌∷◌, ◌++◌}
use mathlib.Core.Path.{◌≡◌, refl, sym, ◌∙◌}
use lib.Dec.{eqb}
use Rattle.wire.specs.Check.{Check, eq, passes, all, All}
use Rattle.wire.proofs.Checks.{yes_all, all_yes, false_true}

pub and_true : (b : Bool) → b ≡ (b && true)
and_true true = refl
and_true false = refl

-- checks that hold leave those after them
pub all_then : (cs ds : List Check) → All cs → all (cs ++ ds) ≡ all ds
all_then [] ds h = refl
all_then (c ∷ cs) ds h = rw (and_true (passes c) ∙ yes_all (c ∷ []) (h.0, tt)) (all_then cs ds h.1)

-- two numbers are equal, as one check
pub one_eq : (a b : ℕ) → eqb a b ≡ all (eq a b ∷ [])
one_eq a b = and_true (eqb a b)

-- a test that failed, or passed, behind a `!`
pub failed : (b n : Bool) → b ≡ n → not b ≡ true → n ≡ true → ⊥
failed true n e h i = false_true h
failed false n e h i = false_true (e ∙ i)

pub passed : (b n : Bool) → b ≡ n → not b ≡ false → n ≡ true
passed true n e h = sym e
passed false n e h = false_true (sym h)

pub fails : {b : Bool} (cs : List Check) → b ≡ all cs → not b ≡ true → All cs → ⊥
fails cs e h a = failed _ _ e h (yes_all cs a)

pub passes_all : {b : Bool} (cs : List Check) → b ≡ all cs → not b ≡ false → All cs
passes_all cs e h = all_yes cs (passed _ _ e h)
