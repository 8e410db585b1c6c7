-- The first place of a value.
use Prim.Native.Nat.{ℕ, ◌<◌, ◌≤◌}
use mathlib.Core.List.{List}
use mathlib.Core.Bool.{Bool, true, false}
use mathlib.Core.Path.{◌≡◌, refl, sym, ◌∙◌}
use mathlib.Core.Logic.{⊎_elim}
use native.Mathlib.Omega.{arith}
use borrow.Author.Tests.{eqb-true, ltb-false}
use lib.ListN.{length, get_or, get_or-eq_default}
use lib.Dec.{eqb, ltb}
use Rattle.std.specs.Prelude.{Some, None, position, cond}
use Rattle.std.specs.List.{position_or_len}
use Rattle.std.proofs.lemmas.List.Quantifiers.{position-Some}
use Rattle.std.proofs.lemmas.List.Sums.{fails_before_first}
use Rattle.wire.specs.Number.{num_at}
use Rattle.wire.proofs.Checks.{below_or}
use Rattle.wire.proofs.Numbers.{num_in, num_out, value1}
use Rattle.classname.specs.Find.{first_in}

-- a number of one byte is the byte, 0 past the end
pub byte_at : (s : List ℕ) (p : ℕ) → num_at 1 s p ≡ get_or s p 0
byte_at s p =
    ⊎_elim (λ l. num_in 1 s p (omega (arith, l)) ∙ value1 s p)
    (λ l. num_out 1 s p (omega (arith, l)) ∙ sym (get_or-eq_default s 0 l)) (below_or p (length s))

-- where there is no first place, nothing passes
pub position_None : {X : Type 0} (t : X → Bool) (xs : List X) (d : X) → position t xs ≡ None → (k : ℕ) → k < length xs
    → t (get_or xs k d) ≡ false
position_None t xs d e k l = fails_before_first t xs k d (omega (arith, go (ltb (position_or_len t xs) (length xs)) refl e))
  where
    go : (b : Bool) → ltb (position_or_len t xs) (length xs) ≡ b → cond b (Some (position_or_len t xs)) None ≡ None
        → length xs ≤ position_or_len t xs
    go true i j = let z : ◌≡◌ {A = ℕ} 0 1 = cc in absurd (omega arith)
    go false i j = ltb-false (position_or_len t xs) (length xs) i

-- a place that was found is one of the list's, and holds the value
pub first_holds : (l : List ℕ) (v i : ℕ) → first_in l v ≡ Some i → (i < length l) × (get_or l i 0 ≡ v)
unfolding first_in
first_holds l v i e = let h = position-Some (λ x. eqb x v) l i 0 e in (h.0, eqb-true (get_or l i 0) v h.1)
