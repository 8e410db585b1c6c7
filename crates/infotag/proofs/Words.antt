-- A name that ends in a zero.
use Prim.Native.Nat.{ℕ, ◌+◌, ◌-◌, ◌<◌, ◌≤◌}
use mathlib.Core.List.{List}
use mathlib.Core.Path.{◌≡◌, sym, ◌∙◌}
use native.Mathlib.Omega.{arith}
use lib.ListN.{length, take, drop, length-take, length-drop}
use lib.Seq.{take_all}
use mathlib.Core.Logic.{⊎_elim}
use Rattle.wire.proofs.Checks.{below_or}
use Rattle.std.specs.Prelude.{Option, Some, None, min, unwrap_or}
use Rattle.classname.specs.Find.{first_in}
use Rattle.classname.specs.Name.{classes, class_of}
use Rattle.classname.proofs.Finds.{first_holds}
use Rattle.infotag.specs.Tag.{between, class_name_at}

-- a name that ends in a zero before the end, and one that does not
module _ (s : List ℕ) (q e : ℕ) {m : ℕ} (is : m ≡ min e (length s)) where
  -- bytes before an end that lies past the file are those to the file's end
  least_is : between s q m ≡ between s q e
  least_is =
      ⊎_elim (λ (l : e < length s). let i : m ≡ e = omega arith in rw i)
      (λ (l : length s ≤ e).
      let k = length-drop q s in
      take_all (m - q) (drop q s) (omega arith) ∙ sym (take_all (e - q) (drop q s) (omega arith)))
      (below_or e (length s))

  pub nothing_there : m < q → None ≡ class_name_at s q e
  unfolding class_name_at first_in
  nothing_there l = let z : m - q ≡ 0 = omega arith in rw (← least_is, z)

  module _ {y : Option ℕ} (found : y ≡ first_in (between s q m) 0) where
    pub no_zero : y ≡ None → None ≡ class_name_at s q e
    unfolding class_name_at
    no_zero g = rw (← least_is, ← found, g)

    -- a zero that was found lies in the file
    pub zero_within : {n : ℕ} → y ≡ Some n → q + n < length s
    zero_within {n} g =
        omega (arith, first_holds (between s q m) 0 n (sym found ∙ g), length-take (m - q) (drop q s), length-drop q s)

    pub class_named : {n : ℕ} → y ≡ Some n → {k : ℕ} → k ≡ unwrap_or (class_of (take (q + n - q) (drop q s))) classes
        → Some (record { class = k; next = q + n + 1 }) ≡ class_name_at s q e
    unfolding class_name_at
    class_named {n} g j = let i : q + n - q ≡ n = omega arith in rw (← least_is, ← found, g, j, i)
