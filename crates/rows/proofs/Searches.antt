-- A row that was sought by bisection.
use Prim.Native.Nat.{ℕ, ◌<◌, ◌≤◌}
use mathlib.Core.List.{List}
use mathlib.Core.Logic.{⊎_elim}
use mathlib.Core.Path.{◌≡◌, sym, ap}
use native.Mathlib.Nat.{eq-or-lt_of_le}
use native.Mathlib.Omega.{arith}
use lib.ListN.{length, get_or}
use Rattle.std.specs.Prelude.{Result, Ok, Err, IfOk}
use Rattle.std.specs.List.{HoldsAt}
use Rattle.std.specs.List.Sorted.{IsSearchInRange, IsBinarySearchResult}
use Rattle.std.specs.Ordering.{nat_cmp}
use Rattle.std.specs.Result.{result_ok}
use Rattle.std.specs.declared.cmp.Ordering.TheVariants.{Equal}
use Rattle.std.proofs.lemmas.Cmp.{ranked}
use Rattle.std.proofs.lemmas.List.Sorted.{searched}
use Rattle.wire.proofs.Checks.{below_or}
use Rattle.rows.specs.Row.{Rises, RowOf}

not_above : (t : List ℕ) → Rises t → (i j : ℕ) → i ≤ j → j < length t → get_or t i 0 ≤ get_or t j 0
not_above t r i j h l =
    ⊎_elim (λ (e : i ≡ j). omega (arith, ap (λ (k : ℕ). get_or t k 0) e)) (λ (g : i < j). omega (arith, r i j g l)) (eq-or-lt_of_le h)

pub row_found : (t : List ℕ) (p : ℕ) (r : Result ℕ ℕ) → IsSearchInRange r (length t) → IfOk r (HoldsAt (λ y. nat_cmp y p ≡ Equal) t)
    → IsBinarySearchResult (λ y. nat_cmp y p) t r → RowOf t p (result_ok r)
row_found t p (Ok i) b o s = (b, ranked (get_or t i 0) p Equal (sym (o 0)))
row_found t p (Err i) b o s = λ up k l e.
    let f = searched t p (Err i) s (not_above t up) in
    ⊎_elim (λ (h : k < i). omega (arith, f.1 k h)) (λ (h : i ≤ k). omega (arith, f.2 k h l)) (below_or k i)
