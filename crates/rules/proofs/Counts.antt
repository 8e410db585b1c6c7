-- Rows that are not settled: each directory that is done leaves fewer.
use Prim.Native.Nat.{ℕ, zero, suc, ◌+◌, ◌<◌, ◌≤◌}
use mathlib.Core.Bool.{Bool, true, false}
use mathlib.Core.List.{List, [], ◌∷◌}
use mathlib.Core.Path.{◌≡◌, refl, sym, ap, ◌∙◌}
use native.Mathlib.Omega.{arith}
use borrow.Author.Tests.{le-leb, lt-leb, leb-true, leb-false}
use lib.Dec.{leb}
use lib.ListN.{length, get_or, set, length-set, get_or-eq_default}
use lib.Seq.{get_or-set_other}
use Rattle.wire.specs.Check.{pick}
use Rattle.wire.proofs.Checks.{below_or}
use Rattle.rules.proofs.Items.{Item, item, Assign}
use mathlib.Core.Logic.{⊎_elim}

-- 1 for a row with no part, or a directory that is not done
unfoldable pub weight : ℕ → ℕ
weight k = pick (leb 7 k) 1 0

heavy : (k : ℕ) → 7 ≤ k → weight k ≡ 1
unfolding weight
heavy k l = rw (le-leb 7 k l)

light : (k : ℕ) → k < 7 → weight k ≡ 0
unfolding weight
light k l = rw (lt-leb 7 k l)

most : (k : ℕ) → weight k ≤ 1
unfolding weight
most k = go (leb 7 k)
  where
    go : (b : Bool) → pick {A = ℕ} b 1 0 ≤ 1
    go true = omega arith
    go false = omega arith

unfoldable pub count : List ℕ → ℕ
count [] = 0
count (k ∷ ps) = weight k + count ps

pub count_most : (ps : List ℕ) → count ps ≤ length ps
unfolding count
count_most [] = omega arith
count_most (k ∷ ps) = omega (arith, most k, count_most ps)

count_set : (ps : List ℕ) (i m : ℕ) → i < length ps → count (set ps i m) + weight (get_or ps i 0) ≡ count ps + weight m
unfolding count
count_set [] i m l = absurd (omega arith)
count_set (k ∷ ps) zero m l = omega arith
count_set (k ∷ ps) (suc i) m l = omega (arith, count_set ps i m (omega arith))

pub count_none : (ps : List ℕ) → count ps ≡ 0 → (i : ℕ) → i < length ps → get_or ps i 0 < 8
unfolding count
count_none [] e i l = absurd (omega arith)
count_none (k ∷ ps) e zero l = go (leb 7 k) refl
  where
    go : (b : Bool) → leb 7 k ≡ b → k < 8
    go true f = absurd (omega (arith, heavy k (leb-true 7 k f)))
    go false f = omega (arith, leb-false 7 k f)
count_none (k ∷ ps) e (suc i) l = count_none ps (omega arith) i (omega arith)

pub count_some : (ps : List ℕ) (i : ℕ) → i < length ps → 7 ≤ get_or ps i 0 → 0 < count ps
unfolding count
count_some [] i l h = absurd (omega arith)
count_some (k ∷ ps) zero l h = omega (arith, heavy k h)
count_some (k ∷ ps) (suc i) l h = omega (arith, count_some ps i (omega arith) h)

-- giving parts leaves no more, and a row that has one keeps it
pub record Grew (ps us : List ℕ) : Type 0 where
  pub size : length us ≡ length ps
  pub lighter : count us ≤ count ps
  pub stays : (j : ℕ) → (get_or ps j 0 ≡ 7 → ⊥) → get_or us j 0 ≡ get_or ps j 0

pub grew : (d : ℕ) (its : List Item) (ps os us vs : List ℕ) → Assign d its ps os us vs → Grew ps us
grew d [] ps os us vs a = record {
  size = ap length a.0;
  lighter = omega (arith, ap count a.0);
  stays = λ j n. ap (λ (t : List ℕ). get_or t j 0) a.0;
}
grew d (item i m ∷ its) ps os us vs a =
    let r = grew d its (set ps i m) (set os i d) us vs a.1 in
    let l = inside ps i a.0 in
    record {
      size = r.size ∙ length-set ps i m;
      lighter = omega (arith, r.lighter, count_set ps i m l, most m, heavy (get_or ps i 0) (omega (arith, a.0)));
      stays = λ j n. let o = get_or-set_other ps i j m 0 (λ e. n (ap (λ (k : ℕ). get_or ps k 0) e ∙ a.0)) in
          r.stays j (λ e. n (sym o ∙ e)) ∙ o;
    }
  where
    inside : (ps : List ℕ) (i : ℕ) → get_or ps i 0 ≡ 7 → i < length ps
    inside ps i e =
        ⊎_elim (λ (l : i < length ps). l) (λ (l : length ps ≤ i). absurd (omega (arith, e, get_or-eq_default ps 0 {n = i} l)))
        (below_or i (length ps))

-- and a directory that is done one less
pub fewer : (d : ℕ) (its : List Item) (ps os us vs : List ℕ) (j k : ℕ) → Assign d its ps os us vs
    → j < length us → 8 ≤ get_or us j 0 → k < 7 → count (set us j k) < count ps
fewer d its ps os us vs j k a l h z =
    omega (arith, (grew d its ps os us vs a).lighter, count_set us j k l, heavy (get_or us j 0) (omega arith), light k z)
