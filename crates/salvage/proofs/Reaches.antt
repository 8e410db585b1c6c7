-- Places from which pieces fill the file to its end, and the loops that look for them.
use Prim.Native.Nat.{ℕ, zero, suc, ◌+◌, ◌-◌, ◌≤◌, ◌<◌}
use mathlib.Core.Bool.{Bool, true, false}
use mathlib.Core.List.{List, [], ◌∷◌}
use mathlib.Core.Logic.{◌⊎◌, inl, inr, ⊎_elim}
use mathlib.Core.Path.{◌≡◌, refl, sym, ap, ◌∙◌, subst}
use native.Mathlib.Omega.{arith}
use lib.ListN.{length}
use Rattle.wire.specs.Number.{num_at}
use Rattle.wire.proofs.Checks.{false_true, below_or}
use Rattle.wire.proofs.Numbers.{num_zero}
use Rattle.key.specs.Piece.{piece_at, size_of}
use Rattle.key.proofs.Pieces.{no_piece, size_plus}
use Rattle.rules.specs.Order.{Chain, whole, fault, chain}
use Rattle.rules.specs.Partition.{Partition}
use Rattle.rules.proofs.Chains.{whole_partition, fault_partition}
use Rattle.rules.proofs.Partitions.{no_partition}
use Rattle.chain.specs.Walk.{step_of}
use Rattle.std.specs.Prelude.{Err}
use Rattle.wire.specs.declared.fault.Fault.{Fault}
use Rattle.chain.proofs.Walks.{Sized, stopped}
use Rattle.salvage.specs.Mark.{marked, Marks, Dead, Tried, Passed, Sought}
use Rattle.salvage.specs.Salvage.{Reaches, Lowest}

-- one piece back, and one on
reach_back : (s : List ℕ) (p : ℕ) → 0 < size_of (piece_at s p) → Reaches s (p + size_of (piece_at s p)) → Reaches s p
reach_back s p l h = (p ∷ h.0, (refl, (l, h.1)))

reach_on : (s : List ℕ) (p : ℕ) → p < length s → Reaches s p → (0 < size_of (piece_at s p)) × Reaches s (p + size_of (piece_at s p))
reach_on s p l h = go h.0 h.1
  where
    go : (qs : List ℕ) → Partition s p (length s) qs → (0 < size_of (piece_at s p)) × Reaches s (p + size_of (piece_at s p))
    go [] e = absurd (omega arith)
    go (q ∷ qs) e = (e.1.0, (qs, e.1.1))

-- while a place is tried: the marks, and what follows for each of them
pub record Trying (s : List ℕ) (base from : ℕ) (m₀ m : List ℕ) (at : ℕ) : Type 0 where
  pub long : length m ≡ length m₀
  pub above : base ≤ at
  pub within : at ≤ length s
  pub fills : Reaches s at → Reaches s from
  pub back : Reaches s from → Reaches s at
  pub ahead : (i : ℕ) → marked m i ≡ true → at ≤ base + i → Reaches s (base + i) → ⊥
  pub leads : (i : ℕ) → marked m i ≡ true → Reaches s (base + i) → Reaches s at

pub try_began : (s : List ℕ) (base from : ℕ) (m : List ℕ) → Dead s base m → base ≤ from → from ≤ length s → Trying s base from m m from
unfolding Dead
try_began s base from m d l k = record {
  long = refl;
  above = l;
  within = k;
  fills = λ r. r;
  back = λ r. r;
  ahead = λ i h z r. d i h r;
  leads = λ i h r. absurd (d i h r);
}

-- what is told where it ends, and one piece on
module _ {s : List ℕ} {base from : ℕ} {m₀ m : List ℕ} {at : ℕ} (w : Trying s base from m₀ m at) where
  -- no way on from here: none from the start, and none from any mark
  ends_here : {m' : List ℕ} → (Reaches s at → ⊥) → ((i : ℕ) → marked m' i ≡ true → Reaches s (base + i) → Reaches s at)
      → Tried s base from m' false
  unfolding Dead
  ends_here n g = record {
    fills = λ e. false_true e;
    none = λ e r. n (w.back r);
    dead = λ e i h r. n (g i h r);
  }

  pub try_ended : length s ≤ at → Tried s base from m true
  try_ended l =
      let e : at ≡ length s = omega (arith, w.within) in
      record { fills = λ i. w.fills ([], e); none = λ i. false_true (sym i); dead = λ i. false_true (sym i) }

  module _ (l : at < length s) where
    pub try_stopped : {f : Fault} → Err f ≡ step_of (piece_at s at) → Tried s base from m false
    try_stopped e =
        let z = ap size_of (stopped s at e).1 in ends_here (λ x. let g = reach_on s at l x in omega (arith, g.0)) w.leads

    module _ {m' : List ℕ} {r : Bool} (k : Marks m m' (at - base) r) where
      here : base + (at - base) ≡ at
      here = omega (arith, w.above)

      -- a mark that is there after it leads here
      led : (i : ℕ) → marked m' i ≡ true → Reaches s (base + i) → Reaches s at
      led i h x =
          ⊎_elim (λ (e : i ≡ at - base). subst (Reaches s) (ap (λ (j : ℕ). base + j) e ∙ here) x)
          (λ (e : marked m i ≡ true). w.leads i e x)
          (k.new i h)

      pub try_marked : r ≡ true → Tried s base from m' false
      try_marked e =
          ends_here (λ x. w.ahead (at - base) (sym k.told ∙ e) (omega (arith, here)) (subst (Reaches s) (sym here) x)) led

      pub try_on : {n : ℕ} → Sized s at n → length m' ≡ length m → Trying s base from m₀ m' (at + n)
      try_on {n} g j =
          let on : Reaches s at → Reaches s (at + n) = λ x. subst (λ (i : ℕ). Reaches s (at + i)) (sym g.is) (reach_on s at l x).1 in
          record {
            long = j ∙ w.long;
            above = omega (arith, w.above);
            within = g.fits;
            fills = λ x. w.fills (reach_back s at (omega (arith, g.is, g.some)) (subst (λ (i : ℕ). Reaches s (at + i)) g.is x));
            back = λ x. on (w.back x);
            ahead = λ i h b x.
                ⊎_elim (λ (e : i ≡ at - base). omega (arith, here, g.some)) (λ (e : marked m i ≡ true). w.ahead i e (omega arith) x) (k.new i h);
            leads = λ i h x. on (led i h x);
          }

-- no piece begins among zeros
zeros_none : (s : List ℕ) (p r : ℕ) → p + 8 ≤ length s → num_at 8 s p ≡ 0 → p ≤ r → r < p + 5 → Reaches s r → ⊥
zeros_none s p r l e k m x =
    let z = num_zero s 8 p 4 r l e k (omega arith) in
    let n = (no_piece s r (λ f. omega (arith, f, size_plus s r (omega (arith, z)), z))).0 in
    omega (arith, (reach_on s r (omega arith) x).0, ap size_of n)

-- while zeros are passed over
pub pass_began : (s : List ℕ) (from stop : ℕ) → from < stop → Passed s from stop from
pass_began s from stop l = record { above = omega arith; below = l; none = λ r a b. absurd (omega arith) }

pub pass_on : {s : List ℕ} {from stop q v : ℕ} → Passed s from stop q → 8 ≤ stop - q → stop ≤ length s → v ≡ num_at 8 s q → v ≡ 0
    → Passed s from stop (q + 5)
pass_on {s} {from} {stop} {q} w l k e z = record {
  above = omega (arith, w.above);
  below = omega (arith, w.below);
  none = λ r a b x. ⊎_elim (λ (c : r < q). w.none r a c x)
      (λ (c : q ≤ r). zeros_none s q r (omega (arith, w.below)) (sym e ∙ z) c b x) (below_or r q);
}

-- while the lowest place is looked for
pub record Lowering (s : List ℕ) (base stop : ℕ) (m₀ m : List ℕ) (q : ℕ) : Type 0 where
  pub long : length m ≡ length m₀
  pub above : base ≤ q
  pub within : q ≤ stop
  pub dead : Dead s base m
  pub none : (r : ℕ) → base ≤ r → r < q → Reaches s r → ⊥

pub low_began : (s : List ℕ) (base stop : ℕ) (m : List ℕ) → Dead s base m → base ≤ stop → Lowering s base stop m m base
low_began s base stop m d l = record { long = refl; above = omega arith; within = l; dead = d; none = λ r a b. absurd (omega arith) }

module _ {s : List ℕ} {base stop : ℕ} {m₀ m : List ℕ} {q : ℕ} (w : Lowering s base stop m₀ m q) where
  pub low_ended : stop ≤ q → Sought s base stop q
  low_ended l = record { least = w.above; within = w.within; fills = λ m. absurd (omega arith); none = w.none }

  -- the place that is tried next: nothing below it
  module _ {q' : ℕ} (n : Passed s q stop q') {m' : List ℕ} {r : Bool} (k : Tried s base q' m' r) where
    none_before : (r : ℕ) → base ≤ r → r < q' → Reaches s r → ⊥
    none_before r a b x = ⊎_elim (λ (c : r < q). w.none r a c x) (λ (c : q ≤ r). n.none r c b x) (below_or r q)

    pub low_found : r ≡ true → Sought s base stop q'
    low_found e = record {
      least = omega (arith, w.above, n.above);
      within = omega (arith, n.below);
      fills = λ l. k.fills e;
      none = none_before;
    }

    pub low_on : r ≡ false → length m' ≡ length m → Lowering s base stop m₀ m' (q' + 1)
    low_on e j = record {
      long = j ∙ w.long;
      above = omega (arith, w.above, n.above);
      within = omega (arith, n.below);
      dead = k.dead e;
      none = λ r a b x. go r a b x;
    }
      where
        go : (r : ℕ) → base ≤ r → r < q' + 1 → Reaches s r → ⊥
        go r a b x =
            ⊎_elim (λ (c : r < q'). none_before r a c x) (λ (c : q' ≤ r). let f : r ≡ q' = omega arith in k.none e (subst (Reaches s) f x)) (below_or r q')

-- a place reaches END or it does not
reaches_or : (s : List ℕ) (p : ℕ) → p ≤ length s → Reaches s p ⊎ (Reaches s p → ⊥)
reaches_or s p l = go (chain s (length s + 1) p) refl
  where
    go : (x : Chain) → chain s (length s + 1) p ≡ x → Reaches s p ⊎ (Reaches s p → ⊥)
    go (whole qs) e = inl (qs, whole_partition s (length s + 1) p qs e l)
    go (fault c q) e =
        let f = fault_partition s (length s + 1) p c q e (omega arith) l in
        inr (λ r. no_partition s p f.0 r.0 q f.1 (ap size_of f.4) f.2 r.1)

-- a lowest place, where no place before q reaches END: q or one behind it
pub lowest_from : (s : List ℕ) (base n q : ℕ) → q + n ≡ length s → base ≤ q → ((r : ℕ) → base ≤ r → r < q → Reaches s r → ⊥)
    → (o : ℕ) × (q ≤ o) × Lowest s base o
lowest_from s base zero q e l h = (q, omega arith, record { least = l; fills = ([], omega (arith, e)); none = h })
lowest_from s base (suc n) q e l h =
    ⊎_elim (λ (r : Reaches s q). (q, omega arith, record { least = l; fills = r; none = h }))
    (λ (d : Reaches s q → ⊥).
    let x = lowest_from s base n (q + 1) (omega arith) (omega arith) (λ r a b y.
    ⊎_elim (λ (c : r < q). h r a c y) (λ (c : q ≤ r). let f : r ≡ q = omega arith in d (subst (Reaches s) f y)) (below_or r q)) in
    (x.0, omega (arith, x.1), x.2))
    (reaches_or s q (omega arith))
