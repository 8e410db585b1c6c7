-- The chain of pieces that the order of refusals walks, and the partitions of the rules.
use Rattle.std.specs.Prelude.{Result, Ok, Err}
use Prim.Native.Nat.{ℕ, zero, suc, ◌+◌, ◌≤◌, ◌<◌}
use mathlib.Core.Bool.{Bool, true, false}
use mathlib.Core.List.{List, [], ◌∷◌}
use mathlib.Core.Logic.{◌⊎◌, inl, inr, ⊎_elim}
use mathlib.Core.Path.{◌≡◌, refl, sym, ap, ◌∙◌, subst}
use native.Mathlib.Omega.{arith}
use borrow.Author.Tests.{lt-ltb, le-ltb}
use lib.ListN.{length}
use Rattle.wire.specs.Check.{all, pick}
use Rattle.wire.proofs.Checks.{all_yes, below_or}
use Rattle.key.specs.Piece.{piece_at, size_of}
use Rattle.wire.specs.declared.fault.Fault.{Fault}
use Rattle.wire.specs.declared.fault.Reason.{Reason}
use Rattle.key.specs.declared.piece.Piece.{Piece}
use Rattle.key.specs.declared.piece.Piece.TheVariants.{Record, Gap}
use Rattle.key.proofs.Pieces.{size_fits, from_gap, from_refused, refused_number, record_sized}
use Rattle.fileheader.specs.File.{opened_as, file_head, long_enough, magic, units, bounds}
use Rattle.fileheader.specs.declared.FileHead.{FileHead}
use Rattle.wire.specs.Fault.{number_of}
use Rattle.wire.specs.declared.fault.Reason.TheVariants as reason
use Rattle.rules.specs.Order.{Chain, whole, fault, prepend, on_piece, chain}
use Rattle.rules.specs.Partition.{Partition}

-- a piece that is no refusal
on_sized : (rest : ℕ → Chain) (p : ℕ) (r : Result Piece Fault) → 0 < size_of r → on_piece rest p r ≡ prepend p (rest (p + size_of r))
on_sized rest p (Ok (Record k)) l = refl
on_sized rest p (Ok (Gap n)) l = refl
on_sized rest p (Err f) l = absurd (omega arith)

chain_more : (s : List ℕ) (n p : ℕ) → 0 < size_of (piece_at s p)
    → chain s (suc n) p ≡ prepend p (chain s n (p + size_of (piece_at s p)))
unfolding chain
chain_more s n p l =
    let f = size_fits s p l in
    rw (lt-ltb p (length s) (omega arith)) (on_sized (chain s n) p (piece_at s p) l)

-- a partition is the chain
pub chain_whole : (s : List ℕ) (p : ℕ) (qs : List ℕ) (n : ℕ) → Partition s p (length s) qs → length s < n + p
    → chain s n p ≡ whole qs
unfolding chain
chain_whole s p [] zero h l = absurd (omega (arith, h))
chain_whole s p [] (suc n) h l = rw (le-ltb p (length s) (omega (arith, h)))
chain_whole s p (q ∷ qs) zero h l = let f = size_fits s p h.1.0 in absurd (omega arith)
chain_whole s p (q ∷ qs) (suc n) h l =
    chain_more s n p h.1.0
    ∙ ap (prepend p) (chain_whole s (p + size_of (piece_at s p)) qs n h.1.1 (omega (arith, h.1.0)))
    ∙ ap (λ (a : ℕ). whole (a ∷ qs)) (sym h.0)

-- a refusal where a partition of what goes before ends
pub chain_fault : (s : List ℕ) (p : ℕ) (qs : List ℕ) (e n : ℕ) (f : Fault) → Partition s p e qs → e < length s
    → piece_at s e ≡ Err f → length s < n + p → chain s n p ≡ fault (number_of f.reason) f.place
unfolding chain
chain_fault s p [] e zero f h m r l = absurd (omega (arith, h))
chain_fault s p [] e (suc n) f h m r l = rw (h, lt-ltb e (length s) m, r)
chain_fault s p (q ∷ qs) e zero f h m r l = let g = size_fits s p h.1.0 in absurd (omega arith)
chain_fault s p (q ∷ qs) e (suc n) f h m r l =
    chain_more s n p h.1.0
    ∙ ap (prepend p) (chain_fault s (p + size_of (piece_at s p)) qs e n f h.1.1 m r (omega (arith, h.1.0)))

-- and back
prepended : (p : ℕ) (r : Chain) {qs : List ℕ} → prepend p r ≡ whole qs → (rs : List ℕ) × (r ≡ whole rs) × (qs ≡ p ∷ rs)
prepended p (whole rs) {qs} e = (rs, refl, cc)
prepended p (fault c q) {qs} e = let z : ◌≡◌ {A = ℕ} 0 1 = cc in absurd (omega arith)

not_prepended : (p : ℕ) (r : Chain) {c q : ℕ} → prepend p r ≡ fault c q → r ≡ fault c q
not_prepended p (whole rs) e = let z : ◌≡◌ {A = ℕ} 0 1 = cc in absurd (omega arith)
not_prepended p (fault c q) e = e

-- a refusal, or a piece of some bytes
refusal_or : (s : List ℕ) (p : ℕ) → (0 < size_of (piece_at s p)) ⊎ ((f : Fault) × (piece_at s p ≡ Err f))
refusal_or s p = go (piece_at s p) refl
  where
    go : (r : Result Piece Fault) → piece_at s p ≡ r → (0 < size_of (piece_at s p)) ⊎ ((f : Fault) × (piece_at s p ≡ Err f))
    go (Ok (Record k)) e = let o = ap size_of e in inl (omega (arith, record_sized s p e))
    go (Ok (Gap n)) e = let o = ap size_of e in inl (omega (arith, from_gap s p e))
    go (Err f) e = inr (f, e)

-- the chain from p ends, stops, or goes on
module _ (s : List ℕ) (n p : ℕ) (P : Chain → Type 0)
    (end : length s ≤ p → P (whole []))
    (stop : (f : Fault) → p < length s → piece_at s p ≡ Err f → P (fault (number_of f.reason) f.place))
    (more : 0 < size_of (piece_at s p) → P (prepend p (chain s n (p + size_of (piece_at s p))))) where
  ended : length s ≤ p → chain s (suc n) p ≡ whole []
  unfolding chain
  ended l = rw (le-ltb p (length s) l)

  stopped : {f : Fault} → p < length s → piece_at s p ≡ Err f → chain s (suc n) p ≡ fault (number_of f.reason) f.place
  unfolding chain
  stopped l e = rw (lt-ltb p (length s) l, e)

  by_step : P (chain s (suc n) p)
  by_step =
      ⊎_elim
      (λ (l : p < length s).
      ⊎_elim (λ (z : 0 < size_of (piece_at s p)). subst P (sym (chain_more s n p z)) (more z))
      (λ (r : (f : Fault) × (piece_at s p ≡ Err f)). subst P (sym (stopped l r.1)) (stop r.0 l r.1))
      (refusal_or s p))
      (λ (l : length s ≤ p). subst P (sym (ended l)) (end l))
      (below_or p (length s))

pub whole_partition : (s : List ℕ) (n p : ℕ) (qs : List ℕ) → chain s n p ≡ whole qs → p ≤ length s → Partition s p (length s) qs
unfolding chain
whole_partition s zero p qs e l = let z : ◌≡◌ {A = ℕ} 0 1 = cc in absurd (omega arith)
whole_partition s (suc n) p qs e l =
    by_step s n p (λ r. r ≡ whole qs → Partition s p (length s) qs)
    (λ m f. none qs (cc) (omega arith))
    (λ d m r f. let z : ◌≡◌ {A = ℕ} 0 1 = cc in absurd (omega arith))
    (λ z f.
    let g = prepended p (chain s n (p + size_of (piece_at s p))) f in
    let h = size_fits s p z in
    subst (Partition s p (length s)) (sym g.2)
    (refl, (z, whole_partition s n (p + size_of (piece_at s p)) g.0 g.1 (omega arith))))
    e
  where
    none : (rs : List ℕ) → rs ≡ [] → p ≡ length s → Partition s p (length s) rs
    none [] e h = h
    none (r ∷ rs) e h = let z : ◌≡◌ {A = ℕ} 0 1 = cc in absurd (omega arith)

-- a fault's place: a partition of what goes before ends there
pub fault_partition : (s : List ℕ) (n p c q : ℕ) → chain s n p ≡ fault c q → length s < n + p → p ≤ length s
    → (qs : List ℕ) × Partition s p q qs × (q < length s) × (d : Fault) × (piece_at s q ≡ Err d) × (number_of d.reason ≡ c)
unfolding chain
fault_partition s zero p c q e l m = absurd (omega arith)
fault_partition s (suc n) p c q e l m =
    by_step s n p
    (λ r. r ≡ fault c q → (qs : List ℕ) × Partition s p q qs × (q < length s) × (d : Fault) × (piece_at s q ≡ Err d) × (number_of d.reason ≡ c))
    (λ k f. let z : ◌≡◌ {A = ℕ} 0 1 = cc in absurd (omega arith))
    (λ d k r f.
    let g : number_of d.reason ≡ c = cc in
    let i : d.place ≡ q = cc in
    let j : p ≡ q = sym (from_refused s p r) ∙ i in
    ([], j, rw (sym j) k, d, rw (sym j) r, g))
    (λ z f.
    let h = size_fits s p z in
    let g = fault_partition s n (p + size_of (piece_at s p)) c q (not_prepended p (chain s n (p + size_of (piece_at s p))) f)
    (omega arith) (omega arith) in
    (p ∷ g.0, (refl, (z, g.1)), g.2, g.3, g.4, g.5))
    e

-- the numbers of a fault
pub fault_number : (s : List ℕ) (n p c q : ℕ) → chain s n p ≡ fault c q → (c ≡ 5) ⊎ (c ≡ 6)
unfolding chain
fault_number s zero p c q e = inl cc
fault_number s (suc n) p c q e =
    by_step s n p (λ r. r ≡ fault c q → (c ≡ 5) ⊎ (c ≡ 6))
    (λ k f. let z : ◌≡◌ {A = ℕ} 0 1 = cc in absurd (omega arith))
    (λ d k r f. let g : number_of d.reason ≡ c = cc in rw (sym g) (refused_number s p r))
    (λ z f. fault_number s n (p + size_of (piece_at s p)) c q (not_prepended p (chain s n (p + size_of (piece_at s p))) f))
    e

-- a refusal of the header
abbrev bad : Reason → Fault
bad r = record { reason = r; place = 0 }

-- the file header
module _ (s : List ℕ) where
  bounded : {c : Fault} (a b d e : Bool)
      → pick a (pick b (pick d (pick e (Ok (file_head s)) (Err (bad reason.Bounds))) (Err (bad reason.Wide))) (Err (bad reason.Magic))) (Err (bad reason.Short))
      ≡ Err c
      → (1 ≤ number_of c.reason) × (number_of c.reason ≤ 4)
  bounded {c} true true true true f = let z : ◌≡◌ {A = ℕ} 0 1 = cc in absurd (omega arith)
  bounded {c} true true true false f = let g : c ≡ bad reason.Bounds = cc in rw g (omega arith)
  bounded {c} true true false e f = let g : c ≡ bad reason.Wide = cc in rw g (omega arith)
  bounded {c} true false d e f = let g : c ≡ bad reason.Magic = cc in rw g (omega arith)
  bounded {c} false b d e f = let g : c ≡ bad reason.Short = cc in rw g (omega arith)

  pub opened_number : {c : Fault} → opened_as s ≡ Err c → (1 ≤ number_of c.reason) × (number_of c.reason ≤ 4)
  unfolding opened_as
  opened_number e = bounded (all (long_enough s)) (all (magic s)) (all (units s)) (all (bounds s)) e

  good_long : {h : FileHead} (a b d e : Bool)
      → pick a (pick b (pick d (pick e (Ok (file_head s)) (Err (bad reason.Bounds))) (Err (bad reason.Wide))) (Err (bad reason.Magic))) (Err (bad reason.Short))
      ≡ Ok h
      → a ≡ true
  good_long true b d e f = refl
  good_long {h} false b d e f = let z : ◌≡◌ {A = ℕ} 0 1 = cc in absurd (omega arith)

  pub opened_long : {h : FileHead} → opened_as s ≡ Ok h → 100 ≤ length s
  unfolding opened_as
  opened_long e = (all_yes (long_enough s) (good_long (all (long_enough s)) (all (magic s)) (all (units s)) (all (bounds s)) e)).0
