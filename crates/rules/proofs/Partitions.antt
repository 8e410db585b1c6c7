-- Partitions: one at most, none after a refusal, starts that rise, a piece at each; one after another, and of bytes that agree.
use Rattle.std.specs.Prelude.{Result}
use Prim.Native.Nat.{ℕ, zero, suc, ◌+◌, ◌≤◌, ◌<◌}
use mathlib.Core.List.{List, [], ◌∷◌, ◌++◌}
use mathlib.Core.Path.{◌≡◌, refl, sym, subst}
use native.Mathlib.Omega.{arith}
use lib.ListN.{length, get_or}
use Rattle.wire.specs.Agree.{Agree}
use Rattle.wire.proofs.Agrees.{within}
use Rattle.key.specs.Piece.{piece_at, size_of}
use Rattle.wire.specs.declared.fault.Fault.{Fault}
use Rattle.key.specs.declared.piece.Piece.{Piece}
use Rattle.key.proofs.Agrees.{piece_same}
use Rattle.key.proofs.Pieces.{size_fits}
use Rattle.rules.specs.Partition.{Partition}
use Rattle.table.specs.Table.{Rising}

-- one piece more
pub snoc : (s : List ℕ) (p : ℕ) (qs : List ℕ) (e : ℕ) → Partition s p e qs → 0 < size_of (piece_at s e)
    → Partition s p (e + size_of (piece_at s e)) (qs ++ e ∷ [])
snoc s p [] e h l = (sym h, (rw h l, rw h refl))
snoc s p (q ∷ qs) e h l = (h.0, (h.1.0, snoc s (p + size_of (piece_at s p)) qs e h.1.1 l))

-- at most one partition from a place to the end
pub one_partition_law : (s : List ℕ) (p : ℕ) (qs rs : List ℕ) → Partition s p (length s) qs → Partition s p (length s) rs → qs ≡ rs
one_partition_law s p [] [] h k = refl
one_partition_law s p [] (r ∷ rs) h k = let f = size_fits s p k.1.0 in absurd (omega arith)
one_partition_law s p (q ∷ qs) [] h k = let f = size_fits s p h.1.0 in absurd (omega arith)
one_partition_law s p (q ∷ qs) (r ∷ rs) h k =
    let e = one_partition_law s (p + size_of (piece_at s p)) qs rs h.1.1 k.1.1 in
    let f = h.0 in
    let g = k.0 in
    cc

-- a chain that stops at a refusal: there is no partition
pub no_partition : (s : List ℕ) (p : ℕ) (qs rs : List ℕ) (e : ℕ) → Partition s p e qs → size_of (piece_at s e) ≡ 0 → e < length s
    → Partition s p (length s) rs → ⊥
no_partition s p [] [] e h z l k = omega arith
no_partition s p [] (r ∷ rs) e h z l k = let y = rw h at k.1.0 in omega arith
no_partition s p (q ∷ qs) [] e h z l k = let f = size_fits s p h.1.0 in omega arith
no_partition s p (q ∷ qs) (r ∷ rs) e h z l k = no_partition s (p + size_of (piece_at s p)) qs rs e h.1.1 z l k.1.1

-- the starts of a partition rise
pub above : (s : List ℕ) (p : ℕ) (qs : List ℕ) (e : ℕ) → Partition s p e qs → (i : ℕ) → i < length qs → p ≤ get_or qs i 0
above s p [] e h i l = absurd (omega arith)
above s p (q ∷ qs) e h zero l = omega (arith, h.0)
above s p (q ∷ qs) e h (suc i) l = omega (arith, above s (p + size_of (piece_at s p)) qs e h.1.1 i (omega arith))

pub rises : (s : List ℕ) (p : ℕ) (qs : List ℕ) (e : ℕ) → Partition s p e qs → Rising qs (length qs)
rises s p [] e h i j l m = absurd (omega arith)
rises s p (q ∷ qs) e h zero zero l m = absurd (omega arith)
rises s p (q ∷ qs) e h zero (suc j) l m = omega (arith, h.0, h.1.0, above s (p + size_of (piece_at s p)) qs e h.1.1 j (omega arith))
rises s p (q ∷ qs) e h (suc i) zero l m = absurd (omega arith)
rises s p (q ∷ qs) e h (suc i) (suc j) l m = rises s (p + size_of (piece_at s p)) qs e h.1.1 i j (omega arith) (omega arith)

-- a piece stands at each of them, before the end
pub sized_at : (s : List ℕ) (p : ℕ) (qs : List ℕ) (e : ℕ) → Partition s p e qs → (i : ℕ) → i < length qs
    → 0 < size_of (piece_at s (get_or qs i 0))
sized_at s p [] e h i l = absurd (omega arith)
sized_at s p (q ∷ qs) e h zero l = rw h.0 h.1.0
sized_at s p (q ∷ qs) e h (suc i) l = sized_at s (p + size_of (piece_at s p)) qs e h.1.1 i (omega arith)

-- a partition goes forward
pub forward : (s : List ℕ) (p : ℕ) (qs : List ℕ) (e : ℕ) → Partition s p e qs → p ≤ e
forward s p [] e h = omega (arith, h)
forward s p (q ∷ qs) e h = omega (arith, forward s (p + size_of (piece_at s p)) qs e h.1.1)

-- a partition whose bytes all agree
pub partition_kept : {s t : List ℕ} (p e : ℕ) (qs : List ℕ) → Partition s p e qs → Agree s t p e → Partition t p e qs
partition_kept p e [] x g = x
partition_kept {s} {t} p e (q ∷ qs) x g =
    let f = forward s (p + size_of (piece_at s p)) qs e x.1.1 in
    let i = piece_same p x.1.0 (within p (p + size_of (piece_at s p)) g (omega arith) f) in (
      x.0,
      (
        subst (λ (z : Result Piece Fault). 0 < size_of z) (sym i) x.1.0,
        subst (λ (z : Result Piece Fault). Partition t (p + size_of z) e qs) (sym i)
            (partition_kept (p + size_of (piece_at s p)) e qs x.1.1 (within (p + size_of (piece_at s p)) e g (omega arith) (omega arith))),
      ),
    )

-- one partition after another
pub partition_append : (t : List ℕ) (a b c : ℕ) (qs rs : List ℕ) → Partition t a b qs → Partition t b c rs → Partition t a c (qs ++ rs)
partition_append t a b c [] rs x y = subst (λ (n : ℕ). Partition t n c rs) (sym x) y
partition_append t a b c (q ∷ qs) rs x y = (x.0, (x.1.0, partition_append t (a + size_of (piece_at t a)) b c qs rs x.1.1 y))
