-- The walk over a partition, and the table that its starts are written to.
use Prim.Native.Nat.{ℕ, suc, ◌+◌, ◌≤◌, ◌<◌}
use mathlib.Core.Bool.{Bool, true}
use mathlib.Core.List.{List, [], ◌∷◌, ◌++◌, append_assoc}
use mathlib.Core.Path.{◌≡◌, refl, sym, ap, ◌∙◌, subst}
use native.Mathlib.Omega.{arith}
use lib.ListN.{length, drop, set, get_or, length-append, length-take, length-drop, drop_of_length-le}
use lib.Seq.{take_all, drop-cons, set_at, take-append-le}
use Rattle.wire.specs.Number.{num_at}
use Rattle.key.specs.Short.{Certain}
use Rattle.key.specs.Piece.{piece_at, size_of, piece_answer}
use Rattle.key.specs.Piece.{answer_of as told_of}
use Rattle.std.specs.Prelude.{Result, Ok, Err}
use Rattle.wire.specs.Fault.{fault, answer_of}
use Rattle.wire.specs.declared.fault.Reason.TheVariants as reason
use Rattle.wire.specs.declared.fault.Fault.{Fault}
use Rattle.key.specs.declared.piece.Piece.{Piece}
use Rattle.key.specs.declared.piece.Piece.TheVariants.{Record, Gap}
use Rattle.key.proofs.Pieces.{size_fits, from_gap, from_refused, record_sized}
use Rattle.rules.specs.Partition.{Partition}
use Rattle.rules.proofs.Partitions.{snoc}
use Rattle.chain.specs.Walk.{step_of, over, Walked, Walks}

-- a record with short strings has the size that stands there
pub short_step : (s : List ℕ) (p : ℕ) {n : ℕ} {b : Bool} → n ≡ num_at 4 s p → Certain s p b → b ≡ true → Ok n ≡ step_of (piece_at s p)
short_step s p e f h = let r = f h in ap (λ (n : ℕ). Ok n) (e ∙ sym r.2) ∙ ap step_of (sym r.1)

-- the table
pub length_over : (qs t : List ℕ) → length (over qs t) ≡ length t
length_over qs t = simp (length-append, length-take, length-drop) (omega arith)

grown : (qs : List ℕ) (a : ℕ) → length (qs ++ a ∷ []) ≡ suc (length qs)
grown qs a = rw length-append (omega arith)

-- a list that has room
pub roomy : (qs t : List ℕ) → length qs ≤ length t → over qs t ≡ qs ++ drop (length qs) t
roomy qs t l = rw (take_all (length t) qs l)

over_store : (qs t : List ℕ) (n a : ℕ) → n ≡ length qs → n < length t → set (over qs t) n a ≡ over (qs ++ a ∷ []) t
over_store qs t n a e l =
    let k : length qs < length t = omega arith in
    rw (
      e,
      roomy qs t (omega arith),
      drop-cons t (length qs) 0 k,
      set_at qs (get_or t (length qs) 0) (drop (suc (length qs)) t) a (length qs) refl,
      roomy (qs ++ a ∷ []) t (rw grown k),
      grown,
      append_assoc,
    )

over_full : (qs t : List ℕ) (a : ℕ) → length t ≤ length qs → over qs t ≡ over (qs ++ a ∷ []) t
over_full qs t a l =
    rw (
      take-append-le (length t) qs (a ∷ []) l,
      drop_of_length-le t {i = length qs} l,
      drop_of_length-le t {i = length (qs ++ a ∷ [])} (rw grown (omega arith)),
    )

over_none : (t : List ℕ) → t ≡ over [] t
over_none [] = refl
over_none (a ∷ t) = refl

-- a file that is too short, and one that is not
pub too_short : (s t : List ℕ) → length s < 100 → Walks s t t (Err (fault reason.Short 0))
too_short s t l = record { short = λ k. (refl, refl); long = λ k. absurd (omega arith); told = λ k. absurd (omega arith) }

tells : (s t u : List ℕ) (r : Result ℕ Fault) → Walked s t u r → (f : Fault) → r ≡ Err f → answer_of r ≡ piece_answer s f.place
unfolding piece_answer
tells s t u (Ok n) h f e = let z : ◌≡◌ {A = ℕ} 0 1 = cc in absurd (omega arith)
tells s t u (Err d) h f e =
    let i : d ≡ f = cc in
    sym (ap told_of h.3) ∙ ap (λ (x : Fault). told_of (piece_at s x.place)) i

long_enough_law : {s t u : List ℕ} {r : Result ℕ Fault} → 100 ≤ length s → Walked s t u r → Walks s t u r
long_enough_law {s} {t} {u} {r} l h = record { short = λ k. absurd (omega arith); long = λ k. h; told = λ k. tells s t u r h }

-- while the chain is walked: the starts so far, as a list
pub record Walking (s t u : List ℕ) (at n : ℕ) : Type 0 where
  pub starts : List ℕ
  pub chain : Partition s 100 at starts
  pub count : n ≡ length starts
  pub table : u ≡ over starts t
  pub enough : 100 ≤ length s
  pub within : at ≤ length s
  pub small : n ≤ at

pub began : (s t : List ℕ) → 100 ≤ length s → Walking s t t 100 0
began s t l = record { starts = []; chain = refl; count = refl; table = over_none t; enough = l; within = l; small = omega arith }

-- the step at a place
pub record Sized (s : List ℕ) (p n : ℕ) : Type 0 where
  pub is : n ≡ size_of (piece_at s p)
  pub some : 4 ≤ n
  pub fits : p + n ≤ length s

-- a piece that was stepped over
sized_by : (s : List ℕ) (p : ℕ) (r : Result Piece Fault) {n : ℕ} → piece_at s p ≡ r → Ok n ≡ step_of r → Sized s p n
sized_by s p (Ok (Record k)) {n = v} i e =
    let f : 0 < size_of (piece_at s p) = rw i (omega (arith, record_sized s p i)) in
    let g = size_fits s p f in
    let o = ap size_of i in
    let m : v ≡ k.nbytes = cc in
    record { is = omega arith; some = omega arith; fits = omega arith }
sized_by s p (Ok (Gap m)) {n = v} i e =
    let g = from_gap s p i in
    let o = ap size_of i in
    let l : v ≡ m = cc in
    record { is = omega arith; some = omega arith; fits = omega arith }
sized_by s p (Err f) i e = let z : ◌≡◌ {A = ℕ} 0 1 = cc in absurd (omega arith)

pub stepped : (s : List ℕ) (p : ℕ) {n : ℕ} → Ok n ≡ step_of (piece_at s p) → Sized s p n
stepped s p e = sized_by s p (piece_at s p) refl e

-- a refusal that was met
stopped_by : (s : List ℕ) (p : ℕ) (r : Result Piece Fault) {f : Fault} → piece_at s p ≡ r → Err f ≡ step_of r → (f.place ≡ p) × (piece_at s p ≡ Err f)
stopped_by s p (Ok (Record k)) i e = let z : ◌≡◌ {A = ℕ} 0 1 = cc in absurd (omega arith)
stopped_by s p (Ok (Gap m)) i e = let z : ◌≡◌ {A = ℕ} 0 1 = cc in absurd (omega arith)
stopped_by s p (Err d) {f} i e =
    let g : d ≡ f = cc in
    let j = i ∙ ap (λ (x : Fault). Err x) g in
    (from_refused s p j, j)

pub stopped : (s : List ℕ) (p : ℕ) {f : Fault} → Err f ≡ step_of (piece_at s p) → (f.place ≡ p) × (piece_at s p ≡ Err f)
stopped s p e = stopped_by s p (piece_at s p) refl e

-- one turn of the walk, with the table as it is then
pub turn : (s t u v : List ℕ) (at n size : ℕ) → (w : Walking s t u at n) → Sized s at size
    → v ≡ over (w.starts ++ at ∷ []) t → Walking s t v (at + size) (n + 1)
turn s t u v at n size w h e = record {
  starts = w.starts ++ at ∷ [];
  chain = rw h.is (snoc s 100 w.starts at w.chain (omega (arith, h.is, h.some)));
  count = rw grown (omega (arith, w.count));
  table = e;
  enough = w.enough;
  within = h.fits;
  small = omega (arith, w.small, h.some);
}

module _ {s t u : List ℕ} {at n : ℕ} (w : Walking s t u at n) where
  pub kept : length u ≡ length t
  kept = ap length w.table ∙ length_over w.starts t

  -- the table after a turn: stored where there is room, else as it was
  pub stored : n < length u → set u n at ≡ over (w.starts ++ at ∷ []) t
  stored l = rw w.table (over_store w.starts t n at w.count (omega (arith, kept)))

  pub skipped : length u ≤ n → u ≡ over (w.starts ++ at ∷ []) t
  skipped l = w.table ∙ over_full w.starts t at (omega (arith, kept, w.count))

  pub ended : length s ≤ at → Walks s t u (Ok n)
  ended l =
      let e : at ≡ length s = omega (arith, w.within) in
      long_enough_law w.enough (w.starts, rw e at w.chain, w.count, w.table)

  pub faulted : {f : Fault} → at < length s → Err f ≡ step_of (piece_at s at) → Walks s t u (Err f)
  faulted {f} l e =
      let g = stopped s at e in
      long_enough_law w.enough (w.starts, subst (λ (x : ℕ). Partition s 100 x w.starts) (sym g.0) w.chain, omega (arith, g.0), ap (piece_at s) g.0 ∙ g.1, w.table)
