-- Pieces: which answer a place gets, from facts, and what an answer says of the file.
use Prim.Native.Nat.{ℕ, ◌+◌, ◌≤◌, ◌<◌, ◌-◌}
use mathlib.Core.List.{List}
use mathlib.Core.Bool.{Bool, true, false}
use mathlib.Core.Logic.{◌⊎◌, inl, inr, ⊎_elim}
use mathlib.Core.Path.{◌≡◌, refl, sym, ap, ◌∙◌}
use native.Mathlib.Omega.{arith}
use borrow.Author.Tests.{lt-ltb, le-ltb, eq-eqb, ne_eqb, eqb-true}
use lib.Dec.{eqb}
use lib.IntN.{nat_abs}
use Rattle.wire.specs.Check.{All, pick}
use Rattle.wire.specs.Number.{num_at, signed_of}
use Rattle.key.specs.Header.{header_in}
use Rattle.std.specs.Prelude.{Option, Some, None}
use lib.ListN.{length}
use Rattle.key.specs.Piece.{size_at, record_there, sized, record_of, piece_at, answer_of, piece_answer, size_of}
use Rattle.key.specs.declared.header.Key.{Key}
use Rattle.std.specs.Prelude.{Result, Ok, Err}
use Rattle.wire.specs.Fault.{fault, number_of}
use Rattle.wire.specs.declared.fault.Reason.TheVariants as reason
use Rattle.wire.specs.declared.fault.Fault.{Fault}
use Rattle.key.specs.declared.piece.Piece.{Piece}
use Rattle.key.specs.declared.piece.Piece.TheVariants.{Record, Gap}
use Rattle.wire.proofs.Checks.{yes_all, not_all, all_or, below_or, false_true}
use Rattle.key.specs.Header.{width_at, key_at}
use Rattle.key.proofs.Headers.{Formed, names_of, placed, from_good}

-- the size for a number: a number below 2^31 gives a record, any other a gap
pub plus : (n : ℕ) → n < 2147483648 → nat_abs (signed_of 4 n) ≡ n
unfolding signed_of
plus n h = rw (lt-ltb (n + n) 4294967296 (omega arith))

pub minus : (n : ℕ) → 2147483648 ≤ n → n < 4294967296 → nat_abs (signed_of 4 n) ≡ 4294967296 - n
unfolding signed_of
minus n h l = rw (le-ltb (n + n) 4294967296 (omega arith)) (omega arith)

module _ (s : List ℕ) (p : ℕ) where
  pub size_plus : num_at 4 s p < 2147483648 → size_at s p ≡ num_at 4 s p
  unfolding size_at
  size_plus h = plus (num_at 4 s p) h

  pub is_record_law : num_at 4 s p < 2147483648 → record_there s p ≡ true
  unfolding record_there signed_of
  is_record_law h = rw (lt-ltb (num_at 4 s p + num_at 4 s p) 4294967296 (omega arith))

  pub size_minus : 2147483648 ≤ num_at 4 s p → num_at 4 s p < 4294967296 → size_at s p ≡ 4294967296 - num_at 4 s p
  unfolding size_at
  size_minus h l = minus (num_at 4 s p) h l

  -- the size, from the number that was read
  pub size_read : {n m : ℕ} → n ≡ num_at 4 s p → m ≡ nat_abs (signed_of 4 n) → m ≡ size_at s p
  unfolding size_at
  size_read e h = h ∙ ap (λ (n : ℕ). nat_abs (signed_of 4 n)) e

  pub is_gap_law : 2147483648 ≤ num_at 4 s p → record_there s p ≡ false
  unfolding record_there signed_of
  is_gap_law h = rw (le-ltb (num_at 4 s p + num_at 4 s p) 4294967296 (omega arith))

  -- an answer, with its number, place and count
  abbrev pub Answered : Result Piece Fault → Type 0
  Answered r = (r ≡ piece_at s p) × (answer_of r ≡ piece_answer s p)

  answered : {r : Result Piece Fault} → r ≡ piece_at s p → Answered r
  unfolding piece_answer
  answered e = (e, ap answer_of e)

  pub no_piece : (All (sized s p) → ⊥) → Answered (Err (fault reason.Chain p))
  unfolding piece_at
  no_piece h = answered (rw (not_all (sized s p) h))

  pub gap_there : 2147483648 ≤ num_at 4 s p → All (sized s p) → {n : ℕ} → n ≡ size_at s p → Answered (Ok (Gap n))
  unfolding piece_at
  gap_there l h e = answered (rw (yes_all (sized s p) h, is_gap_law l) (ap (λ (n : ℕ). Ok (Gap n)) e))

  -- the number at p is n, and gives a record of n bytes that lies in the file
  pub record Numbered (n : ℕ) : Type 0 where
    pub is : n ≡ num_at 4 s p
    pub low : n < 2147483648
    pub fits : All (sized s p)

  -- as it is worked out of the number at p
  pub numbered : {v n : ℕ} → v ≡ num_at 4 s p → n ≡ nat_abs (signed_of 4 v) → v < 2147483648 → 4 ≤ n → n ≤ length s - p → p ≤ length s
      → Numbered n
  numbered {v} {n} e f l a b q =
      let i = f ∙ plus v l in
      let j = size_read e f in
      record { is = i ∙ e; low = omega (arith, i); fits = (omega (arith, j), (omega (arith, j), tt)) }

  -- what its header answers
  module _ {n : ℕ} (h : Numbered n) where
    low : num_at 4 s p < 2147483648
    low = omega arith

    answers : (x : Option Key) → x ≡ header_in s p (p + n) → record_of p x ≡ piece_at s p
    unfolding piece_at
    answers x e =
        let m : p + n ≡ p + size_at s p = omega (arith, size_plus low) in
        rw (yes_all (sized s p) h.fits, is_record_law low) (ap (record_of p) (rw m at e))

    pub bad_header : None ≡ header_in s p (p + n) → Answered (Err (fault reason.Key p))
    bad_header e = answered (answers None e)

    pub other_seek : {k : Key} → Some k ≡ header_in s p (p + n) → (k.seekkey ≡ p → ⊥) → Answered (Err (fault reason.Key p))
    other_seek {k} e d = answered (rw (ne_eqb k.seekkey p d) at (answers (Some k) e))

    pub record_there_law : {k : Key} → Some k ≡ header_in s p (p + n) → k.seekkey ≡ p → Answered (Ok (Record k))
    record_there_law {k} e d = answered (rw (eq-eqb k.seekkey p d) at (answers (Some k) e))

  -- what a record at p says of the file
  pub record Recorded (k : Key) : Type 0 where
    pub sized_there : All (sized s p)
    pub size : size_at s p ≡ k.nbytes
    pub place : k.seekkey ≡ p
    pub header : Formed s p (p + size_at s p) k

  -- the piece at p, by cases
  pub data View : Result Piece Fault → Type 0 where
    no_size : (All (sized s p) → ⊥) → View (Err (fault reason.Chain p))
    no_key : All (sized s p) → record_there s p ≡ true → View (Err (fault reason.Key p))
    a_record : {k : Key} → Recorded k → View (Ok (Record k))
    a_gap : All (sized s p) → record_there s p ≡ false → View (Ok (Gap (size_at s p)))

  -- a number that gives a record gives its size
  plus_size : record_there s p ≡ true → size_at s p ≡ num_at 4 s p
  plus_size e =
      ⊎_elim (λ (l : num_at 4 s p < 2147483648). size_plus l)
      (λ (l : 2147483648 ≤ num_at 4 s p). false_true (sym (is_gap_law l) ∙ e))
      (below_or (num_at 4 s p) 2147483648)

  view_header : All (sized s p) → record_there s p ≡ true → (x : Option Key) → x ≡ header_in s p (p + size_at s p) → View (record_of p x)
  unfolding key_at
  view_header h e (Some k) i = go (eqb k.seekkey p) refl
    where
      go : (b : Bool) → eqb k.seekkey p ≡ b → View (pick b (Ok (Record k)) (Err (fault reason.Key p)))
      go true j =
          let g = from_good s p (p + size_at s p) i in
          let n : k.nbytes ≡ num_at 4 s p = ap (λ (k : Key). k.nbytes) g.is ∙ (placed (width_at s p) s p (names_of k)).nbytes in
          a_record (record { sized_there = h; size = plus_size e ∙ sym n; place = eqb-true k.seekkey p j; header = g })
      go false j = no_key h e
  view_header h e None i = no_key h e

  pub view : View (piece_at s p)
  unfolding piece_at
  view =
      ⊎_elim (λ (h : All (sized s p)). rw (yes_all (sized s p) h) (by (record_there s p) h refl))
      (λ (h : All (sized s p) → ⊥). rw (not_all (sized s p) h) (no_size h))
      (all_or (sized s p))
    where
      by : (b : Bool) → All (sized s p) → record_there s p ≡ b
          → View (pick b (record_of p (header_in s p (p + size_at s p))) (Ok (Gap (size_at s p))))
      by true h e = view_header h e (header_in s p (p + size_at s p)) refl
      by false h e = a_gap h e

  viewed : {r : Result Piece Fault} → piece_at s p ≡ r → View r
  viewed e = rw e at view

  pub from_record : {k : Key} → piece_at s p ≡ Ok (Record k) → Recorded k
  from_record e = go (viewed e)
    where
      go : {k : Key} → View (Ok (Record k)) → Recorded k
      go (a_record h) = h

  gap_at : {n : ℕ} → View (Ok (Gap n)) → ((4 ≤ n) × (p + n ≤ length s)) × (record_there s p ≡ false)
  gap_at (a_gap h e) = ((h.0, h.1.0), e)

  -- what a gap at p says of the file
  pub from_gap : {n : ℕ} → piece_at s p ≡ Ok (Gap n) → (4 ≤ n) × (p + n ≤ length s)
  from_gap e = (gap_at (viewed e)).0

  -- where a record's number stands is no gap
  pub no_gap : num_at 4 s p < 2147483648 → {n : ℕ} → piece_at s p ≡ Ok (Gap n) → ⊥
  no_gap l e = false_true (sym (gap_at (viewed e)).1 ∙ is_record_law l)

  -- a refusal at p names p, with 5 or 6
  refused_at : {f : Fault} → View (Err f) → (f.place ≡ p) × ((number_of f.reason ≡ 5) ⊎ (number_of f.reason ≡ 6))
  refused_at (no_size h) = (refl, inl refl)
  refused_at (no_key h i) = (refl, inr refl)

  pub from_refused : {f : Fault} → piece_at s p ≡ Err f → f.place ≡ p
  from_refused e = (refused_at (viewed e)).0

  pub refused_number : {f : Fault} → piece_at s p ≡ Err f → (number_of f.reason ≡ 5) ⊎ (number_of f.reason ≡ 6)
  refused_number e = (refused_at (viewed e)).1

  -- a piece that is no refusal has at least 4 bytes and ends in the file
  lies : (r : Result Piece Fault) → piece_at s p ≡ r → 0 < size_of r → (4 ≤ size_of r) × (p + size_of r ≤ length s)
  lies (Ok (Record k)) e l = let h = from_record e in omega (arith, h.size, h.sized_there)
  lies (Ok (Gap n)) e l = from_gap e
  lies (Err f) e l = absurd (omega arith)

  pub size_fits : 0 < size_of (piece_at s p) → (4 ≤ size_of (piece_at s p)) × (p + size_of (piece_at s p) ≤ length s)
  size_fits l = lies (piece_at s p) refl l

  -- a record has at least 4 bytes
  pub record_sized : {k : Key} → piece_at s p ≡ Ok (Record k) → 4 ≤ k.nbytes
  record_sized e = let h = from_record e in omega (arith, h.size, h.sized_there)
