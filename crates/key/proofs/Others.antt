-- A piece that was read and is no record, as the `else` of `let Piece::Record(k) = .. else { .. }` knows it.
use Prim.Native.Nat.{ℕ, ◌+◌, ◌≤◌}
use lib.ListN.{length}
use mathlib.Core.List.{List}
use mathlib.Core.Path.{◌≡◌, refl, sym, ap, ◌∙◌}
use native.Mathlib.Omega.{arith}
use Rattle.key.proofs.Pieces.{from_record}
use Rattle.key.specs.Piece.{piece_at, on_record, record_at}
use Rattle.std.proofs.lemmas.Option.{none-some}
use Rattle.key.specs.Writer.{Reads}
use Rattle.key.specs.declared.header.Key.{Key}
use Rattle.std.specs.Prelude.{Some, None, Result, Ok, Err}
use Rattle.wire.specs.declared.fault.Fault.{Fault}
use Rattle.key.specs.declared.piece.Piece.{Piece}
use Rattle.key.specs.declared.piece.Piece.TheVariants.{Record, Gap}

-- a fact of every gap and every refusal is a fact of a piece that is no record
pub no_record : (P : Result Piece Fault → Type 0) (r : Result Piece Fault) → ((k : Key) → r ≡ Ok (Record k) → ⊥) → ((n : ℕ) → P (Ok (Gap n)))
    → ((e : Fault) → P (Err e)) → P r
no_record P (Ok (Record k)) h f g = absurd (h k refl)
no_record P (Ok (Gap n)) h f g = f n
no_record P (Err e) h f g = g e

module _ {A : Type 0} (f : Result Piece Fault → A) (s : List ℕ) (p : ℕ) {r : Result Piece Fault} (e : Reads s p r) where
  -- what is answered where no record stands at p
  pub if_other : (b : A) → ((k : Key) → r ≡ Ok (Record k) → ⊥) → ((n : ℕ) → b ≡ f (Ok (Gap n))) → ((e : Fault) → b ≡ f (Err e))
      → b ≡ f (piece_at s p)
  if_other b h g i = no_record (λ (r : Result Piece Fault). b ≡ f r) r h g i ∙ ap f e.piece

  -- what is answered for the record k at p
  pub if_record : {k : Key} {b : A} → r ≡ Ok (Record k) → b ≡ f (Ok (Record k)) → b ≡ f (piece_at s p)
  if_record i h = h ∙ ap f (sym i ∙ e.piece)

-- a record lies in the file, and its key in the record
pub record_there_law : (s : List ℕ) (p : ℕ) {k : Key} → piece_at s p ≡ Ok (Record k) → (p + k.nbytes ≤ length s) × (k.keylen ≤ k.nbytes)
record_there_law s p e =
    let h = from_record s p e in
    (omega (arith, h.size, h.sized_there), h.header.fits.1.1.1.1.1.0)

pub record_lies : (s : List ℕ) (p : ℕ) {r : Result Piece Fault} {k : Key} → Reads s p r → r ≡ Ok (Record k)
    → (p + k.nbytes ≤ length s) × (k.keylen ≤ k.nbytes)
record_lies s p e i = record_there_law s p (sym e.piece ∙ i)

-- what is said where no record was read, and of a record
module _ {A : Type 0} (bad : A) (f : Key → A) {x : (Result Piece Fault)} where
  pub on_other : {r : Result Piece Fault} → r ≡ x → ((k : Key) → r ≡ Ok (Record k) → ⊥) → bad ≡ on_record bad f x
  unfolding on_record
  on_other {r} e h = no_record (λ (r : Result Piece Fault). bad ≡ on_record bad f r) r h (λ n. refl) (λ e. refl) ∙ ap (on_record bad f) e

  pub on_record_law : {k : Key} {v : A} → x ≡ Ok (Record k) → v ≡ f k → v ≡ on_record bad f x
  unfolding on_record
  on_record_law i h = rw i h

-- and back: what is not bad was said of a record
pub from_on : {A : Type 0} (bad : A) (f : Key → A) (x : Result Piece Fault) {v : A} → v ≡ on_record bad f x → (v ≡ bad → ⊥)
    → (k : Key) × (x ≡ Ok (Record k)) × (v ≡ f k)
unfolding on_record
from_on bad f (Ok (Record k)) e n = (k, refl, e)
from_on bad f (Ok (Gap m)) e n = absurd (n e)
from_on bad f (Err d) e n = absurd (n e)

-- the record at p, as it was read
pub at_record : (s : List ℕ) (p : ℕ) {k : Key} → Some k ≡ record_at s p → piece_at s p ≡ Ok (Record k)
unfolding record_at on_record
at_record s p {k} e = go (piece_at s p) refl e
  where
    go : (x : Result Piece Fault) → piece_at s p ≡ x → Some k ≡ on_record None Some x → piece_at s p ≡ Ok (Record k)
    go (Ok (Record l)) i g = i ∙ cc
    go (Ok (Gap n)) i g = let z : ◌≡◌ {A = ℕ} 0 1 = cc in absurd (omega arith)
    go (Err d) i g = let z : ◌≡◌ {A = ℕ} 0 1 = cc in absurd (omega arith)

-- what is said of the record at p, from what was read of it
module _ {A : Type 0} (bad : A) (f : Key → A) (s : List ℕ) (p : ℕ) where
  pub if_none : None ≡ record_at s p → bad ≡ on_record bad f (piece_at s p)
  unfolding record_at
  if_none e = on_other bad f refl (λ k h. none-some k (e ∙ sym (on_record_law None Some h refl)))

  pub if_some : {k : Key} → Some k ≡ record_at s p → f k ≡ on_record bad f (piece_at s p)
  if_some e = on_record_law bad f (at_record s p e) refl

-- as a read of the piece tells it
pub record_read : (s : List ℕ) (p : ℕ) {r : Result Piece Fault} {k : Key} → Reads s p r → r ≡ Ok (Record k) → Some k ≡ record_at s p
unfolding record_at
record_read s p e i = on_record_law None Some (sym e.piece ∙ i) refl

pub other_read : (s : List ℕ) (p : ℕ) {r : Result Piece Fault} → Reads s p r → ((k : Key) → r ≡ Ok (Record k) → ⊥) → None ≡ record_at s p
unfolding record_at
other_read s p e h = on_other None Some e.piece h
