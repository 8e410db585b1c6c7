-- Where the list of a record lies, and where there is none.
use Prim.Native.Nat.{ℕ, ◌+◌, ◌≤◌}
use mathlib.Core.List.{List}
use mathlib.Core.Path.{◌≡◌, refl, sym, ◌∙◌}
use native.Mathlib.Omega.{arith}
use borrow.Author.Tests.{ne_eqb}
use lib.ListN.{length}
use Rattle.std.specs.Prelude.{Result, Ok, Err}
use Rattle.wire.specs.Fault.{fault}
use Rattle.wire.specs.declared.fault.Fault.{Fault}
use Rattle.wire.specs.declared.fault.Reason.TheVariants as reason
use Rattle.key.specs.Piece.{piece_at}
use Rattle.key.specs.Writer.{Reads}
use Rattle.key.specs.declared.header.Key.{Key}
use Rattle.key.specs.declared.piece.Piece.{Piece}
use Rattle.key.specs.declared.piece.Piece.TheVariants.{Record, Gap}
use Rattle.key.proofs.Pieces.{from_record}
use Rattle.infofield.specs.Field.{◌>>=◌, bad_field, count_at}
use Rattle.infofield.specs.declared.field.Body.{Body}
use Rattle.infolist.specs.List.{whole_list_at, on_piece, info_list_at}

-- a record that was read lies in the file and takes less than 2^31 bytes, its key among them
pub record_bounds : (s : List ℕ) (p : ℕ) (r : Result Piece Fault) (k : Key) → Reads s p r → r ≡ Ok (Record k)
    → (k.nbytes ≤ 2147483647) × (k.keylen ≤ k.nbytes) × (p + k.nbytes ≤ length s)
record_bounds s p r k e i =
    let h = from_record s p (sym e.piece ∙ i) in
    let f = h.header.fits in
    (omega arith, omega arith, omega (arith, h.size, h.sized_there))

-- a list that ends before the data does
pub fills_not : (s : List ℕ) (p e : ℕ) {y : Result Body Fault} → y ≡ count_at s p e → {b : Body} → y ≡ Ok b → (b.close ≡ e → ⊥)
    → Err (bad_field p) ≡ whole_list_at s p e
unfolding whole_list_at
fills_not s p e is {b} g h = rw (sym is ∙ g, ne_eqb b.close e h)

-- no list at a piece that is no record
pub of_none : (s : List ℕ) (p : ℕ) {y : Result Piece Fault} → y ≡ piece_at s p → ((k : Key) → y ≡ Ok (Record k) → ⊥)
    → (y >>= (λ x. Err (fault reason.NotInfo p))) ≡ info_list_at s p
unfolding info_list_at
of_none s p {y} is h = rw (← is) (go y h)
  where
    go : (x : Result Piece Fault) → ((k : Key) → x ≡ Ok (Record k) → ⊥) → (x >>= (λ z. Err (fault reason.NotInfo p))) ≡ (x >>= on_piece s p)
    go (Ok (Record k)) i = absurd (i k refl)
    go (Ok (Gap n)) i = refl
    go (Err d) i = refl
