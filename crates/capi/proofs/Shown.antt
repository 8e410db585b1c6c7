-- A piece handed over as fifteen numbers; a cycle that is passed on.
use Prim.Native.Nat.{ℕ}
use mathlib.Core.List.{List}
use mathlib.Core.Path.{◌≡◌, sym, ap, subst, ◌∙◌}
use lib.IntN.{ℤ}
use Rattle.wire.specs.Number.{bits16}
use Rattle.wire.specs.declared.Answer.{Answer}
use Rattle.std.specs.Prelude.{Option}
use Rattle.key.specs.Piece.{answer_of}
use Rattle.key.specs.Writer.{Reads, Writes}
use Rattle.std.specs.Prelude.{Result}
use Rattle.wire.specs.declared.fault.Fault.{Fault}
use Rattle.key.specs.declared.piece.Piece.{Piece}
use Rattle.capi.specs.Told.{piece_list, Shows, held_bits, stored_cycle, fields_of}

-- q is the piece that was read at p
pub shown : (s : List ℕ) (p : ℕ) {r : (Result Piece Fault)} (q : Result Piece Fault) {fields : List ℕ} → Reads s p r → r ≡ q → fields ≡ piece_list q
    → Shows s p fields (answer_of q)
shown s p q h e f = record {
  answer = ap answer_of (sym e) ∙ h.answer;
  fields_are = f ∙ ap piece_list (sym e ∙ h.piece);
  reads = subst (Reads s p) h.piece h;
}

pub cycle_bits : {b c : (Option ℕ)} {y z : ℤ} → b ≡ c → b ≡ bits16 y → y ≡ z → held_bits c ≡ stored_cycle z
unfolding stored_cycle
cycle_bits e f i = ap held_bits (sym e ∙ f ∙ ap bits16 i)

-- a key that was written, with a cycle that is the one given
pub wrote : (nbytes version objlen datime : ℕ) {y z : ℤ} (seekkey seekpdir : ℕ) {class name title buf buf' : List ℕ} {r : Answer} → y ≡ z
    → Writes (fields_of nbytes version objlen datime y seekkey seekpdir) class name title buf buf' r
    → Writes (fields_of nbytes version objlen datime z seekkey seekpdir) class name title buf buf' r
wrote nbytes version objlen datime seekkey seekpdir {class} {name} {title} {buf} {buf'} {r} e h =
    subst (λ (z : ℤ). Writes (fields_of nbytes version objlen datime z seekkey seekpdir) class name title buf buf' r) e h
