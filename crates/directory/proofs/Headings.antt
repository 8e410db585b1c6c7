-- Directory headers: which answer, from facts, and back.
use Prim.Native.Nat.{ℕ}
use mathlib.Core.List.{List}
use mathlib.Core.Path.{◌≡◌}
use Rattle.std.proofs.lemmas.Bool.Decides.{nat_tests}
use Rattle.wire.proofs.Answers.{gives}
use Rattle.wire.specs.Check.{All}
use Rattle.wire.proofs.Checks.{from_picked}
use Rattle.key.specs.Piece.{piece_at}
use Rattle.key.specs.declared.header.Key.{Key}
use Rattle.std.specs.Prelude.{Some, None, Ok}
use Rattle.key.specs.declared.piece.Piece.TheVariants.{Record}
use Rattle.key.proofs.Others.{from_on, if_none, if_some}
use Rattle.directory.specs.Dir.{head_record, head_in}
use Rattle.directory.specs.declared.DirHead.{DirHead}

-- what shows which header is read
pub ruleset tests = (nat_tests, gives, if_none, if_some)

-- the head that was read is a record that passes
pub from_head : (s : List ℕ) (n : ℕ) {d : DirHead} → Some d ≡ head_in s n → (k : Key) × (piece_at s 100 ≡ Ok (Record k)) × All (head_record s k)
unfolding head_in
from_head s n e =
    let r = from_on _ _ (piece_at s 100) e (λ i. cc) in
    (r.0, r.1, (from_picked (head_record s r.0) _ None r.2 (λ i. cc)).1)
