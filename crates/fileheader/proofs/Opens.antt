-- The file header: which answer, from facts.
use Prim.Native.Nat.{ℕ, ◌+◌}
use mathlib.Core.List.{List}
use mathlib.Core.Path.{◌≡◌, refl}
use native.Mathlib.Omega.{arith}
use Rattle.std.specs.Prelude.{Ok, Err}
use Rattle.std.proofs.lemmas.Bool.Decides.{nat_tests}
use Rattle.wire.specs.Check.{All}
use Rattle.wire.specs.Fault.{fault}
use Rattle.wire.specs.Number.{num_at}
use Rattle.wire.proofs.Answers.{gives}
use Rattle.wire.proofs.Checks.{from_picked}
use Rattle.wire.specs.declared.fault.Reason.TheVariants as reason
use Rattle.fileheader.specs.File.{file_width, file_number, file_head, long_enough, magic, units, bounds, opened_as}
use Rattle.fileheader.specs.declared.FileHead.{FileHead}

-- where the numbers after END stand, over the width w
pub record Placed (s : List ℕ) (w : ℕ) : Type 0 where
  pub nbytesname : file_number s 7 ≡ num_at 4 s (12 + w + w + 8)
  pub units : file_number s 8 ≡ num_at 1 s (w + w + 24)
  pub seekinfo : file_number s 10 ≡ num_at w s (12 + w + w + 17)
  pub nbytesinfo : file_number s 11 ≡ num_at 4 s (12 + w + w + 17 + w)

pub placed : (s : List ℕ) → Placed s (file_width s)
placed s =
    let w = file_width s in
    let x = 12 + w + w in
    let a : x + 4 + 4 ≡ x + 8 = omega arith in
    let b : x + 8 + 4 ≡ w + w + 24 = omega arith in
    let c : w + w + 24 + 1 + 4 ≡ x + 17 = omega arith in
    record {
      nbytesname = rw a refl;
      units = rw (a, b) refl;
      seekinfo = rw (a, b, c) refl;
      nbytesinfo = rw (a, b, c) refl;
    }

-- what shows which answer `open` gives
pub ruleset tests = (nat_tests, placed, gives)

-- what a file header that was read is
pub record Opens (s : List ℕ) (h : FileHead) : Type 0 where
  pub long : All (long_enough s)
  pub magic_is : All (magic s)
  pub units_is : All (units s)
  pub bounds_is : All (bounds s)
  pub is : h ≡ file_head s

pub from_opened : (s : List ℕ) {h : FileHead} → Ok h ≡ opened_as s → Opens s h
unfolding opened_as
from_opened s e =
    let a = from_picked (long_enough s) _ _ e (λ i. cc) in
    let b = from_picked (magic s) _ _ a.0 (λ i. cc) in
    let c = from_picked (units s) _ _ b.0 (λ i. cc) in
    let d = from_picked (bounds s) (Ok (file_head s)) (Err (fault reason.Bounds 0)) c.0 (λ i. cc) in
    let y = d.0 in
    record { long = a.1; magic_is = b.1; units_is = c.1; bounds_is = d.1; is = cc }
