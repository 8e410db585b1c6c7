-- 73,800 bytes hold every listing: 1,025 lines of at most 72.
use Prim.Native.Nat.{ℕ, ◌≤◌}
use mathlib.Core.Bool.{Bool, true, false}
use mathlib.Core.List.{List}
use mathlib.Core.Path.{◌≡◌, refl}
use native.Mathlib.Omega.{arith}
use borrow.Author.Tests.{leb-true}
use lib.Dec.{leb}
use lib.ListN.{length, length-append, length-replicate}
use Rattle.wire.specs.Check.{pick}
use Rattle.wire.specs.declared.Answer.{Answer}
use Rattle.fileheader.specs.File.{opened_as}
use Rattle.fileheader.specs.declared.FileHead.{FileHead}
use Rattle.std.specs.Prelude.{Result, Ok, Err}
use Rattle.wire.specs.declared.fault.Fault.{Fault}
use Rattle.rules.specs.Free.{compared}
use Rattle.rules.specs.Order.{Chain, whole, fault, chain, ruled, Verdict, refused, on_turn, on_chain, on_opened, verdict, starts_of}
use Rattle.rules.specs.Turn.{Turn, going, stop}
use Rattle.table.specs.Table.{filled}
use Rattle.report.specs.Report.{rows_of, report_of}
use Rattle.report.proofs.Listed.{rows_within}
use Rattle.report.proofs.Reports.{report_short}
use Rattle.listing.specs.Listing.{room, reported, too_long, input_limit, listing_of}

-- a pass has no more rows than there is room for
module _ (s : List ℕ) (room : ℕ) where
  in_turn : (qs : List ℕ) → length qs ≤ room → (t : Turn) → length (starts_of (on_turn qs t)) ≤ room
  in_turn qs l (going ps os c) = l
  in_turn qs l (stop c p) = omega arith

  in_chain : (h : FileHead) (c : Chain) → length (starts_of (on_chain compared s room h c)) ≤ room
  in_chain h (fault c p) = omega arith
  in_chain h (whole qs) = go (leb (length qs) room) refl
    where
      go : (t : Bool) → leb (length qs) room ≡ t → length (starts_of (pick t (on_turn qs (ruled compared s h qs)) (refused 7 0 (length qs)))) ≤ room
      go true e = in_turn qs (leb-true (length qs) room e) (ruled compared s h qs)
      go false e = omega arith

  in_opened : (o : Result FileHead Fault) → length (starts_of (on_opened compared s room o)) ≤ room
  in_opened (Ok h) = in_chain h (chain s (length s) 100)
  in_opened (Err c) = omega arith

  rows_room : length (starts_of (verdict compared s room)) ≤ room
  unfolding verdict
  rows_room = in_opened (opened_as s)

table_length : (xs : List ℕ) → length xs ≤ 1024 → length (filled xs room) ≡ 1024
table_length xs l = simp (length-append, length-replicate) (omega arith)

short_enough : (a : Answer) (start part owner : List ℕ) (end : ℕ) → length start ≡ 1024 → length (report_of a start part owner end) ≤ 73800
short_enough a start part owner end e =
    omega (arith, report_short a start part owner end, (rows_within a start part owner {n = rows_of a start part owner} refl).0)

reported_short : (s : List ℕ) (v : Verdict) → length (starts_of v) ≤ 1024 → length (reported s v) ≤ 73800
unfolding reported
reported_short s v l = short_enough _ (filled (starts_of v) room) _ _ (length s) (table_length (starts_of v) l)

pub listing_short : (s : List ℕ) → length (listing_of s) ≤ 73800
unfolding listing_of
listing_short s = go (leb (length s) input_limit)
  where
    go : (t : Bool) → length (pick t (reported s (verdict compared s 1024)) too_long) ≤ 73800
    go true = reported_short s (verdict compared s 1024) (rows_room s 1024)
    go false = omega arith
