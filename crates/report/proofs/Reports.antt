-- The whole report: its room, and what is written.
use Prim.Native.Nat.{ℕ, ◌+◌, ◌*◌, ◌<◌, ◌≤◌}
use mathlib.Core.Bool.{Bool, true, false}
use mathlib.Core.List.{List, ◌++◌}
use mathlib.Core.Path.{◌≡◌, refl, sym, ap, ◌∙◌}
use native.Mathlib.Omega.{arith}
use borrow.Author.Tests.{le-leb, lt-leb, leb-true, leb-false}
use lib.Dec.{leb}
use lib.ListN.{length, length-append}
use Rattle.wire.specs.Answer.{done, refusal}
use Rattle.wire.specs.Check.{pick}
use Rattle.wire.specs.Patch.{patch}
use Rattle.wire.specs.declared.Answer.{Answer}
use Rattle.wire.proofs.Patches.{length_patch}
use Rattle.report.specs.Put.{Put}
use Rattle.report.specs.Report.{heading, lines, rows_of, report_of, put_answer, put_buffer, Wrote}
use Rattle.report.proofs.Listed.{lines_short}
use Rattle.report.proofs.Puts.{put_then}
use Rattle.report.proofs.Words.{heading_short}

-- a text that does not fit, and one that does
pub no_room : (text out : List ℕ) → length out < length text → Wrote text out (refusal 17 0) out
unfolding put_answer put_buffer
no_room text out l = let f = lt-leb (length text) (length out) l in (rw f refl, rw f refl)

pub in_room : (text out : List ℕ) {w : List ℕ} {r : ℕ} → Put out 0 text w r → Wrote text out (done r) w
unfolding put_answer put_buffer
in_room text out {w} {r} p =
    let e : r ≡ length text = omega (arith, p.next) in
    let l = le-leb (length text) (length out) (omega (arith, p.room)) in
    (rw l (ap done e), rw l p.text)

-- the bytes counted stand in the buffer
pub wrote_within : (text out : List ℕ) {r : Answer} {w : List ℕ} → Wrote text out r w → r.count ≤ length w
unfolding put_answer put_buffer
wrote_within text out {r} {w} h = go (leb (length text) (length out)) refl h.0 h.1
  where
    go : (t : Bool) → leb (length text) (length out) ≡ t → r ≡ pick t (done (length text)) (refusal 17 0) → w ≡ pick t (patch out 0 text) out
        → r.count ≤ length w
    go true e f g =
        let l = leb-true (length text) (length out) e in
        rw (f, g, length_patch out 0 text (omega arith)) l
    go false e f g = rw f (omega arith)

-- a text that the buffer can hold is written
pub wrote_all : (text out : List ℕ) {r : Answer} {w : List ℕ} → Wrote text out r w → length text ≤ length out → r ≡ done (length text)
unfolding put_answer
wrote_all text out h l = h.0 ∙ rw (le-leb (length text) (length out) l)

module _ (a : Answer) (start part owner : List ℕ) (end : ℕ) (out : List ℕ) {h : ℕ} {t : Bool} {rows : List ℕ}
    (e : rows ≡ lines start part owner (rows_of a start part owner) end (rows_of a start part owner)) (first : h ≡ length (heading a))
    (test : t ≡ leb (h + length rows) (length out)) where
  whole : report_of a start part owner end ≡ heading a ++ rows
  unfolding report_of
  whole = rw e refl

  pub report_put : {w v : List ℕ} {at r : ℕ} → Put out 0 (heading a) w at → Put w at rows v r
      → Wrote (report_of a start part owner end) out (done r) v
  report_put p q = rw whole (in_room _ out (put_then p q))

  pub report_long : t ≡ false → Wrote (report_of a start part owner end) out (refusal 17 0) out
  report_long f = let l = leb-false (h + length rows) (length out) (sym test ∙ f) in rw whole
      (no_room _ out (rw length-append (omega (arith, first, l))))

-- 72 bytes a line are room enough
pub report_short : (a : Answer) (start part owner : List ℕ) (end : ℕ)
    → length (report_of a start part owner end) ≤ 72 * (1 + rows_of a start part owner)
unfolding report_of
report_short a start part owner end =
    simp length-append
    (omega (arith, heading_short a, lines_short start part owner (rows_of a start part owner) end (rows_of a start part owner)))
