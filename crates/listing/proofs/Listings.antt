-- What is listed: too long an input, or the audit's report; and how much room it takes.
use Prim.Native.Nat.{ℕ, ◌<◌, ◌≤◌}
use mathlib.Core.List.{List}
use mathlib.Core.Bool.{Bool, true, false}
use mathlib.Core.Path.{◌≡◌, refl, sym, ap, ◌∙◌}
use native.Mathlib.Omega.{arith}
use borrow.Author.Tests.{le-leb, lt-leb, leb-true, leb-false}
use lib.Dec.{leb}
use lib.ListN.{length, take, replicate, length-replicate}
use lib.Seq.{length-take-le, take_all}
use Rattle.wire.specs.declared.Answer.{Answer}
use Rattle.wire.proofs.Answers.{same_answer}
use Rattle.report.specs.Report.{report_of, Wrote}
use Rattle.report.proofs.Reports.{wrote_within, wrote_all}
use Rattle.wire.specs.Lent.{Lent, MutLent, held, before, after}
use Rattle.rules.specs.Free.{compared}
use Rattle.rules.specs.Order.{verdict}
use Rattle.audit.specs.Tables.{told, Audits}
use Rattle.listing.specs.Listing.{room, reported, too_long, input_limit, listing_of, input_room, Lists}
use Rattle.listing.proofs.Rooms.{listing_short}
use Rattle.listing.proofs.Sizes.{printed_sizes}

-- a text depends on no more of an input than there is room for
text_whole : (s t : List ℕ) → s ≡ take input_room t → listing_of s ≡ listing_of t
unfolding listing_of
text_whole s t e = go (leb (length t) input_limit) refl
  where
    go : (b : Bool) → leb (length t) input_limit ≡ b → listing_of s ≡ listing_of t
    go true h = let l = leb-true (length t) input_limit h in ap listing_of (e ∙ take_all input_room t (omega arith))
    go false h =
        let l = leb-false (length t) input_limit h in
        let m : length s ≡ input_room = ap length e ∙ length-take-le input_room t (omega arith) in
        rw (lt-leb (length s) input_limit (omega arith), h)

module _ (s out : List ℕ) {out' : List ℕ} {r : Answer} where
  lists : {text : List ℕ} → listing_of s ≡ text → Wrote text out r out' → Lists s out out' r
  lists {text} e h =
      let l = wrote_within text out h in record {
        answer = rw e h.0;
        buffer = rw e h.1;
        counts = (l, sym (length-take-le r.count out' l));
        sizes = printed_sizes s;
        held = λ g. rw e (wrote_all text out h (omega (arith, g, ap length e, listing_short s)));
        whole = λ t. text_whole s t;
      }

  pub is_long : input_limit < length s → Wrote too_long out r out' → Lists s out out' r
  unfolding listing_of
  is_long l h = lists (rw (lt-leb (length s) input_limit l)) h

pub zeros : length (replicate {A = ℕ} room 0) ≡ room
zeros = length-replicate {A = ℕ} room 0

pub is_listed : {file : Lent} {start part owner : MutLent} {a : Answer} → Audits file start part owner a
    → length (before start) ≡ room → length (before part) ≡ room → length (before owner) ≡ room → length (held file) ≤ input_limit
    → (out : List ℕ) {out' : List ℕ} {r : Answer}
    → Wrote (report_of a (after start) (after part) (after owner) (length (held file))) out r out' → Lists (held file) out out' r
unfolding listing_of reported
is_listed {file} {start} {part} {owner} {a} u e f g l out h =
    let k : told file start part owner ≡ verdict compared (held file) room = ap (verdict compared (held file)) (rw (e, f, g)) in
    lists (held file) out
    (rw (le-leb (length (held file)) input_limit l, ← k, same_answer u.number u.place u.count, u.starts, u.parts, u.owners, e, f, g)) h
