-- The card writer: what it promises, from what the audit and the card promise.
use Prim.Native.Nat.{ℕ}
use mathlib.Core.Bool.{Bool, true, false}
use mathlib.Core.List.{List, []}
use mathlib.Core.Path.{◌≡◌, refl, sym, ap, ◌∙◌}
use native.Mathlib.Omega.{arith}
use lib.ListN.{length}
use Rattle.wire.specs.Answer.{refusal}
use Rattle.wire.specs.Check.{All, all, pick}
use Rattle.wire.specs.Lent.{Lent, MutLent, held, before, after}
use Rattle.wire.specs.Output.{Made, made, answer_of, output_of, Makes}
use Rattle.wire.specs.Output as output
use Rattle.wire.specs.declared.Answer.{Answer}
use Rattle.wire.proofs.Answers.{same_answer, refusal_number}
use Rattle.wire.specs.Fault.{answer_of as told_of}
use Rattle.wire.specs.declared.fault.Fault.{Fault}
use Rattle.wire.proofs.Checks.{picked, false_true}
use Rattle.fileheader.specs.File.{opened_as}
use Rattle.fileheader.specs.declared.FileHead.{FileHead}
use Rattle.std.specs.Prelude.{Result, Ok, Err, is_err}
use Rattle.fileheader.proofs.Opens.{from_opened}
use Rattle.table.specs.Table.{filled, cleared}
use Rattle.rules.specs.Demand.{Demand, Passes}
use Rattle.rules.specs.Free.{compared}
use Rattle.rules.specs.Order.{Verdict, passed, refused, verdict, number_of, place_of, count_of, starts_of, parts_of, owners_of}
use Rattle.audit.specs.Tables.{room_of}
use Rattle.card.specs.Card.{blocks_for, card_of}
use Rattle.card.specs.Promise.{says_length, CardReadBack}
use Rattle.card.proofs.Cards as cards
use Rattle.card.proofs.Promises.{was_read}
use Rattle.cardstore.specs.Store.{card_fits, card_in, StoresCard}
use Rattle.cardwriter.specs.Write.{written_as, rows_left, CardWrittenAgain, WritesCard}

-- a good header says the length
says_length_law : (s : List ℕ) {h : FileHead} → opened_as s ≡ Ok h → All (says_length s)
says_length_law s e = let o = from_opened s (sym e) in (o.long.0, (o.bounds_is.1.0, tt))

-- a card that was read as a file that passes is written again
again : (f : List ℕ) (n rows : ℕ) → Demand compared f rows → CardWrittenAgain (verdict compared f rows) f n
unfolding card_in
again f n rows d c room y e z l =
    let p = d.sound z in
    let t = was_read c room e in
    let h = cards.is_card c t.0 y in
    let i : card_of f ≡ c = ap card_of (sym t.1) ∙ h.is in
    ap (λ (v : Verdict). written_as v f n) p.3
    ∙ picked (card_fits f n) _ _ (omega (arith, h.few, ap (λ (x : List ℕ). blocks_for (length x)) t.1), (omega (arith, ap length i), tt)) ∙ ap made i

-- what the audit promises, over lists
pub record Seen (f s p o s' p' o' : List ℕ) (a : Answer) : Type 0 where
  pub number : a.number ≡ number_of (verdict compared f (room_of s p o))
  pub place : a.place ≡ place_of (verdict compared f (room_of s p o))
  pub count : a.count ≡ count_of (verdict compared f (room_of s p o))
  pub starts : s' ≡ filled (starts_of (verdict compared f (room_of s p o))) (length s)
  pub parts : p' ≡ filled (parts_of (verdict compared f (room_of s p o))) (length p)
  pub owners : o' ≡ filled (owners_of (verdict compared f (room_of s p o))) (length o)
  pub demand : Demand compared f (room_of s p o)

-- a verdict that is no pass
module _ (f out : List ℕ) (a : Answer) (n : a.number ≡ 0 → ⊥) where
  refused_made : (v : Verdict) → a.number ≡ number_of v → a.place ≡ place_of v → a.count ≡ count_of v
      → Makes (written_as v f (length out)) out out a
  refused_made (passed qs ps os) i j k = absurd (n i)
  refused_made (refused c p m) i j k = record { answer = same_answer i j k; output = refl }

  refused_rows : (v : Verdict) → a.number ≡ number_of v
      → (starts_of v ≡ rows_left (written_as v f (length out)) (starts_of v))
      × (parts_of v ≡ rows_left (written_as v f (length out)) (parts_of v))
      × (owners_of v ≡ rows_left (written_as v f (length out)) (owners_of v))
  refused_rows (passed qs ps os) i = absurd (n i)
  refused_rows (refused c p m) i = (refl, refl, refl)

-- a result, as its test tells it
pub not_stored : (r : Result ℕ Fault) → is_err r ≡ true → (told_of r).number ≡ 0 → ⊥
not_stored (Ok n) e z = false_true e
not_stored (Err f) e z = refusal_number f.reason z

pub is_stored : (r : Result ℕ Fault) → is_err r ≡ false → (told_of r).number ≡ 0
is_stored (Ok n) e = refl
is_stored (Err f) e = false_true (sym e)

pub refused_first : (file : Lent) (out start part owner : MutLent) {a : Answer}
    → Seen (held file) (before start) (before part) (before owner) (after start) (after part) (after owner) a → (a.number ≡ 0 → ⊥)
    → after out ≡ before out → WritesCard file out start part owner a
refused_first file out start part owner {a} h n e =
    let v = verdict compared (held file) (room_of (before start) (before part) (before owner)) in
    let m = refused_made (held file) (before out) a n v h.number h.place h.count in
    let k = refused_rows (held file) (before out) a n v h.number in
    record {
      makes = record { answer = m.answer; output = e ∙ m.output };
      starts = h.starts ∙ ap (λ (x : List ℕ). filled x (length (before start))) k.0;
      parts = h.parts ∙ ap (λ (x : List ℕ). filled x (length (before part))) k.1;
      owners = h.owners ∙ ap (λ (x : List ℕ). filled x (length (before owner))) k.2;
      demand = h.demand;
      back = λ z. absurd (n z);
      again = again (held file) (length (before out)) _ h.demand;
    }

-- a file that passes: its card, or 17
module _ (f : List ℕ) (n : ℕ) (rows : List ℕ) where
  by_fit : (b : Bool) → (answer_of (pick b (made (card_of f)) (output.refused (refusal 17 0)))).number ≡ 0
      → rows_left (pick b (made (card_of f)) (output.refused (refusal 17 0))) rows ≡ rows
  by_fit true e = refl
  by_fit false e = absurd (omega arith)

  by_no_fit : (b : Bool) → ((answer_of (pick b (made (card_of f)) (output.refused (refusal 17 0)))).number ≡ 0 → ⊥)
      → rows_left (pick b (made (card_of f)) (output.refused (refusal 17 0))) rows ≡ []
  by_no_fit true e = absurd (e refl)
  by_no_fit false e = refl

  rows_kept : (answer_of (card_in f n)).number ≡ 0 → rows_left (card_in f n) rows ≡ rows
  unfolding card_in
  rows_kept e = by_fit (all (card_fits f n)) e

  rows_gone : ((answer_of (card_in f n)).number ≡ 0 → ⊥) → rows_left (card_in f n) rows ≡ []
  unfolding card_in
  rows_gone e = by_no_fit (all (card_fits f n)) e

module _ (file : Lent) (out start part owner : MutLent) {a r : Answer} {s' p' o' : List ℕ}
    (h : Seen (held file) (before start) (before part) (before owner) s' p' o' a) (z : a.number ≡ 0)
    (w : StoresCard (held file) (before out) (after out) r) where
  abbrev v : Verdict
  v = verdict compared (held file) (room_of (before start) (before part) (before owner))

  passes :
      (qs : List ℕ) × (ps : List ℕ) × (os : List ℕ) × (v ≡ passed qs ps os)
      × Passes compared (held file) (room_of (before start) (before part) (before owner)) qs ps os
  passes = h.demand.sound (sym h.number ∙ z)

  is_card : card_in (held file) (length (before out)) ≡ written_as v (held file) (length (before out))
  is_card = ap (λ (v : Verdict). written_as v (held file) (length (before out))) (sym passes.3)

  made_card : Makes (written_as v (held file) (length (before out))) (before out) (after out) r
  made_card = record {
    answer = w.makes.answer ∙ ap answer_of is_card;
    output = w.makes.output ∙ ap (output_of (before out)) is_card;
  }

  read_again : r.number ≡ 0 → CardReadBack (held file)
  read_again e = w.back e (says_length_law (held file) passes.4.partition.0)

  zero_of : (answer_of (card_in (held file) (length (before out)))).number ≡ r.number
  zero_of = ap (λ (a : Answer). a.number) (sym w.makes.answer)

  pub written_all : r.number ≡ 0 → after start ≡ s' → after part ≡ p' → after owner ≡ o' → WritesCard file out start part owner r
  written_all e i j k =
      record {
        makes = made_card;
        starts = i ∙ h.starts ∙ ap (λ (x : List ℕ). filled x (length (before start))) (kept (starts_of v));
        parts = j ∙ h.parts ∙ ap (λ (x : List ℕ). filled x (length (before part))) (kept (parts_of v));
        owners = k ∙ h.owners ∙ ap (λ (x : List ℕ). filled x (length (before owner))) (kept (owners_of v));
        demand = h.demand;
        back = read_again;
        again = again (held file) (length (before out)) _ h.demand;
      }
    where
      kept : (rows : List ℕ) → rows ≡ rows_left (written_as v (held file) (length (before out))) rows
      kept rows =
          sym (rows_kept (held file) (length (before out)) rows (zero_of ∙ e)) ∙ ap (λ (m : Made). rows_left m rows) is_card

  pub written_not : (r.number ≡ 0 → ⊥) → length s' ≡ length (before start) → length p' ≡ length (before part)
      → length o' ≡ length (before owner) → after start ≡ cleared s' 0 → after part ≡ cleared p' 0 → after owner ≡ cleared o' 0
      → WritesCard file out start part owner r
  written_not e i j k l m n =
      record {
        makes = made_card;
        starts = l ∙ gone (starts_of v) s' (before start) i;
        parts = m ∙ gone (parts_of v) p' (before part) j;
        owners = n ∙ gone (owners_of v) o' (before owner) k;
        demand = h.demand;
        back = λ y. absurd (e y);
        again = again (held file) (length (before out)) _ h.demand;
      }
    where
      gone : (rows t u : List ℕ) → length t ≡ length u
          → cleared t 0 ≡ filled (rows_left (written_as v (held file) (length (before out))) rows) (length u)
      gone rows t u q =
          let none : [] ≡ rows_left (written_as v (held file) (length (before out))) rows
          = sym (rows_gone (held file) (length (before out)) rows (λ y. e (sym zero_of ∙ y))) ∙ ap (λ (m : Made). rows_left m rows) is_card in
          ap (λ (n : ℕ). filled [] n) q ∙ ap (λ (x : List ℕ). filled x (length u)) none
