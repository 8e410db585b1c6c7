-- What the reader promises, from what it found.
use Prim.Native.Nat.{ℕ, zero, suc, ◌*◌, ◌<◌, ◌≤◌}
use mathlib.Core.Bool.{Bool, true, false, not}
use mathlib.Core.List.{List, [], ◌∷◌}
use mathlib.Core.Path.{◌≡◌, refl, sym, ap, ◌∙◌, subst}
use native.Mathlib.Omega.{arith}
use lib.ListN.{length, take, drop, length-take, length-drop}
use Rattle.wire.specs.Answer.{done, refusal}
use Rattle.wire.specs.Check.{all, le, pick}
use Rattle.wire.specs.Fault.{fault, fault_answer}
use Rattle.wire.specs.Number.{Bytes}
use Rattle.wire.specs.Output.{Made, made, refused, answer_of, output_of, Makes}
use Rattle.wire.specs.Parts.{part, parts}
use Rattle.wire.specs.Patch.{patch}
use Rattle.wire.specs.declared.Answer.{Answer}
use Rattle.wire.specs.declared.fault.Fault.{Fault}
use Rattle.wire.specs.declared.fault.Reason.TheVariants as reason
use Rattle.wire.proofs.Checks.{all_yes, picked, not_picked, false_true}
use Rattle.fileheader.specs.File.{file_number}
use Rattle.card.specs.Card.{blocks_for}
use Rattle.card.specs.Read.{block_at, block_fault, fault_from, data_at, end_of, needed, whole_of, file_of, closed, card_fault}
use Rattle.card.specs.Read.{if_sound, file_in, read_in, Faults}
use Rattle.card.specs.Promise.{ReadsCard}
use Rattle.card.proofs.Blocks.{is_28}
use Rattle.card.proofs.Faults.{first, no_card_fault, block_fault_law, from_card}
use Rattle.card.proofs.Cards.{some_block, data_there, blocks_there, file_long, is_card, guarded}

-- a card that was read has no fault
taken : (c : List ℕ) (room : ℕ) → (answer_of (read_in c room)).number ≡ 0 → card_fault c ≡ 0
unfolding read_in
taken c room e = go (card_fault c) refl e
  where
    go : (x : ℕ) → card_fault c ≡ x → (answer_of (if_sound x (file_in (file_of c) room))).number ≡ 0 → card_fault c ≡ 0
    go zero f g = f
    go (suc x) f g = absurd (omega arith)

pub reads_card : (c out : List ℕ) {out' : List ℕ} {r : Answer} → Bytes c → Makes (read_in c (length out)) out out' r → ReadsCard c out out' r
reads_card c out {r = r} b m = record { makes = m; again = λ e. is_card c (t e) b; guarded = λ e. guarded c (t e) b }
  where
    t : r.number ≡ 0 → card_fault c ≡ 0
    t e = taken c (length out) (sym (ap (λ (a : Answer). a.number) m.answer) ∙ e)

-- a fault
with_fault : (fault : ℕ) (m : Made) → (fault ≡ 0 → ⊥) → if_sound fault m ≡ refused (refusal fault 0)
with_fault zero m n = absurd (n refl)
with_fault (suc fault) m n = refl

pub card_refused : (c out : List ℕ) (f : Fault) → Bytes c → Faults f (card_fault c) → ReadsCard c out out (fault_answer f)
unfolding read_in
card_refused c out f b g =
    let k : read_in c (length out) ≡ refused (refusal (card_fault c) 0) = with_fault (card_fault c) (file_in (file_of c) (length out)) g.0 in
    reads_card c out b (record { answer = g.1 ∙ ap answer_of (sym k); output = ap (output_of out) (sym k) })

-- a card of less than one block
pub no_block : (c : List ℕ) → length c < 512 → 28 ≡ card_fault c
unfolding part needed
no_block c l =
    let o = some_block (end_of c) in
    let f : 28 ≡ block_fault 0 (block_at c 0)
    = is_28 0 (block_at c 0) (λ e. omega (arith, length-take 512 (drop (0 * 512) c), length-drop (0 * 512) c)) in
    sym (block_fault_law c 27 (first c (needed c) 0 0 (omega arith) (omega arith) (λ j a b. absurd (omega arith)) (λ e. omega arith) ∙ sym f))

-- END and the blocks that it needs, as they were read
pub end_is : (c : List ℕ) {e : ℕ} → e ≡ file_number (take 504 (drop 4 c)) 3 → e ≡ end_of c
unfolding end_of
end_is c i = i ∙ ap (λ (d : List ℕ). file_number d 3) (sym (data_there c 0))

pub blocks_are : (c : List ℕ) {e n : ℕ} → e ≡ end_of c → n ≡ blocks_for e → fault_from c n 0 ≡ fault_from c (needed c) 0
unfolding needed
blocks_are c i j = ap (λ (n : ℕ). fault_from c n 0) (j ∙ ap blocks_for i)

pub in_block : (c : List ℕ) (f : Fault) (n : ℕ) → fault_from c n 0 ≡ fault_from c (needed c) 0 → Faults f (fault_from c n 0) → Faults f (card_fault c)
in_block c f n e g = subst (Faults f) (by (fault_from c n 0) e g.0) g
  where
    by : (x : ℕ) → x ≡ fault_from c (needed c) 0 → (x ≡ 0 → ⊥) → x ≡ card_fault c
    by zero i n = absurd (n refl)
    by (suc x) i n = sym (block_fault_law c x (sym i))

-- the rest of the card
pub is_31 : (c : List ℕ) (b : Bool) → fault_from c (needed c) 0 ≡ 0 → b ≡ all (closed c) → not b ≡ true → 31 ≡ card_fault c
unfolding card_fault
is_31 c true e f g = false_true g
is_31 c false e f g = rw (e, ← f)

pub no_31 : (c : List ℕ) (b : Bool) → fault_from c (needed c) 0 ≡ 0 → b ≡ all (closed c) → not b ≡ false → card_fault c ≡ 0
no_31 c true e f g = no_card_fault c e (all_yes (closed c) (sym f))
no_31 c false e f g = false_true (sym g)

pub blocks_fit : (c : List ℕ) {e : ℕ} → e ≡ end_of c → card_fault c ≡ 0 → blocks_for e * 512 ≤ length c
unfolding needed
blocks_fit c i t = rw i (blocks_there c (from_card c t).0)

module _ (c out : List ℕ) {e : ℕ} (b : Bytes c) (i : e ≡ end_of c) (t : card_fault c ≡ 0) where
  long_is : length (file_of c) ≡ e
  long_is = file_long c (from_card c t).0 ∙ sym i

  room_is : read_in c (length out) ≡ file_in (file_of c) (length out)
  unfolding read_in
  room_is = rw t

  pub too_short : (f : Fault) → length out < e → f ≡ fault reason.Room 0 → ReadsCard c out out (fault_answer f)
  too_short f l j =
      let k : read_in c (length out) ≡ refused (refusal 17 0)
      = room_is ∙ not_picked (le (length (file_of c)) (length out) ∷ []) _ _ (λ h. omega (arith, h.0, long_is)) in
      reads_card c out b (record { answer = ap fault_answer j ∙ ap answer_of (sym k); output = ap (output_of out) (sym k) })

  pub read_done : {r : Answer} {out' : List ℕ} → e ≤ length out → out' ≡ patch out 0 (take e (parts (data_at c) (blocks_for e))) → r ≡ done e
      → ReadsCard c out out' r
  unfolding file_of whole_of needed
  read_done l p j =
      let k : read_in c (length out) ≡ made (file_of c)
      = room_is ∙ picked (le (length (file_of c)) (length out) ∷ []) _ _ (omega (arith, long_is), tt) in
      reads_card c out b (record {
        answer = j ∙ ap done (sym long_is) ∙ ap answer_of (sym k);
        output = p ∙ ap (λ (n : ℕ). patch out 0 (take n (parts (data_at c) (blocks_for n)))) i ∙ ap (output_of out) (sym k);
      })

-- a card that was read as the file f, into an output of any length
pub was_read : (c : List ℕ) (room : ℕ) {f : List ℕ} → read_in c room ≡ made f → (card_fault c ≡ 0) × (file_of c ≡ f)
unfolding read_in
was_read c room {f} e = sound (card_fault c) refl e
  where
    fits : (b : Bool) → pick b (made (file_of c)) (refused (refusal 17 0)) ≡ made f → file_of c ≡ f
    fits true g = cc
    fits false g = let z : ◌≡◌ {A = ℕ} 0 1 = cc in absurd (omega arith)

    sound : (x : ℕ) → card_fault c ≡ x → if_sound x (file_in (file_of c) room) ≡ made f → (card_fault c ≡ 0) × (file_of c ≡ f)
    sound zero h g = (h, fits (all (le (length (file_of c)) room ∷ [])) g)
    sound (suc x) h g = let z : ◌≡◌ {A = ℕ} 0 1 = cc in absurd (omega arith)
