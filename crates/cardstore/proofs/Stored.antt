-- What is promised of a card that was written.
use Prim.Native.Nat.{ℕ, ◌*◌, ◌^◌, ◌≤◌}
use mathlib.Core.List.{List}
use mathlib.Core.Logic.{⊎_elim}
use mathlib.Core.Path.{◌≡◌, sym, ap, ◌∙◌}
use native.Mathlib.Omega.{arith}
use lib.ListN.{length}
use Rattle.wire.specs.Answer.{done, refusal}
use Rattle.wire.specs.Check.{All}
use Rattle.wire.specs.Output.{made, refused, answer_of, output_of, Makes}
use Rattle.wire.specs.Parts.{parts}
use Rattle.wire.specs.Patch.{patch}
use Rattle.wire.specs.declared.Answer.{Answer}
use Rattle.wire.proofs.Checks.{all_or, picked, not_picked}
use Rattle.card.specs.Card.{blocks_for, block_of, card_of}
use Rattle.card.proofs.Cards.{length_card, read_back}
use Rattle.cardstore.specs.Store.{card_fits, card_in, StoresCard}

-- a card that was written
module _ (f out : List ℕ) where
  not_written : (All (card_fits f (length out)) → ⊥) → card_in f (length out) ≡ refused (refusal 17 0)
  unfolding card_in
  not_written h = not_picked (card_fits f (length out)) _ _ h

  is_written : All (card_fits f (length out)) → card_in f (length out) ≡ made (card_of f)
  unfolding card_in
  is_written h = picked (card_fits f (length out)) _ _ h

  fits_by : {r : Answer} → r ≡ answer_of (card_in f (length out)) → r.number ≡ 0 → All (card_fits f (length out))
  fits_by e z =
      ⊎_elim (λ (h : All (card_fits f (length out))). h)
      (λ (h : All (card_fits f (length out)) → ⊥).
      absurd (omega (arith, ap (λ (a : Answer). a.number) (e ∙ ap answer_of (not_written h)))))
      (all_or (card_fits f (length out)))

  stores_card : {r : Answer} {out' : List ℕ} → Makes (card_in f (length out)) out out' r → StoresCard f out out' r
  stores_card m = record { makes = m; back = λ e s. read_back f s.0 s.1.0 (fits_by m.answer e).0 }

  pub stored_not : {n : ℕ} → n ≡ blocks_for (length f) → ((n ≤ 2 ^ 32) × (n * 512 ≤ length out) → ⊥) → StoresCard f out out (refusal 17 0)
  stored_not {n} e h =
      let k = not_written (λ g. h (omega (arith, g.0), omega (arith, g.1.0, length_card f))) in
      stores_card (record { answer = ap answer_of (sym k); output = ap (output_of out) (sym k) })

  pub stored_all : {n : ℕ} {out' : List ℕ} → n ≡ blocks_for (length f) → n ≤ 2 ^ 32 → n * 512 ≤ length out
      → out' ≡ patch out 0 (parts (block_of f) n) → StoresCard f out out' (done (n * 512))
  unfolding card_of
  stored_all {n} e l m p =
      let long : n * 512 ≡ length (card_of f) = omega (arith, length_card f) in
      let k = is_written (omega arith, (omega arith, tt)) in
      stores_card (record {
        answer = ap done long ∙ ap answer_of (sym k);
        output = p ∙ ap (λ (n : ℕ). patch out 0 (parts (block_of f) n)) e ∙ ap (output_of out) (sym k);
      })
