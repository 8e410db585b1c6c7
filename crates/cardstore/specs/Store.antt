-- The card of a file in an output: document 02, request 07, without the audit.
use Rattle.std.specs.Prelude.{ℕ, ◌^◌, List, [], ◌∷◌, ◌≡◌, length}
use Rattle.wire.specs.Answer.{refusal}
use Rattle.wire.specs.Check.{Check, le, All, all, pick}
use Rattle.wire.specs.Output.{Made, made, refused, Makes}
use Rattle.wire.specs.declared.Answer.{Answer}
use Rattle.card.specs.Card.{blocks_for, card_of}
use Rattle.card.specs.Promise.{says_length, CardReadBack}

-- the card of a file in an output of this many bytes: "17 for too short an output or more than 2^32 blocks"
abbrev pub card_fits : List ℕ → ℕ → List Check
card_fits f room = le (blocks_for (length f)) (2 ^ 32) ∷ le (length (card_of f)) room ∷ []

unfoldable pub card_in : List ℕ → ℕ → Made
card_in f room = pick (all (card_fits f room)) (made (card_of f)) (refused (refusal 17 0))

-- what is promised of a card that is written, whether its file passes an audit or not
pub record StoresCard (f out out' : List ℕ) (r : Answer) : Type 0 where
  pub makes : Makes (card_in f (length out)) out out' r
  pub back : r.number ≡ 0 → All (says_length f) → CardReadBack f
