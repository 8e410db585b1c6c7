-- What the card reader promises: document 02, request 07.
use Rattle.std.specs.Prelude.{ℕ, ◌%◌, ◌^◌, ◌<◌, ◌≤◌, List, [], ◌∷◌, ◌≡◌, ltb, length, get_or, set}
use Rattle.wire.specs.Answer.{refusal}
use Rattle.wire.specs.Check.{Check, le, eq, All, pick}
use Rattle.wire.specs.Output.{made, refused, Makes}
use Rattle.wire.specs.declared.Answer.{Answer}
use Rattle.fileheader.specs.File.{file_number}
use Rattle.card.specs.Card.{blocks_for, card_of}
use Rattle.card.specs.Read.{file_of, read_in}

-- "END in the file header gives the length", and is not "below 100"; so it is in every file that passes the audit
abbrev pub says_length : List ℕ → List Check
says_length f = le 100 (length f) ∷ eq (file_number f 3) (length f) ∷ []

-- c is the card of f, which has one
pub record IsCardOf (f c : List ℕ) : Type 0 where
  pub says : All (says_length f)
  pub few : blocks_for (length f) ≤ 2 ^ 32
  pub is : card_of f ≡ c

-- "Reader and writer undo each other": the card of f, read into every output that can hold f, gives f
abbrev pub CardReadBack : List ℕ → Type 0
CardReadBack f = (room : ℕ) → length f ≤ room → read_in (card_of f) room ≡ made f

-- "refused once any one byte of it, checks included, is changed": byte j of the card c into any other byte b, whatever the output's
-- length; with 29 where it is a byte of a block's number, else with 30
abbrev pub Guarded : List ℕ → Type 0
Guarded c =
    (j b : ℕ) → j < length c → b < 256 → (b ≡ get_or c j 0 → ⊥) → (room : ℕ)
    → read_in (set c j b) room ≡ refused (refusal (pick (ltb (j % 512) 4) 29 30) 0)

-- what the reader promises of the card c, the output before and after, and the answer
pub record ReadsCard (c out out' : List ℕ) (r : Answer) : Type 0 where
  -- the answer and the output
  pub makes : Makes (read_in c (length out)) out out' r
  -- "Reader and writer undo each other": the card is that of the file that was read, so that the file is written as this card again
  pub again : r.number ≡ 0 → IsCardOf (file_of c) c
  -- "a card that the reader takes is refused once any one byte of it, checks included, is changed"
  pub guarded : r.number ≡ 0 → Guarded c
