-- What the card reader answers: document 02, request 07. It audits nothing, and tests neither magic nor Units nor BEGIN: the file may be
-- any bytes with an END.
use Rattle.std.specs.Prelude.{ℕ, zero, suc, ◌*◌, Bool, true, ◌&&◌, List, [], ◌∷◌, eqb, length, take, drop, ◌≡◌, Result, Ok, Err}
use Rattle.wire.specs.Fault.{fault_answer}
use Rattle.wire.specs.declared.fault.Fault.{Fault}
use Rattle.wire.specs.Answer.{refusal}
use Rattle.wire.specs.Check.{Check, le, eq, yes, all, pick}
use Rattle.wire.specs.Number.{num_at}
use Rattle.wire.specs.Output.{Made, made, refused}
use Rattle.wire.specs.Parts.{part, parts}
use Rattle.fileheader.specs.File.{file_number}
use Rattle.checksum.specs.Checksum.{check_of}
use Rattle.card.specs.Card.{blocks_for}

-- block i of a card, or what there is of it
abbrev pub block_at : List ℕ → ℕ → List ℕ
block_at c i = part 512 c i

-- the data of block i of a card
unfoldable pub data_at : List ℕ → ℕ → List ℕ
data_at c i = take 504 (drop 4 (block_at c i))

-- "END in the file header gives the length": the header stands in block 0, and its Version says how wide END is
unfoldable pub end_of : List ℕ → ℕ
end_of c = file_number (data_at c 0) 3

-- the blocks that END needs, "and always block 0"
unfoldable pub needed : List ℕ → ℕ
needed c = blocks_for (end_of c)

-- the data of the blocks that END needs: the file, and the padding after it
unfoldable pub whole_of : List ℕ → List ℕ
whole_of c = parts (data_at c) (needed c)

-- the first END of these bytes
unfoldable pub file_of : List ℕ → List ℕ
file_of c = take (end_of c) (whole_of c)

-- and those after them
unfoldable pub padding_of : List ℕ → List ℕ
padding_of c = drop (end_of c) (whole_of c)

-- the first fault of the block i, b: "28 if missing or incomplete, 29 for a wrong number, 30 for a wrong check"; 0 if there is none
unfoldable pub block_fault : ℕ → List ℕ → ℕ
block_fault i b =
    pick (all (eq (length b) 512 ∷ []))
    (pick (all (eq (num_at 4 b 0) i ∷ [])) (pick (all (eq (num_at 4 b 508) (check_of (take 508 b)) ∷ [])) 0 30) 29)
    28

-- a fault, or where there is none what is found after it
abbrev pub first_of : ℕ → ℕ → ℕ
first_of zero rest = rest
first_of (suc fault) rest = suc fault

-- the first fault of n blocks from block i on, "in turn"
unfoldable pub fault_from : List ℕ → ℕ → ℕ → ℕ
fault_from c zero i = 0
fault_from c (suc n) i = first_of (block_fault i (block_at c i)) (fault_from c n (suc i))

-- every byte is 0
unfoldable pub zeros : List ℕ → Bool
zeros [] = true
zeros (b ∷ bs) = eqb b 0 && zeros bs

-- "31 for nonzero padding, bytes after the last block or an END below 100"
abbrev pub closed : List ℕ → List Check
closed c = le 100 (end_of c) ∷ eq (length c) (needed c * 512) ∷ yes (zeros (padding_of c)) ∷ []

-- the first fault of a card, whatever the output; 0 if there is none
unfoldable pub card_fault : List ℕ → ℕ
card_fault c = first_of (fault_from c (needed c) 0) (pick (all (closed c)) 0 31)

-- the fault n, refused at 0 with count 0
abbrev pub Faults : Fault → ℕ → Type 0
Faults f n = (n ≡ 0 → ⊥) × (fault_answer f ≡ refusal n 0)

-- what a test answers that is to find the fault n, or 0 if there is none
abbrev pub Finds : Result Unit Fault → ℕ → Type 0
Finds (Ok u) n = n ≡ 0
Finds (Err f) n = Faults f n

-- a fault is refused at 0 with count 0
abbrev pub if_sound : ℕ → Made → Made
if_sound zero m = m
if_sound (suc fault) m = refused (refusal (suc fault) 0)

-- "then 17 if the output is too short"
abbrev pub file_in : List ℕ → ℕ → Made
file_in f room = pick (all (le (length f) room ∷ [])) (made f) (refused (refusal 17 0))

-- the card c, read into an output of this many bytes
unfoldable pub read_in : List ℕ → ℕ → Made
read_in c room = if_sound (card_fault c) (file_in (file_of c) room)
