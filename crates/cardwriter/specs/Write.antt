-- What the card writer promises: document 02, request 07, "The card writer gives the audit's own, then 17 for too short an output or more
-- than 2^32 blocks".
use Rattle.std.specs.Prelude.{ℕ, ◌≤◌, List, [], ◌≡◌, length}
use Rattle.wire.specs.Lent.{Lent, MutLent, held, before, after}
use Rattle.wire.specs.Number.{Bytes}
use Rattle.wire.specs.Output.{Made, made, Makes}
use Rattle.wire.specs.Output as output
use Rattle.wire.specs.declared.Answer.{Answer}
use Rattle.table.specs.Table.{filled}
use Rattle.rules.specs.Demand.{Demand}
use Rattle.rules.specs.Free.{compared}
use Rattle.rules.specs.Order.{Verdict, passed, refused, number_of, starts_of, parts_of, owners_of}
use Rattle.audit.specs.Tables.{room, told}
use Rattle.card.specs.Promise.{CardReadBack}
use Rattle.card.specs.Read.{read_in}
use Rattle.cardstore.specs.Store.{card_in}

-- "the audit's own", or the card of a file that passes, in an output of this many bytes
abbrev pub written_as : Verdict → List ℕ → ℕ → Made
written_as (passed qs ps os) f n = card_in f n
written_as (refused c p k) f n = output.refused (record { number = c; place = p; count = k })

-- the tables, document 01: "after success they hold what that left"; after a refusal nothing
abbrev pub rows_left : Made → List ℕ → List ℕ
rows_left (made x) rows = rows
rows_left (output.refused a) rows = []

-- "Reader and writer undo each other for files that pass the audit": every card c from which the reader has the file f, into an output
-- of any length, is written again where there is room for it
abbrev pub CardWrittenAgain : Verdict → List ℕ → ℕ → Type 0
CardWrittenAgain v f n =
    (c : List ℕ) (room : ℕ) → Bytes c → read_in c room ≡ made f → number_of v ≡ 0 → length c ≤ n → written_as v f n ≡ made c

module _ (file : Lent) (out start part owner : MutLent) where
  abbrev pub written : Made
  written = written_as (told file start part owner) (held file) (length (before out))

  -- what the writer promises of the file, the output, the tables and the answer
  pub record WritesCard (r : Answer) : Type 0 where
    -- the answer and the output
    pub makes : Makes written (before out) (after out) r
    -- each table holds the rows of the audit, then zeros to its own end
    pub starts : after start ≡ filled (rows_left written (starts_of (told file start part owner))) (length (before start))
    pub parts : after part ≡ filled (rows_left written (parts_of (told file start part owner))) (length (before part))
    pub owners : after owner ≡ filled (rows_left written (owners_of (told file start part owner))) (length (before owner))
    -- the verdict means what the third demand says
    pub demand : Demand compared (held file) (room file start part owner)
    -- "Reader and writer undo each other for files that pass the audit": the card is read back as the file,
    pub back : r.number ≡ 0 → CardReadBack (held file)
    -- and a card that was read as the file is written again
    pub again : CardWrittenAgain (told file start part owner) (held file) (length (before out))
