-- Worked examples, computed by the definitions: document 01, "The list program".
use Prim.Native.Nat.{ℕ}
use mathlib.Core.List.{List, [], ◌∷◌}
use mathlib.Core.Path.{◌≡◌, refl}
use Rattle.wire.specs.Answer.{done, refusal}
use Rattle.wire.specs.Patch.{patch}
use Rattle.wire.specs.Quoted.{bytes}
use Rattle.report.specs.Report.{digits_in, decimal, spaced, closed, part_name, line, next_place, row, lines, heading, rows_of, report_of, put_answer, put_buffer}

-- the audit of one.root, with tables of six rows
abbrev starts : List ℕ
starts = 100 ∷ 168 ∷ 218 ∷ 297 ∷ 309 ∷ 0 ∷ []

abbrev parts : List ℕ
parts = 1 ∷ 5 ∷ 4 ∷ 0 ∷ 2 ∷ 0 ∷ []

abbrev owners : List ℕ
owners = 0 ∷ 100 ∷ 100 ∷ 0 ∷ 0 ∷ 0 ∷ []

abbrev printed : List ℕ
printed = bytes "passed 5\n100 68 head 0\n168 50 listed 100\n218 79 keys 100\n297 12 gap 0\n309 55 free 0\n"

-- the text of document 01; a refusal, 9 at 309; unfinished with 1025 pieces; the largest number of 64 bits; the names of
-- parts 3, 6, 7 and 8; a buffer of two bytes is left alone
examples : (report_of (done 5) starts parts owners 364 ≡ printed)
    × (report_of (refusal 9 309) starts parts owners 364 ≡ bytes "refused 9 309\n")
    × (report_of (record { number = 7; place = 0; count = 1025 }) starts parts owners 364
    ≡ bytes "unfinished 1025\n")
    × (decimal 18446744073709551615 ≡ bytes "18446744073709551615")
    × (line 1 2 3 4 ≡ bytes "1 2 info 4\n")
    × (line 0 10 6 100 ≡ bytes "0 10 dir 100\n")
    × (line 99 0 7 0 ≡ bytes "99 0 unlisted 0\n")
    × (part_name 8 ≡ bytes "unknown")
    × (put_answer printed (1 ∷ 2 ∷ []) ≡ refusal 17 0)
    × (put_buffer printed (1 ∷ 2 ∷ []) ≡ 1 ∷ 2 ∷ [])
    × (put_answer (49 ∷ []) (1 ∷ 2 ∷ []) ≡ done 1)
    × (put_buffer (49 ∷ []) (1 ∷ 2 ∷ []) ≡ 49 ∷ 2 ∷ [])
unfolding digits_in decimal spaced closed part_name line next_place row lines heading rows_of report_of put_answer put_buffer patch
examples = (refl, refl, refl, refl, refl, refl, refl, refl, refl, refl, refl, refl)
