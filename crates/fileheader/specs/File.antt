-- The file header: document 01, "The header, 100 bytes" and the rule Header; document 02, request 02.
use Rattle.std.specs.Prelude.{ℕ, Bool, true, false, List, [], ◌∷◌, leb, length, get_or, Result, Ok, Err}
use Rattle.wire.specs.Answer.{done}
use Rattle.wire.specs.Check.{Check, le, eq, yes, all, pick}
use Rattle.wire.specs.Fault.{fault, fault_answer}
use Rattle.wire.specs.Layout.{width_of, values_at}
use Rattle.wire.specs.Number.{num_at}
use Rattle.wire.specs.declared.Answer.{Answer}
use Rattle.wire.specs.declared.fault.Fault.{Fault}
use Rattle.wire.specs.declared.fault.Reason.TheVariants as reason
use Rattle.fileheader.specs.declared.FileHead.{FileHead}

-- "root", Version, BEGIN, END, SeekFree, NbytesFree, nfree, NbytesName, Units (1), Compress, SeekInfo, NbytesInfo
abbrev pub file_layout : ℕ → List ℕ
file_layout w = 4 ∷ 4 ∷ 4 ∷ w ∷ w ∷ 4 ∷ 4 ∷ 4 ∷ 1 ∷ 4 ∷ w ∷ 4 ∷ []

-- a file with Version from 1,000,000 on has wide offsets
abbrev pub is_wide : List ℕ → Bool
is_wide s = leb 1000000 (num_at 4 s 4)

abbrev pub file_width : List ℕ → ℕ
file_width s = width_of (is_wide s)

-- the number i of the header, from 0 on
abbrev pub file_number : List ℕ → ℕ → ℕ
file_number s i = get_or (values_at (file_layout (file_width s)) s 0) i 0

unfoldable pub file_head : List ℕ → FileHead
file_head s = record {
  wide = is_wide s;
  seekfree = file_number s 4;
  nbytesfree = file_number s 5;
  nfree = file_number s 6;
  nbytesname = file_number s 7;
  seekinfo = file_number s 10;
  nbytesinfo = file_number s 11;
}

-- 1 short: at least 100 bytes
abbrev pub long_enough : List ℕ → List Check
long_enough s = le 100 (length s) ∷ []

-- 2 magic: "root"
abbrev pub magic : List ℕ → List Check
magic s = eq (file_number s 0) 1919905652 ∷ []

-- 3 wide: Units is the width that Version says
abbrev pub units : List ℕ → List Check
units s = eq (file_number s 8) (file_width s) ∷ []

-- END has a limit where offsets have four bytes
unfoldable pub end_fits : Bool → ℕ → Bool
end_fits true end = true
end_fits false end = leb end 1999999999

-- 4 bounds: BEGIN 100; END equal to the lent length and within its limit
abbrev pub bounds : List ℕ → List Check
bounds s = eq (file_number s 2) 100 ∷ eq (file_number s 3) (length s) ∷ yes (end_fits (is_wide s) (length s)) ∷ []

-- the header, or the first of 1 to 4 that does not hold
unfoldable pub opened_as : List ℕ → Result FileHead Fault
opened_as s =
    pick (all (long_enough s))
    (pick (all (magic s))
    (pick (all (units s))
    (pick (all (bounds s)) (Ok (file_head s)) (Err (fault reason.Bounds 0)))
    (Err (fault reason.Wide 0)))
    (Err (fault reason.Magic 0)))
    (Err (fault reason.Short 0))

-- number, place and count of each case
abbrev pub open_answer : Result FileHead Fault → Answer
open_answer (Ok h) = done 0
open_answer (Err f) = fault_answer f
