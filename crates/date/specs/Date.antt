-- Packed dates: document 01, "Key headers", Datime.
use Rattle.std.specs.Prelude.{ℕ, ◌+◌, ◌-◌, ◌*◌, ◌/◌, ◌%◌, List, [], ◌∷◌, ◌≡◌}
use Rattle.wire.specs.Answer.{done, refusal}
use Rattle.wire.specs.Check.{Check, le, all, pick}
use Rattle.wire.specs.declared.Answer.{Answer}
use Rattle.date.specs.declared.Date.{Date}

-- (year−1995)·2^26 + month·2^22 + day·2^17 + hour·2^12 + minute·2^6 + second
unfoldable pub packed : Date → ℕ
packed d = (d.year - 1995) * 67108864 + d.month * 4194304 + d.day * 131072 + d.hour * 4096 + d.minute * 64 + d.second

-- every field fits its bits: year 1995 to 2058, month to 15, day and hour to 31, minute and second to 63
abbrev pub date_fits : Date → List Check
date_fits d =
    le 1995 d.year ∷ le d.year 2058 ∷ le d.month 15 ∷ le d.day 31 ∷ le d.hour 31
    ∷ le d.minute 63 ∷ le d.second 63 ∷ []

-- 0, 0, the packed value; 18 for a field out of its range
unfoldable pub pack_answer : Date → Answer
pack_answer d = pick (all (date_fits d)) (done (packed d)) (refusal 18 0)

-- the six fields of any 32 bits
unfoldable pub unpacked : ℕ → Date
unpacked v = record {
  year = 1995 + v / 67108864;
  month = v / 4194304 % 16;
  day = v / 131072 % 32;
  hour = v / 4096 % 32;
  minute = v / 64 % 64;
  second = v % 64;
}

-- what packing promises: the answer, and that unpacking what was packed gives the six fields
pub record Packs (d : Date) (a : Answer) : Type 0 where
  pub answer : a ≡ pack_answer d
  pub back : a.number ≡ 0 → unpacked a.count ≡ d

-- what unpacking promises: the six fields, and that packing them gives the 32 bits
pub record Unpacks (v : ℕ) (d : Date) : Type 0 where
  pub fields : d ≡ unpacked v
  pub back : pack_answer d ≡ done v
