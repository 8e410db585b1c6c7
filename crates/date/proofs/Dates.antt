-- Packing and unpacking a date undo each other.
use Prim.Native.Nat.{ℕ, ◌+◌, ◌-◌, ◌*◌, ◌/◌, ◌%◌, ◌<◌}
use mathlib.Core.Path.{◌≡◌, sym}
use native.Mathlib.Nat.{div-div-eq-div-mul, div-add-mod'}
use native.Mathlib.Omega.{arith}
use Rattle.wire.specs.Answer.{done, refusal}
use Rattle.wire.specs.Check.{All}
use Rattle.date.specs.Date.{packed, date_fits, pack_answer, unpacked, Packs, Unpacks}
use Rattle.date.specs.declared.Date.{Date}
use Rattle.wire.proofs.Checks.{picked, not_picked}

-- unpacking what was packed gives the six fields
pub unpack_pack : (d : Date) → All (date_fits d) → unpacked (packed d) ≡ d
unfolding packed unpacked
unpack_pack d h =
    let y : (unpacked (packed d)).year ≡ d.year = omega arith in
    let m : (unpacked (packed d)).month ≡ d.month = omega arith in
    let a : (unpacked (packed d)).day ≡ d.day = omega arith in
    let b : (unpacked (packed d)).hour ≡ d.hour = omega arith in
    let n : (unpacked (packed d)).minute ≡ d.minute = omega arith in
    let e : (unpacked (packed d)).second ≡ d.second = omega arith in
    λ i. record { year = y i; month = m i; day = a i; hour = b i; minute = n i; second = e i }

-- the answer, and what it promises
pub out_of_range : (d : Date) → (All (date_fits d) → ⊥) → Packs d (refusal 18 0)
unfolding pack_answer
out_of_range d h = record { answer = sym (not_picked (date_fits d) _ _ h); back = λ z. absurd (omega arith) }

pub taken : (d : Date) (v : ℕ) → v ≡ packed d → All (date_fits d) → Packs d (done v)
unfolding pack_answer
taken d v e h = rw e (record { answer = sym (picked (date_fits d) _ _ h); back = λ z. unpack_pack d h })

-- the fields of any 32 bits are in their ranges
pub unpacked_fits : (v : ℕ) → v < 4294967296 → All (date_fits (unpacked v))
unfolding unpacked
unpacked_fits v h = omega arith

-- a digit of v to the base k, above those below d
digit : (v d k : ℕ) → v / (d * k) * k + v / d % k ≡ v / d
digit v d k = rw (← (div-div-eq-div-mul v d k)) (div-add-mod' (v / d) k)

-- the digits add up
digits : (v a b c d e m n h k l : ℕ) → a * 64 + m ≡ v → b * 64 + n ≡ a → c * 32 + h ≡ b → d * 32 + k ≡ c → e * 16 + l ≡ d
    → v ≡ (1995 + e - 1995) * 67108864 + l * 4194304 + k * 131072 + h * 4096 + n * 64 + m
digits v a b c d e m n h k l p q r t u = omega arith

-- packing what was unpacked gives the 32 bits
pub pack_unpack : (v : ℕ) {d : Date} → v < 4294967296 → d ≡ unpacked v → Unpacks v d
unfolding unpacked packed
pack_unpack v h e =
    let s = digits v _ _ _ _ _ _ _ _ _ _ (div-add-mod' v 64) (digit v 64 64) (digit v 4096 32) (digit v 131072 32) (digit v 4194304 16) in
    record { fields = e; back = rw e (sym (taken (unpacked v) v s (unpacked_fits v h)).answer) }
