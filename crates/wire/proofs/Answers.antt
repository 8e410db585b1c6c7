-- Answers with the same parts are the same; what the case of an enum tells.
use borrow.Author.Tests.{eqb-false}
use lib.Dec.{eqb}
use mathlib.Core.Bool.{false}
use mathlib.Core.Path.{◌≡◌, refl, ap}
use Rattle.wire.specs.Fault.{number_of}
use Rattle.wire.specs.declared.fault.Reason.{Reason}
use Rattle.wire.specs.declared.fault.Reason.TheVariants as reason
use Rattle.wire.specs.Answer.{Gives}
use Rattle.wire.specs.declared.Answer.{Answer}

pub same_answer : {a b : Answer} → a.number ≡ b.number → a.place ≡ b.place → a.count ≡ b.count → a ≡ b
same_answer n p c = λ i. record { number = n i; place = p i; count = c i }

pub gives : {A : Type 0} {answer : A → Answer} {r v : A} → r ≡ v → Gives answer r v
gives {A} {answer} e = record { is = e; told = ap answer e }

-- no refusal has the number of a success
no_zero : (r : Reason) → eqb (number_of r) 0 ≡ false
no_zero (reason.Unfinished n) = refl
no_zero r = refl

pub refusal_number : (r : Reason) → number_of r ≡ 0 → ⊥
refusal_number r e = eqb-false (number_of r) 0 (no_zero r) e
