-- Answers: document 01, "Numbers given back". The answer holds number, place, count.
use Rattle.std.specs.Prelude.{ℕ, ◌≡◌}
use Rattle.wire.specs.declared.Answer.{Answer}

-- a success is 0, 0 and a count
abbrev pub done : ℕ → Answer
done n = record { number = 0; place = 0; count = n }

-- a refusal is its number and place, with count 0
abbrev pub refusal : ℕ → ℕ → Answer
refusal c p = record { number = c; place = p; count = 0 }

-- what a function that answers an Option or a Result promises: the case r is the definition's v, and number, place and count, which `answer` gives
-- for each case, are those of v
pub record Gives {A : Type 0} (answer : A → Answer) (r v : A) : Type 0 where
  pub is : r ≡ v
  pub told : answer r ≡ answer v
