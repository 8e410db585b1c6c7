-- Lists of tests, most of them comparisons of numbers: as a test that computes, and as the facts that it tests.
use Rattle.std.specs.Prelude.{ℕ, ◌≤◌, ◌<◌, List, [], ◌∷◌, Bool, true, false, ◌&&◌, ◌≡◌, leb, ltb, eqb}

pub data Check : Type 0 where
  le : ℕ → ℕ → Check
  lt : ℕ → ℕ → Check
  eq : ℕ → ℕ → Check
  yes : Bool → Check

abbrev pub passes : Check → Bool
passes (le a b) = leb a b
passes (lt a b) = ltb a b
passes (eq a b) = eqb a b
passes (yes b) = b

abbrev pub Holds : Check → Type 0
Holds (le a b) = a ≤ b
Holds (lt a b) = a < b
Holds (eq a b) = a ≡ b
Holds (yes b) = b ≡ true

-- every test of the list holds: the test
abbrev pub all : List Check → Bool
all [] = true
all (c ∷ cs) = passes c && all cs

-- every test of the list holds: the facts
abbrev pub All : List Check → Type 0
All [] = Unit
All (c ∷ cs) = Holds c × All cs

-- both are 0: a place and a size that name no record
abbrev pub nothing : ℕ → ℕ → List Check
nothing seek nbytes = eq seek 0 ∷ eq nbytes 0 ∷ []

-- a where the test holds, else b
abbrev pub pick : {A : Type 0} → Bool → A → A → A
pick true a b = a
pick false a b = b
