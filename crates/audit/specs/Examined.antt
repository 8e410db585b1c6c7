-- Only private functions and proofs use these: the answer, and the tables before they are cleared.
use Rattle.std.specs.Prelude.{ℕ, List, ◌≡◌, length, take}
use Rattle.wire.specs.declared.Answer.{Answer}
use Rattle.wire.specs.Lent.{Lent, MutLent, after}
use Rattle.rules.specs.Free.{Mode}
use Rattle.rules.specs.Order.{Verdict, number_of, place_of, count_of, starts_of, parts_of, owners_of}
use Rattle.audit.specs.Tables.{told_within}

-- number, place and count are the verdict's
pub record Answers (v : Verdict) (a : Answer) : Type 0 where
  pub number : a.number ≡ number_of v
  pub place : a.place ≡ place_of v
  pub count : a.count ≡ count_of v

-- the rows, then anything
abbrev pub Begins : List ℕ → List ℕ → Type 0
Begins xs t = take (length xs) t ≡ xs

-- what the tables hold before the rest of them is cleared
pub record Filled (v : Verdict) (start part owner : List ℕ) : Type 0 where
  pub starts : Begins (starts_of v) start
  pub parts : Begins (parts_of v) part
  pub owners : Begins (owners_of v) owner
  -- as many parts and owners as starts, and as many as are counted where the number is 0
  pub each_part : length (parts_of v) ≡ length (starts_of v)
  pub each_owner : length (owners_of v) ≡ length (starts_of v)
  pub counted : number_of v ≡ 0 → count_of v ≡ length (starts_of v)

abbrev pub Examines : Mode → ℕ → Lent → MutLent → MutLent → MutLent → Answer → Type 0
Examines mode limit file start part owner r =
    let v = told_within mode limit file start part owner in Answers v r × Filled v (after start) (after part) (after owner)
