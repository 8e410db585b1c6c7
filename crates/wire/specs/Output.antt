-- What a function makes in an output that it is lent: document 02, "Refused, the output is unchanged; else only the result is written,
-- count its bytes".
use Rattle.std.specs.Prelude.{ℕ, List, ◌≡◌, length}
use Rattle.wire.specs.Answer.{done}
use Rattle.wire.specs.Patch.{patch}
use Rattle.wire.specs.declared.Answer.{Answer}

-- the bytes of a result, or a refusal
pub data Made : Type 0 where
  made : List ℕ → Made
  refused : Answer → Made

-- "count its bytes"
abbrev pub answer_of : Made → Answer
answer_of (made x) = done (length x)
answer_of (refused a) = a

-- "Refused, the output is unchanged; else only the result is written": at its front
abbrev pub output_of : List ℕ → Made → List ℕ
output_of b (made x) = patch b 0 x
output_of b (refused a) = b

-- the answer and the output of a function that makes m, before and after
pub record Makes (m : Made) (out out' : List ℕ) (r : Answer) : Type 0 where
  pub answer : r ≡ answer_of m
  pub output : out' ≡ output_of out m
