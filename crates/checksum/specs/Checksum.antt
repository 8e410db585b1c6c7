-- The check of bytes: document 02, request 07, "The check starts at 0 and for each of the first 508 bytes becomes three times itself plus
-- the byte, wrapping at 32 bits". It is defined for bytes of any number.
use Rattle.std.specs.Prelude.{ℕ, ◌+◌, ◌*◌, ◌%◌, ◌^◌, List, [], ◌∷◌}

-- the check after one byte more: "three times itself plus the byte, wrapping at 32 bits"
unfoldable pub step : ℕ → ℕ → ℕ
step c b =
    (3 * c + b) % 2 ^ 32

-- what a check becomes over bytes, first byte first
unfoldable pub check_from : ℕ → List ℕ → ℕ
check_from c [] = c
check_from c (b ∷ bs) = check_from (step c b) bs

-- "starts at 0"
unfoldable pub check_of : List ℕ → ℕ
check_of bs = check_from 0 bs
