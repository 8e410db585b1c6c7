-- Bytes that are cut into parts of one length, and parts one after the other.
use Rattle.std.specs.Prelude.{ℕ, zero, suc, ◌*◌, List, [], ◌++◌, take, drop}

-- part i, from 0 on, where each has n bytes; or what there is of it
unfoldable pub part : ℕ → List ℕ → ℕ → List ℕ
part n s i = take n (drop (i * n) s)

-- f 0 up to f (n - 1), one after the other
unfoldable pub parts : (ℕ → List ℕ) → ℕ → List ℕ
parts f zero = []
parts f (suc n) = parts f n ++ f n
