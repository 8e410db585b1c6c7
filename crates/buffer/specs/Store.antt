-- Bytes at the front of a part of a buffer.
use Rattle.std.specs.Prelude.{ℕ, List, leb, length}
use Rattle.wire.specs.Check.{pick}
use Rattle.wire.specs.Patch.{patch}

-- the part b with x at its front, where it has room for all of x; else as it was
unfoldable pub put_front : List ℕ → List ℕ → List ℕ
put_front b x = pick (leb (length x) (length b)) (patch b 0 x) b
