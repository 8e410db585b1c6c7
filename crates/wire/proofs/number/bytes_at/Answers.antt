use native.Mathlib.Omega.{arith}
use Prim.Native.Nat.{ℕ, ◌+◌, ◌-◌}
use lib.ListN.{take, drop}
use mathlib.Core.Path.{◌≡◌, ap}
use Rattle.wire.proofs.Numbers.{num_out, chunk_read}
use Rattle.wire.proofs.number.bytes_at.Goals as goal

pub returns-then-s : goal.returns-then-s
returns-then-s g c = num_out _ _ _ (omega arith)

pub returns : goal.returns
returns g c =
    let a = c.args in
    let size : a.at + g.row.N - a.at ≡ g.row.N = omega arith in
    chunk_read g.row.N a.s.now _ a.at c.first_chunk.result (omega arith) (ap (λ (n : ℕ). take n (drop a.at a.s.now)) size)
    c.first_chunk.ensures.cases
