use Rattle.std.proofs.lemmas.Bool.{not_from_true}
use Prim.Native.Nat.{◌-◌}
use lib.ListN.{length}
use native.Mathlib.Omega.{arith}
use borrow.Author.Tests.{eqb-true}
use Rattle.wire.proofs.Numbers.{lesser_within}
use Rattle.key.proofs.Headers.{from_within}
use Rattle.key.proofs.Shorts.{certain}
use Rattle.key.proofs.short.is_short.Goals as goal

pub returns : goal.returns
returns c =
    let a = c.args in
    λ i. certain a.file.now a.at c.be32-n.ensures c.be16-version.ensures.0 c.be32.ensures c.be16-keylen.ensures.0
    (c.short_sum-sum.ensures (omega arith)) (omega arith) (from_within _ c.is_formed.ensures (not_from_true _ c.if-not-is_formed.false))
    (omega (arith, lesser_within (length a.file.now - a.at) 2147483647)) c.be_offset.ensures (eqb-true _ _ i)
