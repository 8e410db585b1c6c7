use native.Mathlib.Omega.{arith}
use Rattle.std.proofs.lemmas.Bool.Decides.{nat_tests}
use Rattle.wire.proofs.Answers.{gives}
use Rattle.key.proofs.Others.{if_some}
use Rattle.directory.specs.Dir.{sub_in, kept_if}
use Rattle.directory.proofs.read_sub.Goals as goal

pub returns : goal.returns
unfolding sub_in kept_if
returns c = gives (grind (arith, nat_tests, if_some))
