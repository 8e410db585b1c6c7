use mathlib.Core.List.{◌++◌}
use lib.ListN.{length-append}
use Rattle.wire.proofs.Patches.{part_then}
use Rattle.wire.proofs.Texts.{length_text}
use Rattle.key.specs.Writer.{name_bytes}
use native.Mathlib.Omega.{arith}
use Rattle.wire.specs.Text.{text_bytes}
use Rattle.writer.proofs.put_names.Goals as goal

pub returns : goal.returns
unfolding name_bytes
returns c =
    let i = length_text c.args.class.now in
    let j = length_text c.args.name.now in
    let k = length_text c.args.title.now in
    part_then c.args.part.now 0 (text_bytes c.args.class.now ++ text_bytes c.args.name.now) (text_bytes c.args.title.now) _
    (part_then c.args.part.now 0 (text_bytes c.args.class.now) (text_bytes c.args.name.now) _ c.put_text-second.ensures.1 (omega arith)
    (omega arith) c.put_text.ensures.1)
    (simp length-append (omega arith)) (omega arith) c.put_text-2.ensures.1
