use mathlib.Core.Path.{◌≡◌}
use Rattle.view.specs.View.{row_at}
use Rattle.view.proofs.Lists.{over}
use Rattle.view.proofs.show.Given as goal

abbrev pub invariant-loop-i : goal.invariant-loop-i
invariant-loop-i l = l.list ≡ over (row_at l.file l.start l.part l.owner) l.initial.list l.i
