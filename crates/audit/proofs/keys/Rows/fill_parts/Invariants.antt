use mathlib.Core.Path.{◌≡◌}
use Rattle.audit.specs.Rows.{Same}
use Rattle.audit.proofs.Fills.{Parting}
use Rattle.audit.proofs.keys.Rows.fill_parts.Given as goal

abbrev pub invariant-loop-i : goal.invariant-loop-i
invariant-loop-i l =
    Parting l.initial.self.file.now l.initial.self.start.now l.initial.self.part.now l.self.part.now l.initial.self.head l.i
    × (l.self.owner.now ≡ l.initial.self.owner.now) × Same l.initial.self l.self
