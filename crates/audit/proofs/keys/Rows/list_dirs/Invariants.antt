use Rattle.rules.proofs.Counts.{count}
use Rattle.waiting.specs.Waiting.{parts_in}
use Rattle.audit.specs.Rows.{Same}
use Rattle.audit.proofs.Turns.{Rounding}
use Rattle.audit.proofs.keys.Rows.list_dirs.Given as goal

abbrev pub invariant-loop-listed : goal.invariant-loop-listed
invariant-loop-listed l =
    Rounding l.initial.self.file.now l.initial.self.head l.initial.self.start.now (parts_in l.initial.self.part.now) l.initial.self.owner.now
    l.self.part.now l.self.owner.now l.listed
    × Same l.initial.self l.self

abbrev pub decreases-loop-listed : goal.decreases-loop-listed
decreases-loop-listed l = count (parts_in l.self.part.now)
