use Prim.Native.Nat.{◌-◌}
use Rattle.waiting.specs.Waiting.{parts_in}
use Rattle.audit.specs.Rows.{Same}
use Rattle.audit.proofs.Listings.{Copying}
use Rattle.audit.proofs.keys.Rows.list_copies.Given as goal

abbrev pub invariant-loop-i : goal.invariant-loop-i
invariant-loop-i l =
    Copying l.initial.self.file.now l.initial.self.start.now l.list l.count l.from (parts_in l.initial.self.part.now) l.initial.self.owner.now
    (l.count - l._i) l.at l.self.part.now l.self.owner.now l.kept
    × Same l.initial.self l.self
