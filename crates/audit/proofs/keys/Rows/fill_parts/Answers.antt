use lib.ListN.{length-set}
use mathlib.Core.Path.{ap, refl, ◌∙◌}
use Prim.Native.Nat.{ℕ, ◌%◌}
use Rattle.audit.proofs.Listings.{same_self}
use Rattle.audit.proofs.Fills.{parts_began, parts_again, parts_ended}
use Rattle.audit.proofs.keys.Rows.fill_parts.Goals as goal

pub loop-i-init : goal.loop-i-init
loop-i-init c = (parts_began _ _ _ _ c.requires, refl, same_self)

pub loop-i-preserved : goal.loop-i-preserved
loop-i-preserved c =
    let s = c.loop-i.invariant.2 in
    let a = rw (s.file, s.head) at c.part_at.ensures in (
      parts_again c.loop-i.invariant.0 c.loop-i-test.true (ap (λ (k : ℕ). k % 8) a),
      c.loop-i.invariant.1,
      record {
        file = s.file;
        head = s.head;
        start = s.start;
        part = s.part;
        owner = s.owner;
        parts = length-set _ _ _ ∙ s.parts;
        owners = s.owners;
      },
    )

pub returns-clause-is : goal.returns-clause-is
returns-clause-is c = parts_ended c.loop-i.invariant.0 c.loop-i-test.false
