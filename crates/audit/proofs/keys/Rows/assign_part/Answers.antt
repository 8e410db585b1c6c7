use Rattle.audit.proofs.Listings.{part_given}
use Rattle.audit.proofs.keys.Rows.assign_part.Goals as goal

pub returns-clause-is : goal.returns-clause-is
returns-clause-is c =
    part_given c.args.self.now.part.now c.args.self.now.owner.now c.args.g c.requires.0 c.if-self-row-ne7.false c.give.ensures.given
    (λ qs w. c.give.ensures.kept)
