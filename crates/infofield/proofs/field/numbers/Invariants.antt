use Rattle.std.proofs.Common.{◌≡◌, Ok}
use Rattle.infofield.specs.Field.{numbers_at}
use Rattle.infofield.proofs.field.numbers.Given as goal

abbrev pub invariant-loop : goal.invariant-loop
invariant-loop l = numbers_at l.counter l.at l.end ≡ Ok l.place
