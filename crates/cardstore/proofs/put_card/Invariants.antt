use Rattle.cardstore.proofs.Fills.{Writing}
use Rattle.cardstore.proofs.put_card.Given as goal

abbrev pub invariant-loop-i : goal.invariant-loop-i
invariant-loop-i l = Writing l.file l.n l.initial.card l.card l.i
