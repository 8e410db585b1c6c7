use Prim.Native.Nat.{ℕ, ◌+◌, ◌≤◌}
use Rattle.infotag.specs.Stand.{once}
use Rattle.streamer.specs.Row.{element_at}
use Rattle.streamer.proofs.Runs.{Reading}
use Rattle.streamer.proofs.info.elements.Given as goal

abbrev pub invariant-loop : goal.invariant-loop
invariant-loop l =
    Reading (λ (j : ℕ). element_at once l.file l.owner l.list.end) l.initial.tags l.list.from l.initial.table l.count l.counter l.tags l.rows l.table
    × (l.rows.count ≤ l.count + l.counter)
