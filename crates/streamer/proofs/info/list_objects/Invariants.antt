use Prim.Native.Nat.{◌*◌, ◌≤◌}
use Rattle.infotag.specs.Stand.{once}
use Rattle.streamer.specs.Info.{list_object_at}
use Rattle.streamer.proofs.Runs.{Reading}
use Rattle.streamer.proofs.info.list_objects.Given as goal

abbrev pub invariant-loop-class : goal.invariant-loop-class
invariant-loop-class l =
    Reading (list_object_at once l.file l.rec l.list) l.initial.tags l.list.from l.initial.table 0 l.class l.tags l.rows l.table
    × (l.rows.count ≤ l.class * 4294967295)
