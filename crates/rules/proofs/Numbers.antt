-- The numbers of refusals among the directories: all from 8 on.
use Rattle.std.specs.Prelude.{Option, Some, None}
use Prim.Native.Nat.{ℕ, zero, suc, ◌+◌, ◌-◌, ◌≤◌}
use mathlib.Core.Bool.{Bool, true, false}
use mathlib.Core.List.{List}
use native.Mathlib.Omega.{arith}
use lib.Dec.{eqb, leb, ltb}
use lib.ListN.{length, get_or, set, replicate}
use Rattle.wire.specs.Check.{all, pick}
use Rattle.wire.specs.Number.{num_at}
use Rattle.directory.specs.Dir.{head_in, dir_of, no_keys}
use Rattle.keylist.specs.Keys.{copy_in}
use Rattle.keylist.specs.declared.Data.{Data}
use Rattle.directory.specs.declared.DirHead.{DirHead}
use Rattle.fileheader.specs.declared.FileHead.{FileHead}
use Rattle.rules.specs.Entry.{entry_fits}
use Rattle.rules.specs.Free.{Mode, free_holds, info_holds}
use Rattle.rules.specs.Order.{on_head, ruled}
use Rattle.rules.specs.Turn.{row_of, Turn, going, stop, and_then, give, listed_mark, on_copy, copy_turn, copies, ended, data_turn, on_data, keys_in}
use Rattle.rules.specs.Turn.{keys_turn, on_dir, dir_turn, settle, round_turn, next_row, rounds, first_parts}
use Rattle.key.specs.declared.header.Key.{Key}

abbrev pub Late : Turn → Type 0
Late (going ps os c) = Unit
Late (stop n p) = 8 ≤ n

late_pick : (b : Bool) (t u : Turn) → Late t → Late u → Late (pick b t u)
late_pick true t u a c = a
late_pick false t u a c = c

late_then : (f : List ℕ → List ℕ → ℕ → Turn) (t : Turn) → ((ps os : List ℕ) (c : ℕ) → Late (f ps os c)) → Late t → Late (and_then f t)
late_then f (going ps os c) h a = h ps os c
late_then f (stop n p) h a = a

late_give : (i m d next place : ℕ) (ps os : List ℕ) → Late (give i m d next place ps os)
late_give i m d next place ps os = late_pick (eqb (get_or ps i 0) 7) (going (set ps i m) (set os i d) next) (stop 14 place) tt (omega arith)

module _ (s qs : List ℕ) (d : ℕ) where
  late_on : (seek c : ℕ) (ps os : List ℕ) (x : Option Key) → Late (on_copy s qs d seek c ps os x)
  late_on seek c ps os (Some k) =
      late_pick (all (entry_fits s qs d c k)) (give (row_of qs k.seekkey) (listed_mark s k.seekkey) d (c + k.keylen) c ps os) (stop 13 c)
      (late_give (row_of qs k.seekkey) (listed_mark s k.seekkey) d (c + k.keylen) c ps os) (omega arith)
  late_on seek c ps os None = omega arith

  late_copy : (seek end : ℕ) (ps os : List ℕ) (c : ℕ) → Late (copy_turn s qs d seek end ps os c)
  unfolding copy_turn
  late_copy seek end ps os c = late_on seek c ps os (copy_in s c end)

  late_copies : (seek end n : ℕ) (ps os : List ℕ) (c : ℕ) → Late (copies s qs d seek end n ps os c)
  unfolding copies
  late_copies seek end zero ps os c = tt
  late_copies seek end (suc n) ps os c =
      late_then (copies s qs d seek end n) (copy_turn s qs d seek end ps os c) (late_copies seek end n) (late_copy seek end ps os c)

  late_data : (seek a end : ℕ) (ps os : List ℕ) (c : ℕ) → Late (data_turn s qs d seek a end ps os c)
  unfolding data_turn
  late_data seek a end ps os c =
      late_pick (leb (a + 4) end) (and_then (ended seek end) (copies s qs d seek end (num_at 4 s a) ps os c)) (stop 12 seek)
      (late_then (ended seek end) (copies s qs d seek end (num_at 4 s a) ps os c)
      (λ us vs e. late_pick (eqb e end) (going us vs e) (stop 12 seek) tt (omega arith)) (late_copies seek end (num_at 4 s a) ps os c))
      (omega arith)

  late_on_data : (seek : ℕ) (ps os : List ℕ) (x : Option Data) → Late (on_data s qs d seek ps os x)
  late_on_data seek ps os (Some l) =
      late_then (data_turn s qs d seek l.from l.end) (give (row_of qs seek) 4 d (l.from + 4) d ps os) (late_data seek l.from l.end)
      (late_give (row_of qs seek) 4 d (l.from + 4) d ps os)
  late_on_data seek ps os None = omega arith

  late_keys : (dh : DirHead) (ps os : List ℕ) → Late (keys_turn s qs d dh ps os)
  unfolding keys_turn
  late_keys dh ps os =
      late_pick (all (no_keys dh)) (going ps os 0) (on_data s qs d dh.seekkeys ps os (keys_in s qs d dh)) tt
      (late_on_data dh.seekkeys ps os (keys_in s qs d dh))

  late_dir : (ps os : List ℕ) (x : Option DirHead) → Late (on_dir s qs d ps os x)
  late_dir ps os (Some dh) = late_keys dh ps os
  late_dir ps os None = omega arith

module _ (s : List ℕ) (h : FileHead) (qs : List ℕ) where
  late_round : (row : ℕ) (ps os : List ℕ) → Late (round_turn s h qs row ps os)
  unfolding round_turn dir_turn
  late_round row ps os =
      late_then (settle row (get_or ps row 0 - 8)) (on_dir s qs (get_or qs row 0) ps os (dir_of s h (get_or qs row 0) (get_or os row 0)))
      (λ us vs c. tt) (late_dir s qs (get_or qs row 0) ps os (dir_of s h (get_or qs row 0) (get_or os row 0)))

  late_rounds : (n : ℕ) (ps os : List ℕ) (c : ℕ) → Late (rounds s h qs n ps os c)
  unfolding rounds
  late_rounds zero ps os c = tt
  late_rounds (suc n) ps os c =
      late_pick (ltb (next_row ps) (length ps)) (and_then (rounds s h qs n) (round_turn s h qs (next_row ps) ps os)) (going ps os c)
      (late_then (rounds s h qs n) (round_turn s h qs (next_row ps) ps os) (late_rounds n) (late_round (next_row ps) ps os)) tt

  late_head : (mode : Mode) (x : Option DirHead) → Late (on_head mode s h qs x)
  late_head mode (Some dh) =
      let t = rounds s h qs (length qs) (first_parts s h qs) (replicate (length qs) 0) 0 in
      late_pick (free_holds mode s qs h) (pick (info_holds s qs h) t (stop 10 h.seekinfo)) (stop 9 h.seekfree)
      (late_pick (info_holds s qs h) t (stop 10 h.seekinfo) (late_rounds (length qs) (first_parts s h qs) (replicate (length qs) 0) 0) (omega arith))
      (omega arith)
  late_head mode None = omega arith

  pub late : (mode : Mode) → Late (ruled mode s h qs)
  unfolding ruled
  late mode = late_head mode (head_in s h.nbytesname)
