-- The third demand: a verdict means what it says.
use Rattle.std.specs.Prelude.{Option, Some, None, Result, Ok, Err}
use Prim.Native.Nat.{ℕ, ◌<◌, ◌≤◌}
use mathlib.Core.Bool.{Bool, true, false}
use mathlib.Core.List.{List}
use mathlib.Core.Logic.{⊎_elim}
use mathlib.Core.Path.{◌≡◌, refl, sym, ap, subst}
use native.Mathlib.Omega.{arith}
use borrow.Author.Tests.{le-leb, lt-leb, leb-true, leb-false}
use lib.Dec.{leb}
use lib.ListN.{length, replicate}
use Rattle.wire.specs.Check.{pick}
use Rattle.directory.specs.Dir.{head_in}
use Rattle.fileheader.specs.File.{opened_as}
use Rattle.wire.specs.Fault.{needed_of, number_of as reason_number}
use Rattle.directory.specs.declared.DirHead.{DirHead}
use Rattle.wire.specs.declared.fault.Fault.{Fault}
use Rattle.fileheader.specs.declared.FileHead.{FileHead}
use Rattle.rules.specs.Demand.{Partitioned, Passes, Unfinished, Demand}
use Rattle.rules.specs.Free.{Mode, free_holds, info_holds}
use Rattle.rules.specs.Order.{Chain, whole, fault, chain, on_head, ruled, passed, refused, verdict, number_of}
use Rattle.rules.specs.Partition.{Partition}
use Rattle.rules.specs.Rules.{Rules}
use Rattle.rules.specs.Turn.{Turn, going, stop, rounds, first_part, first_parts}
use Rattle.rules.proofs.Begins.{begins, begin_agrees, length_map}
use Rattle.rules.proofs.Chains.{chain_whole, whole_partition, fault_number, opened_number, opened_long}
use Rattle.rules.proofs.Counts.{count, count_most}
use Rattle.rules.proofs.Frees.{free_holds_law, free_there}
use Rattle.rules.proofs.FromRules.{as_state, all_known}
use Rattle.rules.proofs.Numbers.{Late, late}
use Rattle.rules.proofs.Partitions.{one_partition_law}
use Rattle.rules.proofs.Rounds.{rounds_went, rounds_go}
use Rattle.rules.proofs.Runs.{stopped, tested}
use Rattle.rules.proofs.ToRules.{meets}

-- the rules hold exactly where no refusal is met
module _ (mode : Mode) (s : List ℕ) (h : FileHead) (qs : List ℕ) (p : Partition s 100 (length s) qs) where
  enough : count (first_parts s h qs) ≤ length qs
  enough = omega (arith, count_most (first_parts s h qs), length_map (first_part s h) qs)

  went_by : (x : Option DirHead) (ps os : List ℕ) (c : ℕ) → head_in s h.nbytesname ≡ x → on_head mode s h qs x ≡ going ps os c → Rules s h qs ps os mode
  went_by (Some dh) ps os c e f =
      let t = rounds s h qs (length qs) (first_parts s h qs) (replicate (length qs) 0) 0 in
      let a = tested (free_holds mode s qs h) (pick (info_holds s qs h) t (stop 10 h.seekinfo)) 9 h.seekfree f in
      let b = tested (info_holds s qs h) t 10 h.seekinfo a.1 in
      let w = rounds_went s h qs p (length qs) (first_parts s h qs) (replicate (length qs) 0) ps os 0 c (begins s h qs p) enough b.1 in
      meets s h qs p ps os w.0 w.1 dh e (free_there mode s qs h a.0) b.0
  went_by None ps os c e f = stopped (sym f)

  pub ruled_went : (ps os : List ℕ) (c : ℕ) → ruled mode s h qs ≡ going ps os c → Rules s h qs ps os mode
  unfolding ruled
  ruled_went ps os c e = went_by (head_in s h.nbytesname) ps os c refl e

  pub ruled_goes : (ps os : List ℕ) → Rules s h qs ps os mode → (c : ℕ) × (ruled mode s h qs ≡ going ps os c)
  unfolding ruled
  ruled_goes ps os r =
      let w = as_state s h qs p ps os r in
      let k = all_known s h qs p ps os r in
      let g = rounds_go s h qs p ps os w k (length qs) (first_parts s h qs) (replicate (length qs) 0) 0 (begins s h qs p)
      (begin_agrees s h qs p ps os w k) enough in
      (g.0, rw (r.head_rule.1, free_holds_law mode s qs h r.free_rule, r.info_rule) g.1)

-- the five kinds of verdict
pub data View (mode : Mode) (s : List ℕ) (room : ℕ) : Type 0 where
  header : (f : Fault) → opened_as s ≡ Err f → verdict mode s room ≡ refused (reason_number f.reason) f.place (needed_of f.reason) → View mode s room
  faulty : (h : FileHead) (c p : ℕ) → opened_as s ≡ Ok h → chain s (length s) 100 ≡ fault c p → verdict mode s room ≡ refused c p 0 → View mode s room
  longer : (h : FileHead) (qs : List ℕ) → Partitioned s h qs → room < length qs → verdict mode s room ≡ refused 7 0 (length qs) → View mode s room
  stops : (h : FileHead) (qs : List ℕ) (c p : ℕ) → ruled mode s h qs ≡ stop c p → verdict mode s room ≡ refused c p 0 → View mode s room
  goes : (h : FileHead) (qs ps os : List ℕ) (c : ℕ) → Partitioned s h qs → length qs ≤ room → ruled mode s h qs ≡ going ps os c
      → verdict mode s room ≡ passed qs ps os → View mode s room

module _ (mode : Mode) (s : List ℕ) (room : ℕ) where
  cut_of : (h : FileHead) (qs : List ℕ) → opened_as s ≡ Ok h → chain s (length s) 100 ≡ whole qs → Partitioned s h qs
  cut_of h qs e f = (e, whole_partition s (length s) 100 qs f (opened_long s e))

  view_turn : (h : FileHead) (qs : List ℕ) (t : Turn) → opened_as s ≡ Ok h → chain s (length s) 100 ≡ whole qs → length qs ≤ room
      → ruled mode s h qs ≡ t → View mode s room
  unfolding verdict
  view_turn h qs (going ps os c) e f l g =
      goes h qs ps os c (cut_of h qs e f) l g (rw (e, f, le-leb (length qs) room l, g))
  view_turn h qs (stop c p) e f l g = stops h qs c p g (rw (e, f, le-leb (length qs) room l, g))

  view_chain : (h : FileHead) (x : Chain) → opened_as s ≡ Ok h → chain s (length s) 100 ≡ x → View mode s room
  unfolding verdict
  view_chain h (fault c p) e f = faulty h c p e f (rw (e, f))
  view_chain h (whole qs) e f = go (leb (length qs) room) refl
    where
      go : (b : Bool) → leb (length qs) room ≡ b → View mode s room
      go true g = view_turn h qs (ruled mode s h qs) e f (leb-true (length qs) room g) refl
      go false g = longer h qs (cut_of h qs e f) (leb-false (length qs) room g) (rw (e, f, g))

  view_by : (x : Result FileHead Fault) → opened_as s ≡ x → View mode s room
  unfolding verdict
  view_by (Ok h) e = view_chain h (chain s (length s) 100) e refl
  view_by (Err c) e = header c e (rw e)

  pub view : View mode s room
  view = view_by (opened_as s) refl

  is_number : {c p n : ℕ} → verdict mode s room ≡ refused c p n → number_of (verdict mode s room) ≡ c
  is_number e = ap number_of e

  late_number : (h : FileHead) (qs : List ℕ) (c p : ℕ) → ruled mode s h qs ≡ stop c p → 8 ≤ c
  late_number h qs c p e = subst Late e (late s h qs mode)

  abbrev Sound : Type 0
  Sound = (qs : List ℕ) × (ps : List ℕ) × (os : List ℕ) × (verdict mode s room ≡ passed qs ps os) × Passes mode s room qs ps os

  sound_by : View mode s room → number_of (verdict mode s room) ≡ 0 → Sound
  sound_by (header c e f) z = absurd (omega (arith, (opened_number s e).0, is_number f))
  sound_by (faulty h c p e f g) z =
      ⊎_elim (λ (x : c ≡ 5). absurd (omega (arith, is_number g))) (λ (x : c ≡ 6). absurd (omega (arith, is_number g))) (fault_number s (length s) 100 c p f)
  sound_by (longer h qs c l e) z = absurd (omega (arith, is_number e))
  sound_by (stops h qs c p e f) z = absurd (omega (arith, is_number f, late_number h qs c p e))
  sound_by (goes h qs ps os c k l e f) z =
      (qs, ps, os, f, record { header = h; partition = k; fits = l; rules = ruled_went mode s h qs k.1 ps os c e })

  abbrev Seven : Type 0
  Seven = (n : ℕ) × (verdict mode s room ≡ refused 7 0 n) × Unfinished s room n

  seven_by : View mode s room → number_of (verdict mode s room) ≡ 7 → Seven
  seven_by (header c e f) z = absurd (omega (arith, (opened_number s e).1, is_number f))
  seven_by (faulty h c p e f g) z =
      ⊎_elim (λ (x : c ≡ 5). absurd (omega (arith, is_number g))) (λ (x : c ≡ 6). absurd (omega (arith, is_number g))) (fault_number s (length s) 100 c p f)
  seven_by (longer h qs c l e) z =
      (length qs, e, record { header = h; starts = qs; partition = c; count = refl; beyond = l })
  seven_by (stops h qs c p e f) z = absurd (omega (arith, is_number f, late_number h qs c p e))
  seven_by (goes h qs ps os c k l e f) z = let x = ap number_of f in absurd (omega arith)

  chain_is : (h : FileHead) (qs : List ℕ) → Partitioned s h qs → chain s (length s) 100 ≡ whole qs
  chain_is h qs c = chain_whole s 100 qs (length s) c.1 (omega arith)

  pub passes : (qs ps os : List ℕ) → Passes mode s room qs ps os → verdict mode s room ≡ passed qs ps os
  unfolding verdict
  passes qs ps os w =
      let c = w.partition in
      let g = ruled_goes mode s w.header qs c.1 ps os w.rules in
      rw (c.0, chain_is w.header qs c, le-leb (length qs) room w.fits, g.1)

  too_long : (n : ℕ) → Unfinished s room n → verdict mode s room ≡ refused 7 0 n
  unfolding verdict
  too_long n u =
      let c = u.partition in
      rw (c.0, chain_is u.header u.starts c, lt-leb (length u.starts) room (omega (arith, u.count, u.beyond)), u.count)

  any_by : (other : ℕ) (x : Result FileHead Fault) (y : Chain) → opened_as s ≡ x → chain s (length s) 100 ≡ y
      → (number_of (verdict mode s room) ≡ 7 → ⊥) → (number_of (verdict mode s other) ≡ 7 → ⊥) → verdict mode s room ≡ verdict mode s other
  unfolding verdict
  any_by other (Err c) y e f a b = rw e
  any_by other (Ok h) (fault c p) e f a b = rw (e, f)
  any_by other (Ok h) (whole qs) e f a b =
      rw (e, f, fits room (λ g. a (rw (e, f, g))), fits other (λ g. b (rw (e, f, g))))
    where
      fits : (r : ℕ) → (leb (length qs) r ≡ false → ⊥) → leb (length qs) r ≡ true
      fits r n = go (leb (length qs) r) refl
        where
          go : (t : Bool) → leb (length qs) r ≡ t → leb (length qs) r ≡ true
          go true g = g
          go false g = absurd (n g)

-- no second assignment
one_assignment_law : (mode : Mode) (s : List ℕ) (h : FileHead) (qs ps os us vs : List ℕ) → Partitioned s h qs → Rules s h qs ps os mode → Rules s h qs us vs mode
    → (ps ≡ us) × (os ≡ vs)
one_assignment_law mode s h qs ps os us vs c r w =
    let a = passes mode s (length qs) qs ps os (record { header = h; partition = c; fits = omega arith; rules = r }) in
    let b = passes mode s (length qs) qs us vs (record { header = h; partition = c; fits = omega arith; rules = w }) in
    let x : ps ≡ us = cc in
    let y : os ≡ vs = cc in
    (x, y)

pub demand : (mode : Mode) (s : List ℕ) (room : ℕ) → Demand mode s room
demand mode s room = record {
  sound = sound_by mode s room (view mode s room);
  complete = passes mode s room;
  unfinished = seven_by mode s room (view mode s room);
  beyond = too_long mode s room;
  one_partition = λ h k qs rs a b. one_partition_law s 100 qs rs a.1 b.1;
  one_assignment = one_assignment_law mode s;
  any_room = λ other a b. any_by mode s room other (opened_as s) (chain s (length s) 100) refl refl a b;
}
