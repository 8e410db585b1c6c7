-- A directory's keys list, its turn, and the directories one after the other.
use Prim.Native.Nat.{ℕ, zero, suc, ◌+◌, ◌-◌, ◌%◌, ◌<◌, ◌≤◌}
use mathlib.Core.Bool.{Bool, true, false, not}
use mathlib.Core.List.{List}
use mathlib.Core.Path.{◌≡◌, refl, sym, ap, ◌∙◌}
use native.Mathlib.Omega.{arith}
use borrow.Author.Tests.{eq-eqb, ne_eqb, le-leb, lt-leb}
use lib.ListN.{length, get_or, set}
use Rattle.std.specs.Prelude.{Option, Some, None, Result, Ok, Err}
use Rattle.wire.specs.Fault.{fault}
use Rattle.wire.specs.declared.fault.Fault.{Fault}
use Rattle.wire.specs.declared.fault.Reason.TheVariants as reason
use Rattle.wire.specs.Number.{num_at}
use Rattle.directory.specs.Dir.{head_in, sub_in, dir_of}
use Rattle.directory.specs.declared.DirHead.{DirHead}
use Rattle.fileheader.specs.declared.FileHead.{FileHead}
use Rattle.rules.specs.Turn.{Turn, going, stop, and_then, copies, ended, data_turn, keys_turn, on_dir, dir_turn, settle, round_turn}
use Rattle.rules.specs.Turn.{rounds}
use Rattle.rules.proofs.Counts.{count, count_most, count_some, grew, fewer}
use Rattle.rules.proofs.Rows.{rounds_over, rounds_more}
use Rattle.rules.proofs.Runs.{and_then_law, dir_went}
use Rattle.rows.specs.Row.{Rises}
use Rattle.copies.specs.Copy.{given, keys_step, Finds}
use Rattle.copies.specs.declared.KeysList.{KeysList}
use Rattle.waiting.specs.Waiting.{parts_in, Keeps}
use Rattle.waiting.specs.declared.Waiting.{Waiting}
use Rattle.waiting.proofs.Trees.{part_at, parts_size}
use Rattle.waiting.proofs.Keeping.{none_waits, one_waits, over}
use Rattle.audit.specs.Listing.{Tables, Ran, Went, Assigns}
use Rattle.audit.specs.declared.keys.Listed.{Listed}
use Rattle.audit.proofs.Listings.{ran_fault, went, faulted, next_is, fault_is, told_is, stays_stopped, sized_kept}
use Rattle.audit.proofs.Listings.{claim_late, claim_made}

-- the data of a keys list
module _ (s qs : List ℕ) (d seek a end : ℕ) (ps os : List ℕ) (c : ℕ) where
  pub data_short : end < a + 4 → data_turn s qs d seek a end ps os c ≡ stop 12 seek
  unfolding data_turn
  data_short l = rw (lt-leb (a + 4) end l)

  module _ (l : a + 4 ≤ end) {n : ℕ} (e : n ≡ num_at 4 s a) where
    by_copies : {y : Turn} → copies s qs d seek end n ps os c ≡ y → data_turn s qs d seek a end ps os c ≡ and_then (ended seek end) y
    unfolding data_turn
    by_copies f = rw (le-leb (a + 4) end l, ← e) (ap (and_then (ended seek end)) f)

    module _ (us vs : List ℕ) where
      pub data_fault : (f : Fault) → Went qs (copies s qs d seek end n ps os c) (Err f) us vs
          → Went qs (data_turn s qs d seek a end ps os c) (Err f) us vs
      data_fault f h = stays_stopped qs us vs f h.0 by_copies

      module _ (r : Listed) (h : Went qs (copies s qs d seek end n ps os c) (Ok r) us vs) where
        at_end : data_turn s qs d seek a end ps os c ≡ ended seek end (parts_in us) vs r.next
        at_end = by_copies (next_is (copies s qs d seek end n ps os c) (parts_in us) vs r h.0)

        pub data_left : (r.next ≡ end → ⊥) → Went qs (data_turn s qs d seek a end ps os c) (Err (fault reason.Keys seek)) us vs
        data_left z = faulted qs us vs (fault reason.Keys seek) refl (at_end ∙ rw (ne_eqb r.next end z))

        pub data_ended : r.next ≡ end → Went qs (data_turn s qs d seek a end ps os c) (Ok r) us vs
        data_ended z = went qs us vs r (at_end ∙ rw (eq-eqb r.next end z)) (told_is qs us r h.1)

-- the keys list, from what was found
module _ {s qs : List ℕ} {d : ℕ} {dh : DirHead} {x : Result (Option KeysList) Fault} (h : Finds s qs d dh x) (up : Rises qs) (p os : List ℕ) where
  keys_are : {y : Result (Option KeysList) Fault} → x ≡ y → keys_turn s qs d dh (parts_in p) os ≡ keys_step s qs d dh.seekkeys y (parts_in p) os
  keys_are e = h.step up (parts_in p) os ∙ ap (λ (y : Result (Option KeysList) Fault). keys_step s qs d dh.seekkeys y (parts_in p) os) e

  pub keys_none : {w : Waiting} → Keeps qs p w → x ≡ Ok None → Went qs (keys_turn s qs d dh (parts_in p) os) (Ok (record { next = 0; waiting = w })) p os
  keys_none {w} k e = went qs p os (record { next = 0; waiting = w }) (keys_are e) k

  pub keys_stops : (us vs : List ℕ) {f : Fault} → x ≡ Err f → Went qs (keys_turn s qs d dh (parts_in p) os) (Err f) us vs
  keys_stops us vs {f} e = faulted qs us vs f (h.bare f e) (keys_are e)

  module _ {l : KeysList} (f : x ≡ Ok (Some l)) where
    by_given : {t : Turn} → given l.claim (parts_in p) os ≡ t → keys_turn s qs d dh (parts_in p) os ≡ and_then (data_turn s qs d dh.seekkeys l.from l.end) t
    by_given e = keys_are f ∙ ap (and_then (data_turn s qs d dh.seekkeys l.from l.end)) e

    module _ {us vs : List ℕ} {b : Bool} (c : Assigns p os us vs l.claim b) (us' vs' : List ℕ) where
      pub keys_late : not b ≡ true → Went qs (keys_turn s qs d dh (parts_in p) os) (Err (fault reason.Twice l.claim.place)) us' vs'
      keys_late i = faulted qs us' vs' (fault reason.Twice l.claim.place) refl (by_given (claim_late c i))

      pub keys_ran : not b ≡ false → (r : Result Listed Fault)
          → Went qs (data_turn s qs d dh.seekkeys l.from l.end (parts_in us) vs (l.from + 4)) r us' vs'
          → Went qs (keys_turn s qs d dh (parts_in p) os) r us' vs'
      keys_ran i r m =
          let k = h.held l f in
          let e = by_given (claim_made c i (omega (arith, k.part))) ∙ ap (data_turn s qs d dh.seekkeys l.from l.end (parts_in us) vs) k.next in
          (rw e m.0, m.1)

-- the header of the directory at a place
module _ (s : List ℕ) (h : FileHead) (p parent : ℕ) where
  pub head_dir : {r : Option DirHead} → p ≡ 100 → r ≡ head_in s h.nbytesname → r ≡ dir_of s h p parent
  unfolding dir_of
  head_dir e f = rw (eq-eqb p 100 e) f

  pub sub_dir : {r : Option DirHead} → (p ≡ 100 → ⊥) → r ≡ sub_in s p parent → r ≡ dir_of s h p parent
  unfolding dir_of
  sub_dir z f = rw (ne_eqb p 100 z) f

-- the lowest directory
module _ (s : List ℕ) (h : FileHead) {qs p os : List ℕ} {w : Waiting} (t : Tables qs p os w) where
  place_is : w.place ≡ get_or qs w.row 0
  place_is = t.waiting.place ∙ ap (λ (i : ℕ). get_or qs i 0) (sym t.waiting.row)

  by_header : {x : Option DirHead} → x ≡ dir_of s h w.place (get_or os w.row 0)
      → dir_turn s h qs w.row (parts_in p) os ≡ on_dir s qs w.place (parts_in p) os x
  unfolding dir_turn
  by_header e =
      ap (λ (q : ℕ). on_dir s qs q (parts_in p) os (dir_of s h q (get_or os w.row 0))) (sym place_is)
      ∙ ap (on_dir s qs w.place (parts_in p) os) (sym e)

  module _ (us vs : List ℕ) where
    pub dir_bad : None ≡ dir_of s h w.place (get_or os w.row 0)
        → Went qs (dir_turn s h qs w.row (parts_in p) os) (Err (fault reason.Directory w.place)) us vs
    dir_bad e = faulted qs us vs (fault reason.Directory w.place) refl (by_header e)

    pub dir_held : {dh : DirHead} (r : Result Listed Fault) → Some dh ≡ dir_of s h w.place (get_or os w.row 0)
        → Went qs (keys_turn s qs w.place dh (parts_in p) os) r us vs → Went qs (dir_turn s h qs w.row (parts_in p) os) r us vs
    dir_held r e g = (rw (by_header e) g.0, g.1)

-- a directory that is done
module _ (s : List ℕ) (h : FileHead) {qs p os : List ℕ} {w : Waiting} (t : Tables qs p os w) (o : 0 < w.number) (us vs : List ℕ) where
  pub round_fault : (f : Fault) → Went qs (dir_turn s h qs w.row (parts_in p) os) (Err f) us vs
      → Went qs (round_turn s h qs w.row (parts_in p) os) (Err f) us vs
  unfolding round_turn
  round_fault f g = stays_stopped qs us vs f g.0 (ap (and_then (settle w.row (get_or (parts_in p) w.row 0 - 8))))

  module _ (l : Listed) (g : Went qs (dir_turn s h qs w.row (parts_in p) os) (Ok l) us vs) where
    listed : dir_turn s h qs w.row (parts_in p) os ≡ going (parts_in us) vs l.next
    listed = next_is (dir_turn s h qs w.row (parts_in p) os) (parts_in us) vs l g.0

    -- its own row is as it was
    same : get_or (parts_in us) w.row 0 ≡ get_or (parts_in p) w.row 0
    same =
        let a = dir_went s qs h w.row (parts_in p) os (parts_in us) vs l.next listed in
        (grew (get_or qs w.row 0) a.0 (parts_in p) os (parts_in us) vs a.2).stays w.row
        (λ z. omega (arith, z, part_at p w.row, (one_waits t.waiting o).1))

    pub round_done : (ws : List ℕ) {u : Waiting} → length us ≡ length p → parts_in ws ≡ set (parts_in us) w.row (get_or (parts_in us) w.row 0 % 8)
        → (Keeps qs us l.waiting → w.row < length us → 8 ≤ get_or us w.row 0 % 16 → Keeps qs ws u)
        → Went qs (round_turn s h qs w.row (parts_in p) os) (Ok (record { next = l.next; waiting = u })) ws vs
    unfolding round_turn
    round_done ws {u} m f k =
        let y = one_waits t.waiting o in
        let x = part_at us w.row in
        let z = part_at p w.row in
        let d : get_or (parts_in us) w.row 0 % 8 ≡ get_or (parts_in p) w.row 0 - 8 = omega (arith, same, z, y.1) in
        let n : parts_in ws ≡ set (parts_in us) w.row (get_or (parts_in p) w.row 0 - 8) = f ∙ ap (set (parts_in us) w.row) d in
        went qs ws vs (record { next = l.next; waiting = u }) (ap (and_then (settle w.row (get_or (parts_in p) w.row 0 - 8))) listed ∙ λ i. going (sym n i) vs l.next)
        (k (told_is qs us l g.1) (omega (arith, y.0, m)) (omega (arith, same, x, z, y.1)))

-- while directories are taken: what is left decides, and as many rounds as rows without a part or not done are enough
pub record Rounding (s : List ℕ) (h : FileHead) (qs ps os p vs : List ℕ) (l : Listed) : Type 0 where
  pub left : ℕ
  pub enough : count (parts_in p) ≤ left
  pub run : rounds s h qs (length qs) ps os 0 ≡ rounds s h qs left (parts_in p) vs l.next
  pub tables : Tables qs p vs l.waiting

pub rounds_began : (s : List ℕ) (h : FileHead) {qs p os : List ℕ} {w : Waiting} → Tables qs p os w
    → Rounding s h qs (parts_in p) os p os (record { next = 0; waiting = w })
rounds_began s h {qs} {p} t = record {
  left = length qs;
  enough = omega (arith, count_most (parts_in p), parts_size p, t.sized.parts);
  run = refl;
  tables = t;
}

module _ {s : List ℕ} {h : FileHead} {qs ps os p vs : List ℕ} {l : Listed} (c : Rounding s h qs ps os p vs l) where
  pub rounds_ended : l.waiting.number ≡ 0 → Ran (rounds s h qs (length qs) ps os 0) (Ok l) p vs
  unfolding Ran rounds
  rounds_ended e =
      let d = rw (over c.tables.waiting e) at (c.run ∙ rest c.left) in
      rw d (refl, (refl, refl))
    where
      rest : (n : ℕ) → rounds s h qs n (parts_in p) vs l.next ≡ going (parts_in p) vs l.next
      rest zero = refl
      rest (suc n) = rounds_over s h qs n (parts_in p) vs l.next (none_waits c.tables.waiting e)

  module _ (o : 0 < l.waiting.number) where
    -- one more, and it leaves fewer
    heavy : 0 < count (parts_in p)
    heavy =
        let y = one_waits c.tables.waiting o in
        count_some (parts_in p) l.waiting.row (omega (arith, y.0, parts_size p)) (omega (arith, y.1, part_at p l.waiting.row))

    by_round : {x : Turn} → round_turn s h qs l.waiting.row (parts_in p) vs ≡ x
        → rounds s h qs (length qs) ps os 0 ≡ and_then (rounds s h qs (c.left - 1)) x
    by_round e =
        let f : c.left ≡ suc (c.left - 1) = omega (arith, heavy, c.enough) in
        let y = one_waits c.tables.waiting o in
        c.run ∙ ap (λ (k : ℕ). rounds s h qs k (parts_in p) vs l.next) f
        ∙ rounds_more s h qs (c.left - 1) (parts_in p) vs l.next (sym c.tables.waiting.row) (omega (arith, y.0, parts_size p))
        ∙ ap (and_then (rounds s h qs (c.left - 1))) e

    module _ (us ws : List ℕ) where
      pub rounds_fault : (f : Fault) → Went qs (round_turn s h qs l.waiting.row (parts_in p) vs) (Err f) us ws
          → Ran (rounds s h qs (length qs) ps os 0) (Err f) us ws
      rounds_fault f g =
          let k = fault_is (round_turn s h qs l.waiting.row (parts_in p) vs) (parts_in us) ws f g.0 in
          ran_fault us ws f k.1 (by_round k.0)

      module _ (m : Listed) (g : Went qs (round_turn s h qs l.waiting.row (parts_in p) vs) (Ok m) us ws) where
        listed_round : round_turn s h qs l.waiting.row (parts_in p) vs ≡ going (parts_in us) ws m.next
        listed_round = next_is (round_turn s h qs l.waiting.row (parts_in p) vs) (parts_in us) ws m g.0

        pub rounds_less : count (parts_in us) < count (parts_in p)
        unfolding round_turn
        rounds_less =
            let y = and_then_law (settle l.waiting.row (get_or (parts_in p) l.waiting.row 0 - 8)) (dir_turn s h qs l.waiting.row (parts_in p) vs) listed_round in
            let a = dir_went s qs h l.waiting.row (parts_in p) vs y.0 y.1 y.2 y.3 in
            let b = grew (get_or qs l.waiting.row 0) a.0 (parts_in p) vs y.0 y.1 a.2 in
            let k = one_waits c.tables.waiting o in
            let z = part_at p l.waiting.row in
            let n = b.stays l.waiting.row (λ i. omega (arith, i, z, k.1)) in
            let f = fewer (get_or qs l.waiting.row 0) a.0 (parts_in p) vs y.0 y.1 l.waiting.row (get_or (parts_in p) l.waiting.row 0 - 8) a.2
            (omega (arith, b.size, parts_size p, k.0)) (omega (arith, n, z, k.1)) (omega (arith, z, c.tables.waiting.parts l.waiting.row)) in
            let x = y.4 in
            let d : set y.0 l.waiting.row (get_or (parts_in p) l.waiting.row 0 - 8) ≡ parts_in us = cc in
            omega (arith, f, ap count d)

        pub rounds_again : length us ≡ length p → length ws ≡ length vs → Rounding s h qs ps os us ws m
        rounds_again i n = record {
          left = c.left - 1;
          enough = omega (arith, c.enough, rounds_less);
          run = by_round listed_round;
          tables = record { sized = sized_kept c.tables.sized i n; waiting = told_is qs us m g.1 };
        }
