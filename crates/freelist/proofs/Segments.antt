-- Segments: one as it is read, and those that are left while they are compared with the gaps.
use Prim.Native.Nat.{ℕ, zero, suc, ◌+◌, ◌-◌, ◌<◌, ◌≤◌}
use mathlib.Core.Bool.{Bool, true, false, ◌&&◌, and-false}
use mathlib.Core.List.{List, [], ◌∷◌}
use mathlib.Core.Path.{◌≡◌, refl, sym, ap, ◌∙◌}
use native.Mathlib.Numerals.{add-one}
use native.Mathlib.Omega.{arith}
use borrow.Author.Tests.{eq-eqb, le-leb, eqb-true}
use lib.Dec.{eqb, leb}
use lib.ListN.{length, get_or, take, drop, drop_of_length-le}
use lib.Seq.{drop-cons}
use Rattle.std.specs.Prelude.{Some, None}
use Rattle.std.proofs.lemmas.Bool.Decides.{nat_tests}
use Rattle.wire.specs.Check.{all, All}
use Rattle.wire.specs.Number.{num_at}
use Rattle.wire.proofs.Checks.{from_picked, from_not_picked, not_all, false_true}
use Rattle.key.specs.Piece.{piece_at}
use Rattle.record.proofs.Tests.{and_true}
use Rattle.rules.specs.Free.{segment_end, segments_at, segments_end, segment_version, versions_fit, segments_fit, gap_last, gaps, last_fits, list_gaps, held_to}
use Rattle.rows.specs.Gap.{gap_of}
use Rattle.rows.proofs.Gaps.{gap_none, gap_some, gap_ends}
use Rattle.freelist.specs.Segment.{first_at, last_at, stands, segment_in, segment_is, after_segment, final_is, segments_are, segments_stand}
use Rattle.freelist.specs.declared.Segment.{Segment}

-- tests of a segment, and of a list that begins with it
miss : (x y z v e : Bool) → (x && (y && (z && true))) ≡ false → ((x && v) && (y && (z && e))) ≡ false
miss true true true v e h = false_true (sym h)
miss true true false v e h = and-false v
miss true false z v e h = and-false v
miss false y z v e h = refl

regroup : (a b c d : Bool) → ((a && (b && true)) && (c && d)) ≡ (a && (b && (c && (d && true))))
regroup true true true d = and_true d
regroup true true false d = refl
regroup true false c d = refl
regroup false b c d = refl

-- segments end where they begin or after
ends_past : (s : List ℕ) (n a : ℕ) → a ≤ segments_end s n a
unfolding segments_end
ends_past s zero a = omega arith
ends_past s (suc n) a = omega (arith, ends_past s n (segment_end s a))

module _ (wide : Bool) (s : List ℕ) (a end : ℕ) where
  -- what it says
  pub record Read (g : Segment) : Type 0 where
    pub fits : All (stands wide s a end)
    pub first : g.first ≡ first_at s a
    pub last : g.last ≡ last_at s a
    pub next : g.next ≡ segment_end s a

  pub from_held : {g : Segment} → Some g ≡ segment_in wide s a end → Read g
  unfolding segment_in
  from_held {g} e =
      let f = from_picked (stands wide s a end) _ None e (λ i. cc) in
      let i = f.0 in
      record { fits = f.1; first = cc; last = cc; next = cc }

  pub from_bad : None ≡ segment_in wide s a end → All (stands wide s a end) → ⊥
  unfolding segment_in
  from_bad e h = from_not_picked (stands wide s a end) _ None e (λ i. cc) h

  module _ (first last : ℕ) where
    from_after : {r : ℕ} → Some r ≡ after_segment wide s a end first last → (r ≡ segment_end s a) × All (segment_is wide s a end first last)
    unfolding after_segment
    from_after e = let f = from_picked (segment_is wide s a end first last) _ None e (λ i. cc) in let g = f.0 in (cc, f.1)

    from_none : None ≡ after_segment wide s a end first last → All (segment_is wide s a end first last) → ⊥
    unfolding after_segment
    from_none e = from_not_picked (segment_is wide s a end first last) _ None e (λ i. cc)

    -- the next segment is first and last, or not
    fit : (n : ℕ) (ys : List ℕ) → All (segment_is wide s a end first last) → 0 < n
        → segments_are wide s end (first ∷ last ∷ ys) n a ≡ segments_are wide s end ys (n - 1) (segment_end s a)
    unfolding segments_are versions_fit segments_at segments_end list_gaps
    fit zero ys h l = absurd (omega arith)
    fit (suc n) ys h l =
        let p : suc n - 1 ≡ n = omega arith in
        rw (
          p,
          le-leb (num_at 2 s a) (segment_version wide) h.1.0,
          eq-eqb (first_at s a) first h.1.1.0,
          eq-eqb (last_at s a) last h.1.1.1.0,
        )

    unfit : (n : ℕ) (ys : List ℕ) → (All (segment_is wide s a end first last) → ⊥) → segments_are wide s end (first ∷ last ∷ ys) n a ≡ false
    unfolding segments_are versions_fit segments_at segments_end list_gaps
    unfit zero ys h = and-false (all (segments_fit wide s 0 a end))
    unfit (suc n) ys h = go (eqb (segments_end s n (segment_end s a)) end) refl
      where
        go : (b : Bool) → eqb (segments_end s n (segment_end s a)) end ≡ b
            → ((b && (leb (num_at 2 s a) (segment_version wide) && all (versions_fit wide s n (segment_end s a))))
            && (eqb (first_at s a) first && (eqb (last_at s a) last && list_gaps wide (length s) ys (segments_at s n (segment_end s a))))) ≡ false
        go false e = refl
        go true e =
            let l = ends_past s n (segment_end s a) in
            let m = eqb-true (segments_end s n (segment_end s a)) end e in
            miss (leb (num_at 2 s a) (segment_version wide)) (eqb (first_at s a) first) (eqb (last_at s a) last) _ _
            (rw (le-leb (segment_end s a) end (omega arith)) at (not_all (segment_is wide s a end first last) h))

  -- no segment is left for a gap
  none : (y : ℕ) (ys : List ℕ) → segments_are wide s end (y ∷ ys) 0 a ≡ false
  unfolding segments_are segments_at list_gaps
  none y ys = and-false (all (segments_fit wide s 0 a end))

  -- the final one is the only one left
  alone : segments_are wide s end [] 1 a ≡ all (final_is wide s a end)
  unfolding segments_are versions_fit segments_at segments_end list_gaps
  alone =
      regroup (eqb (segment_end s a) end) (leb (num_at 2 s a) (segment_version wide)) (eqb (first_at s a) (length s))
      (last_fits wide (length s) (last_at s a))

  not_alone : (n : ℕ) → (n ≡ 1 → ⊥) → segments_are wide s end [] n a ≡ false
  unfolding segments_are segments_at list_gaps
  not_alone zero h = and-false (all (segments_fit wide s 0 a end))
  not_alone (suc zero) h = absurd (h refl)
  not_alone (suc (suc n)) h = and-false (all (segments_fit wide s (suc (suc n)) a end))

  -- segments that are held to nothing: the next one, and the last
  all_but : (n : ℕ) → let xs = segments_at s (suc n) (segment_end s a) in let us = segments_at s (suc (suc n)) a in
      take (length us - 2) us ≡ first_at s a ∷ last_at s a ∷ take (length xs - 2) xs
  unfolding segments_at
  all_but n =
      let ys = segments_at s n (segment_end s (segment_end s a)) in
      let e : suc (suc (suc (suc (length ys)))) - 2 ≡ suc (suc (length ys)) = omega arith in
      let f : suc (suc (length ys)) - 2 ≡ length ys = omega arith in
      rw (e, f)

  stand_next : (n : ℕ) → All (stands wide s a end) → 1 < n → segments_stand wide s end n a ≡ segments_stand wide s end (n - 1) (segment_end s a)
  unfolding segments_stand held_to
  stand_next zero h l = absurd (omega arith)
  stand_next (suc zero) h l = absurd (omega arith)
  stand_next (suc (suc n)) h l =
      let p : suc (suc n) - 1 ≡ suc n = omega arith in
      ap (λ (ys : List ℕ). segments_are wide s end ys (suc (suc n)) a) (all_but n)
      ∙ fit (first_at s a) (last_at s a) (suc (suc n)) _ (h.0, (h.1.0, (refl, (refl, tt)))) (omega arith)
      ∙ rw p

  stand_none : (n : ℕ) → (All (stands wide s a end) → ⊥) → 1 < n → segments_stand wide s end n a ≡ false
  unfolding segments_stand held_to
  stand_none zero h l = absurd (omega arith)
  stand_none (suc zero) h l = absurd (omega arith)
  stand_none (suc (suc n)) h l =
      ap (λ (ys : List ℕ). segments_are wide s end ys (suc (suc n)) a) (all_but n)
      ∙ unfit (first_at s a) (last_at s a) (suc (suc n)) _ (λ k. h (k.0, (k.1.0, tt)))

  stand_last : segments_stand wide s end 1 a ≡ all (final_is wide s a end)
  unfolding segments_stand held_to segments_at
  stand_last = alone

  stand_nothing : segments_stand wide s end 0 a ≡ false
  unfolding segments_stand held_to segments_at
  stand_nothing = not_alone 0 (λ e. omega arith)

pub ruleset finals = (nat_tests, and_true)

pub nothing_left : (wide : Bool) (s : List ℕ) (end count from : ℕ) → count ≡ 0 → false ≡ segments_stand wide s end count from
nothing_left wide s end count from e = sym (ap (λ (j : ℕ). segments_stand wide s end j from) e ∙ stand_nothing wide s from end)

-- while segments are passed over: those that are left decide
pub record Passing (wide : Bool) (s : List ℕ) (end count from at left : ℕ) : Type 0 where
  pub stand : segments_stand wide s end count from ≡ segments_stand wide s end left at

module _ {wide : Bool} {s : List ℕ} {end count from at left : ℕ} (m : Passing wide s end count from at left) where
  pub next_passed : {g : Segment} → Some g ≡ segment_in wide s at end → 1 < left → Passing wide s end count from g.next (left - 1)
  next_passed e l =
      let r = from_held wide s at end e in
      rw r.next (record { stand = m.stand ∙ stand_next wide s at end left r.fits l })

  pub next_bad : None ≡ segment_in wide s at end → 1 < left → false ≡ segments_stand wide s end count from
  next_bad e l = sym (m.stand ∙ stand_none wide s at end left (from_bad wide s at end e) l)

  pub last_left : {r : Bool} → left ≡ 1 → r ≡ all (final_is wide s at end) → r ≡ segments_stand wide s end count from
  last_left e h = h ∙ sym (m.stand ∙ ap (λ (j : ℕ). segments_stand wide s end j at) e ∙ stand_last wide s at end)

-- while segments are compared with the gaps: those that are left decide
pub record Matching (wide : Bool) (s qs : List ℕ) (end count from at left i : ℕ) : Type 0 where
  pub within : i ≤ length qs
  pub is : segments_are wide s end (gaps s qs) count from ≡ segments_are wide s end (gaps s (drop i qs)) left at

pub began : (wide : Bool) (s qs : List ℕ) (end count from : ℕ) → Matching wide s qs end count from from count 0
began wide s qs end count from = record { within = omega arith; is = refl }

module _ {wide : Bool} {s qs : List ℕ} {end count from at left i : ℕ} (m : Matching wide s qs end count from at left i) where
  -- the next piece; n is its size if it is a gap, else 0
  abbrev q : ℕ
  q = get_or qs i 0

  abbrev Whole : Bool → Type 0
  Whole r = r ≡ segments_are wide s end (gaps s qs) count from

  module _ (l : i < length qs) (n : ℕ) (size : n ≡ gap_of (piece_at s q)) where
    skip : n ≡ 0 → gaps s (drop i qs) ≡ gaps s (drop (i + 1) qs)
    unfolding gaps
    skip z = rw (drop-cons qs i 0 l, gap_none s q size z, add-one i)

    pub passed_over : n ≡ 0 → Matching wide s qs end count from at left (i + 1)
    passed_over z = record {
      within = omega arith;
      is = m.is ∙ ap (λ (ys : List ℕ). segments_are wide s end ys left at) (skip z);
    }

    module _ (z : n ≡ 0 → ⊥) where
      opened : segments_are wide s end (gaps s qs) count from
          ≡ segments_are wide s end (q ∷ gap_last q n ∷ gaps s (drop (i + 1) qs)) left at
      unfolding gaps
      opened =
          let g = gap_some s q size z in
          m.is ∙ rw (drop-cons qs i 0 l, g.0, g.1, add-one i)

      pub none_left : left ≡ 0 → Whole false
      none_left e = sym (opened ∙ rw e (none wide s at end q _))

      pub matched : {r : ℕ} → Some r ≡ after_segment wide s at end q (gap_last q n) → 0 < left
          → Matching wide s qs end count from r (left - 1) (i + 1)
      matched told k =
          let f = from_after wide s at end q (gap_last q n) told in
          rw f.0 (record { within = omega arith; is = opened ∙ fit wide s at end q (gap_last q n) left _ f.1 k })

      pub unmatched : None ≡ after_segment wide s at end q (gap_last q n) → Whole false
      unmatched told = sym (opened ∙ unfit wide s at end q (gap_last q n) left _ (from_none wide s at end q (gap_last q n) told))

  module _ (l : length qs ≤ i) where
    over : segments_are wide s end (gaps s qs) count from ≡ segments_are wide s end [] left at
    unfolding gaps
    over = m.is ∙ ap (λ (ys : List ℕ). segments_are wide s end (gaps s ys) left at) (drop_of_length-le qs {i = i} l)

    pub left_over : (left ≡ 1 → ⊥) → Whole false
    left_over h = sym (over ∙ not_alone wide s at end left h)

    pub ended : {r : Bool} → left ≡ 1 → r ≡ all (final_is wide s at end) → Whole r
    ended e h = h ∙ sym (over ∙ ap (λ (j : ℕ). segments_are wide s end [] j at) e ∙ alone wide s at end)

pub ruleset matches = (gap_ends, began, passed_over, none_left, matched, unmatched, left_over)
