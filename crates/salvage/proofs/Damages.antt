-- What is wrong with a file: one thing at most, and what is answered of it.
use Prim.Native.Nat.{ℕ, ◌+◌, ◌-◌, ◌≤◌, ◌<◌}
use mathlib.Core.Bool.{Bool, true, false}
use mathlib.Core.List.{List, [], ◌∷◌, ◌++◌}
use mathlib.Core.Logic.{◌⊎◌, inl, inr, ⊎_elim}
use mathlib.Core.Path.{◌≡◌, refl, sym, ap, ◌∙◌, subst}
use native.Mathlib.Omega.{arith}
use borrow.Author.Tests.{lt-ltb, le-ltb, ltb-false}
use borrow.Rule.Slice.PartMut.{mid_of, put_mid}
use lib.Dec.{ltb}
use lib.ListN.{length}
use Rattle.wire.specs.Answer.{refusal}
use Rattle.wire.specs.Check.{pick}
use Rattle.wire.specs.Patch.{patch}
use Rattle.wire.specs.Fault.{fault, number_of as reason_number}
use Rattle.wire.specs.declared.fault.Fault.{Fault as Refusal}
use Rattle.wire.specs.declared.fault.Reason.TheVariants as reason
use Rattle.wire.proofs.Agrees as agree
use Rattle.wire.proofs.Checks.{false_true, below_or}
use Rattle.key.specs.Piece.{piece_at, size_of}
use Rattle.buffer.specs.Store.{put_front}
use Rattle.fileheader.specs.File.{opened_as}
use Rattle.fileheader.specs.declared.FileHead.{FileHead}
use Rattle.fileheader.proofs.Agrees.{opened_same}
use Rattle.rules.specs.Free.{Mode}
use Rattle.rules.specs.Order.{refused, verdict, number_of}
use Rattle.rules.specs.Partition.{Partition}
use Rattle.rules.proofs.Chains.{chain_whole, chain_fault, opened_number, opened_long}
use Rattle.rules.proofs.Demands.{View, header, faulty, longer, stops, goes, view}
use Rattle.rules.proofs.Numbers.{Late, late}
use Rattle.rules.proofs.Partitions.{snoc, forward, no_partition, partition_kept, partition_append}
use Rattle.chain.specs.Walk.{Walks}
use Rattle.std.specs.Prelude.{Result, Ok, Err}
use Rattle.salvage.specs.declared.Mend.{Mend}
use Rattle.salvage.specs.Mark.{Bounds, Sought, Finds, Unmarked, Dead, mend_at, found_as}
use Rattle.salvage.specs.Salvage.{Reaches, Opens, Fault, Lowest, Damage, nothing, tail, hole, Damaged, most_gap, salvaged, mended, salvage_answer}
use Rattle.salvage.specs.Salvage.{gap_bytes, salvage_buffer, Mends}
use Rattle.salvage.specs.Salvage as damage
use Rattle.salvage.proofs.Reaches.{lowest_from}
use Rattle.salvage.proofs.Gaps.{gap_put, written_length, before_same, after_same, gap_written}

-- a header is good or it is not
two_headers : {A : Type 0} (s : List ℕ) {f : Refusal} → Opens s → opened_as s ≡ Err f → A
two_headers {A} s h e = let f = sym h.1 ∙ e in let z : ◌≡◌ {A = ℕ} 0 1 = cc in absurd (omega arith)

same_refusal : (s : List ℕ) {c d : Refusal} → opened_as s ≡ Err c → opened_as s ≡ Err d → c ≡ d
same_refusal s {c} {d} e f = let g = sym e ∙ f in cc

-- there is no piece at a fault
no_size : {s : List ℕ} {p : ℕ} (f : Fault s p) → size_of (piece_at s p) ≡ 0
no_size f = ap size_of f.refused

-- a chain that is good has no fault
good_chain : {A : Type 0} {s : List ℕ} {p : ℕ} → Reaches s 100 → Fault s p → A
good_chain {s = s} {p = p} r f = absurd (no_partition s 100 f.pieces r.0 p f.chain (no_size f) f.within r.1)

-- a fault is where the chain of every audit gives 5 or 6
pub fault_told : (mode : Mode) (s : List ℕ) (room : ℕ) {p : ℕ} → Opens s → (f : Fault s p) → verdict mode s room ≡ refused (reason_number f.reason) p 0
unfolding verdict
fault_told mode s room {p} o f =
    rw (o.1, chain_fault s 100 f.pieces p (length s) (fault f.reason p) f.chain f.within f.refused (omega arith))

-- at most one fault
one_stop : (s : List ℕ) (a : ℕ) (qs rs : List ℕ) (p q : ℕ) → Partition s a p qs → Partition s a q rs → size_of (piece_at s p) ≡ 0
    → size_of (piece_at s q) ≡ 0 → p ≡ q
one_stop s a [] [] p q h k y z = sym h ∙ k
one_stop s a [] (r ∷ rs) p q h k y z = let x = k.1.0 in let w = rw h at x in absurd (omega arith)
one_stop s a (o ∷ qs) [] p q h k y z = let x = h.1.0 in let w = rw k at x in absurd (omega arith)
one_stop s a (o ∷ qs) (r ∷ rs) p q h k y z = one_stop s (a + size_of (piece_at s a)) qs rs p q h.1.1 k.1.1 y z

one_fault : {s : List ℕ} {p q : ℕ} → Fault s p → Fault s q → p ≡ q
one_fault {s} {p} {q} f g = one_stop s 100 f.pieces g.pieces p q f.chain g.chain (no_size f) (no_size g)

-- a place that is reached lies in the file
within : (s : List ℕ) {q : ℕ} → Reaches s q → q ≤ length s
within s {q} r = forward s q r.0 (length s) r.1

one_lowest : {s : List ℕ} {p q r : ℕ} → Lowest s p q → Lowest s p r → q ≡ r
one_lowest {s} {p} {q} {r} f g =
    ⊎_elim (λ (l : q < r). absurd (g.none q f.least l f.fills))
    (λ (l : r ≤ q).
    ⊎_elim (λ (m : r < q). absurd (f.none r g.least m g.fills)) (λ (m : q ≤ r). omega arith) (below_or r q))
    (below_or q r)

no_tail : {A : Type 0} {s : List ℕ} {p q r : ℕ} → Fault s p → length s < p + 4 → Fault s q → Lowest s (q + 4) r → A
no_tail {s = s} f l g h = let e = one_fault f g in let k = within s h.fills in absurd (omega (arith, h.least))

pub one_damage : (s : List ℕ) (d e : Damage) → Damaged s d → Damaged s e → d ≡ e
one_damage s (damage.header c) (damage.header d) h k = ap damage.header (same_refusal s h k)
one_damage s (damage.header c) nothing h k = two_headers s k.0 h
one_damage s (damage.header c) (tail q) h k = two_headers s k.0 h
one_damage s (damage.header c) (hole q r) h k = two_headers s k.0 h
one_damage s nothing (damage.header d) h k = two_headers s h.0 k
one_damage s nothing nothing h k = refl
one_damage s nothing (tail q) h k = good_chain h.1 k.1.0
one_damage s nothing (hole q r) h k = good_chain h.1 k.1.0
one_damage s (tail p) (damage.header d) h k = two_headers s h.0 k
one_damage s (tail p) nothing h k = good_chain k.1 h.1.0
one_damage s (tail p) (tail q) h k = ap tail (one_fault h.1.0 k.1.0)
one_damage s (tail p) (hole q r) h k = no_tail h.1.0 h.1.1 k.1.0 k.1.1
one_damage s (hole p q) (damage.header d) h k = two_headers s h.0 k
one_damage s (hole p q) nothing h k = good_chain k.1 h.1.0
one_damage s (hole p q) (tail r) h k = no_tail k.1.0 k.1.1 h.1.0 h.1.1
one_damage s (hole p q) (hole r o) h k =
    let e = one_fault h.1.0 k.1.0 in
    let f = one_lowest h.1.1 (subst (λ (x : ℕ). Lowest s (x + 4) o) (sym e) k.1.1) in
    λ i. hole (e i) (f i)

-- no table of marks that is empty says anything
pub none_dead : (s : List ℕ) (base : ℕ) (m : List ℕ) → Unmarked m → Dead s base m
unfolding Unmarked Dead
none_dead s base m u i h = false_true (sym (u i) ∙ h)

-- what is found
pub found_header : {s : List ℕ} {f : Refusal} → Err f ≡ opened_as s → Finds s (Err f)
found_header {s} {f} e = record { damage = damage.header f; is = sym e; found = refl }

module _ (s : List ℕ) {h : FileHead} (o : Ok h ≡ opened_as s) where
  opens : Opens s
  opens = (h, sym o)

  pub found_nothing : {t u : List ℕ} {n : ℕ} → Walks s t u (Ok n) → Finds s (Ok (mend_at (length s) (length s)))
  found_nothing w =
      let x = w.long (opened_long s (sym o)) in
      record { damage = nothing; is = (opens, (x.0, x.1)); found = refl }

  module _ {t u : List ℕ} {f : Refusal} (k : Walks s t u (Err f)) where
    first : Fault s f.place
    first =
        let x = k.long (opened_long s (sym o)) in
        record { pieces = x.0; chain = x.1; within = x.2; reason = f.reason; refused = x.3 }

    pub found_within : f.place < length s
    found_within = first.within

    pub found_tail : {e : Refusal} → length s < f.place + 4 → e ≡ fault reason.Salvage f.place → Finds s (Err e)
    found_tail l e = record { damage = tail f.place; is = (opens, (first, l)); found = ap (λ (x : Refusal). Err x) e }

    module _ {stop q : ℕ} (b : Bounds f.place (length s) stop) (w : Sought s (f.place + 4) stop q) where
      -- too long a gap: the lowest place is q, or lies behind it and was not looked for
      pub found_wide : {e : Refusal} → most_gap < q - f.place → e ≡ fault reason.Salvage f.place → Finds s (Err e)
      found_wide l e =
          let x = lowest_from s (f.place + 4) (length s - q) q (omega (arith, w.within, b.within)) w.least w.none in
          let m : most_gap < x.0 - f.place = omega (arith, x.1) in
          record {
            damage = hole f.place x.0;
            is = (opens, (first, x.2));
            found = rw (lt-ltb most_gap (x.0 - f.place) m) (ap (λ (x : Refusal). Err x) e);
          }

      -- a place within reach: it fills, also where all were tried and it is END
      filling : q - f.place ≤ most_gap → Reaches s q
      filling l =
          ⊎_elim (λ (m : q < stop). w.fills m)
          (λ (m : stop ≤ q).
          ⊎_elim (λ (e : stop ≡ length s). ([], omega (arith, w.within)))
          (λ (k : most_gap < stop - f.place). absurd (omega (arith, w.within)))
          b.enough)
          (below_or q stop)

      pub found_hole : q - f.place ≤ most_gap → Finds s (Ok (mend_at f.place q))
      found_hole l = record {
        damage = hole f.place q;
        is = (opens, (first, record { least = w.least; fills = filling l; none = w.none }));
        found = rw (le-ltb most_gap (q - f.place) l) refl;
      }

-- its number, place and count
answered : (s : List ℕ) (d : Damage) → mended (found_as s d) ≡ salvage_answer s d
answered s (damage.header f) = refl
answered s nothing = refl
answered s (tail p) = refl
answered s (hole p q) = go (ltb most_gap (q - p))
  where
    go : (b : Bool)
        → mended (pick b (Err (fault reason.Salvage p)) (Ok (mend_at p q))) ≡ pick b (refusal 27 p) (salvaged p q)
    go true = refl
    go false = refl

-- a file whose header is good and whose pieces fill 100 to END: no audit gives 1 to 6
module _ (s : List ℕ) (o : Opens s) (r : Reaches s 100) (mode : Mode) (room : ℕ) where
  abbrev NoFault : Type 0
  NoFault = (number_of (verdict mode s room) ≡ 0) ⊎ (7 ≤ number_of (verdict mode s room))

  audited_by : View mode s room → NoFault
  audited_by (header c e f) = two_headers s o e
  audited_by (faulty h c p e f g) =
      let k = chain_whole s 100 r.0 (length s) r.1 (omega arith) in
      let i = sym k ∙ f in
      let z : ◌≡◌ {A = ℕ} 0 1 = cc in
      absurd (omega arith)
  audited_by (longer h qs c l e) = let n = ap number_of e in inr (omega arith)
  audited_by (stops h qs c p e f) =
      let n = ap number_of f in
      let l : 8 ≤ c = subst Late e (late s h qs mode) in
      inr (omega arith)
  audited_by (goes h qs ps os c k l e f) = inl (ap number_of f)

  audits_late : NoFault
  audits_late = audited_by (view mode s room)

-- success: nothing was wrong, or a hole that can be filled
pub record Hole (s : List ℕ) (p q : ℕ) : Type 0 where
  pub opened : Opens s
  pub fault : Fault s p
  pub low : Lowest s (p + 4) q
  pub small : q - p ≤ most_gap

abbrev filled_with : List ℕ → ℕ → ℕ → List ℕ
filled_with s p q = patch s p (gap_bytes (q - p))

abbrev Success : List ℕ → ℕ → ℕ → Damage → Type 0
Success s p q d =
    ((p ≡ q) × ((s ≡ salvage_buffer s d) × (Opens s × Reaches s 100))) ⊎ (Hole s p q × (filled_with s p q ≡ salvage_buffer s d))

-- a refusal has a number, and leaves the buffer
left_alone : (s : List ℕ) (d : Damage) {f : Refusal} → Damaged s d → Err f ≡ found_as s d → (reason_number f.reason ≡ 0 → ⊥) × (s ≡ salvage_buffer s d)
left_alone s (damage.header g) {f} h e =
    let i : f ≡ g = cc in (λ z. omega (arith, opened_number s h, ap (λ (x : Refusal). reason_number x.reason) i), refl)
left_alone s nothing h e = let z : ◌≡◌ {A = ℕ} 0 1 = cc in absurd (omega arith)
left_alone s (tail p) {f} h e =
    let i : f ≡ fault reason.Salvage p = cc in (λ z. omega (arith, ap (λ (x : Refusal). reason_number x.reason) i), refl)
left_alone s (hole p q) {f} h e = go (ltb most_gap (q - p)) e
  where
    go : (b : Bool) → Err f ≡ pick b (Err (fault reason.Salvage p)) (Ok (mend_at p q))
        → (reason_number f.reason ≡ 0 → ⊥) × (s ≡ pick b s (patch s p (gap_bytes (q - p))))
    go true e =
        let i : f ≡ fault reason.Salvage p = cc in (λ z. omega (arith, ap (λ (x : Refusal). reason_number x.reason) i), refl)
    go false e = let z : ◌≡◌ {A = ℕ} 0 1 = cc in absurd (omega arith)

success : (s : List ℕ) (d : Damage) {m : Mend} → Damaged s d → Ok m ≡ found_as s d → Success s m.from m.to d
success s (damage.header f) h e = let z : ◌≡◌ {A = ℕ} 0 1 = cc in absurd (omega arith)
success s nothing {m} h e =
    let i : m ≡ mend_at (length s) (length s) = cc in
    inl (ap (λ (x : Mend). x.from) i ∙ sym (ap (λ (x : Mend). x.to) i), (refl, (h.0, h.1)))
success s (tail p) h e = let z : ◌≡◌ {A = ℕ} 0 1 = cc in absurd (omega arith)
success s (hole p q) {m} h e = go (ltb most_gap (q - p)) refl e
  where
    go : (b : Bool) → ltb most_gap (q - p) ≡ b → Ok m ≡ pick b (Err (fault reason.Salvage p)) (Ok (mend_at p q))
        → Success s m.from m.to (hole p q)
    go true i e = let z : ◌≡◌ {A = ℕ} 0 1 = cc in absurd (omega arith)
    go false i e =
        let j : m ≡ mend_at p q = cc in
        let x : m.from ≡ p = ap (λ (x : Mend). x.from) j in
        let y : m.to ≡ q = ap (λ (x : Mend). x.to) j in
        inr (
          record {
            opened = h.0;
            fault = rw x h.1.0;
            low = rw (x, y) h.1.1;
            small = rw (x, y) (ltb-false most_gap (q - p) i);
          },
          rw (x, y, i),
        )

module _ {s : List ℕ} {p q : ℕ} (k : Hole s p q) where
  pub hole_fits : p + 4 ≤ length s
  hole_fits = omega (arith, k.low.least, within s k.low.fills)

  pub hole_wide : 4 ≤ q - p
  hole_wide = omega (arith, k.low.least)

  -- the header is as it was
  opens_still : Opens (filled_with s p q)
  opens_still =
      let e = written_length s p hole_fits (q - p) in
      let g = before_same s p hole_fits (q - p) 0 in
      let l = forward s 100 k.fault.pieces p k.fault.chain in
      (k.opened.0, sym (opened_same s (filled_with s p q) e (agree.within 0 100 g (omega arith) l) (sym k.opened.1)))

  -- the pieces before it, the gap, and the pieces after it
  fills : Reaches (filled_with s p q) 100
  fills =
      let t = filled_with s p q in
      let r = k.low.fills in
      let e = written_length s p hole_fits (q - p) in
      let g = gap_written s p hole_fits (q - p) hole_wide k.small (omega (arith, k.low.least, within s r)) in
      let z : size_of (piece_at t p) ≡ q - p = ap size_of g in
      let to : p + size_of (piece_at t p) ≡ q = omega (arith, k.low.least) in
      let x = partition_kept 100 p k.fault.pieces k.fault.chain (before_same s p hole_fits (q - p) 100) in
      let b = snoc t 100 k.fault.pieces p x (omega (arith, hole_wide)) in
      let c = partition_kept q (length s) r.0 r.1
      (agree.within q (length s) (after_same s p hole_fits (q - p)) k.low.least (omega arith)) in
      let d = partition_append t 100 q (length s) (k.fault.pieces ++ p ∷ []) r.0 (subst (λ (x : ℕ). Partition t 100 x (k.fault.pieces ++ p ∷ [])) to b) c in
      ((k.fault.pieces ++ p ∷ []) ++ r.0, subst (λ (x : ℕ). Partition t 100 x ((k.fault.pieces ++ p ∷ []) ++ r.0)) e d)

module _ {s : List ℕ} where
  mends : {r : Result Mend Refusal} → (f : Finds s r) → (t : List ℕ) → t ≡ salvage_buffer s f.damage
      → ((mended r).number ≡ 0 → Opens t) → ((mended r).number ≡ 0 → Reaches t 100) → Mends s t (mended r)
  mends f t e o r = record {
    damage = f.damage;
    is = f.is;
    only = λ d h. one_damage s d f.damage h f.is;
    answer = ap mended f.found ∙ answered s f.damage;
    buffer = e;
    opened = o;
    filled = r;
    audited = λ z mode room. audits_late t (o z) (r z) mode room;
  }

  pub mend_refused : {r : Result Mend Refusal} {e : Refusal} → r ≡ Err e → Finds s r → Mends s s (mended r)
  mend_refused i f =
      let k = left_alone s f.damage f.is (sym i ∙ f.found) in
      let n = λ (z : (mended _).number ≡ 0). k.0 (sym (ap (λ (x : Result Mend Refusal). (mended x).number) i) ∙ z) in
      mends f s k.1 (λ z. absurd (n z)) (λ z. absurd (n z))

  module _ {r : Result Mend Refusal} {m : Mend} (i : r ≡ Ok m) (f : Finds s r) where
    succeeds : Success s m.from m.to f.damage
    succeeds = success s f.damage f.is (sym i ∙ f.found)

    pub mend_nothing : m.to ≤ m.from → Mends s s (mended r)
    mend_nothing e =
        ⊎_elim (λ x. mends f s x.1.0 (λ i. x.1.1.0) (λ i. x.1.1.1)) (λ x. absurd (omega (arith, hole_wide x.0))) succeeds

    module _ (n : m.from < m.to) where
      the_hole : Hole s m.from m.to × (filled_with s m.from m.to ≡ salvage_buffer s f.damage)
      the_hole = ⊎_elim (λ x. absurd (omega (arith, x.0))) (λ x. x) succeeds

      pub mend_sized : (4 ≤ m.to - m.from) × (m.to - m.from ≤ most_gap) × (m.from + 4 ≤ length s)
      mend_sized = (hole_wide the_hole.0, the_hole.0.small, hole_fits the_hole.0)

      pub mend_hole : {ys : List ℕ} → ys ≡ put_front (mid_of m.from (length s - m.from) s) (gap_bytes (m.to - m.from))
          → Mends s (put_mid m.from (length s - m.from) s ys) (mended r)
      mend_hole {ys} e =
          let k = the_hole in
          let g : put_mid m.from (length s - m.from) s ys ≡ filled_with s m.from m.to = gap_put s m.from (hole_fits k.0) ys (m.to - m.from) e in
          mends f (put_mid m.from (length s - m.from) s ys) (g ∙ k.1) (λ z. subst (λ (x : List ℕ). Opens x) (sym g) (opens_still k.0))
          (λ z. subst (λ (x : List ℕ). Reaches x 100) (sym g) (fills k.0))
