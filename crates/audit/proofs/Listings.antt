-- One copy of a keys list, and copies one after the other.
use Prim.Native.Nat.{ℕ, suc, ◌+◌, ◌-◌, ◌%◌, ◌<◌, ◌≤◌}
use mathlib.Core.Bool.{Bool, true, false, not}
use mathlib.Core.List.{List}
use mathlib.Core.Logic.{⊎_elim}
use mathlib.Core.Path.{◌≡◌, refl, sym, ap, ◌∙◌}
use native.Mathlib.Omega.{arith}
use borrow.Author.Tests.{eq-eqb, ne_eqb}
use lib.ListN.{length, get_or, set}
use lib.Seq.{get_or-set_same, set-set}
use Rattle.std.specs.Prelude.{Result, Ok, Err}
use Rattle.wire.specs.Fault.{fault, fault_answer, needed_of}
use Rattle.wire.specs.declared.Answer.{Answer}
use Rattle.wire.specs.declared.fault.Fault.{Fault}
use Rattle.wire.specs.declared.fault.Reason.TheVariants as reason
use Rattle.wire.proofs.Checks.{below_or, false_true}
use Rattle.record.proofs.Tests.{passed}
use Rattle.rules.specs.Turn.{Turn, going, stop, stop_at, and_then, copies}
use Rattle.copies.specs.Copy.{given, entry_step, Tests}
use Rattle.copies.specs.declared.Span.{Span}
use Rattle.copies.specs.declared.Claim.{Claim}
use Rattle.waiting.specs.Waiting.{parts_in, Keeps}
use Rattle.waiting.specs.declared.Waiting.{Waiting}
use Rattle.waiting.proofs.Trees.{part_at, parts_size}
use Rattle.audit.specs.Listing.{Sized, Tables, Ran, Told, Went, Assigns, Marks, copies_step}
use Rattle.audit.specs.Rows.{Same}
use Rattle.audit.specs.declared.keys.Listed.{Listed}
use Rattle.audit.specs.declared.keys.Rows.{Rows}

-- an answer that is a turn's
pub went : (qs p vs : List ℕ) (l : Listed) {x : Turn} → x ≡ going (parts_in p) vs l.next → Keeps qs p l.waiting → Went qs x (Ok l) p vs
unfolding Ran Told
went qs p vs l e k = (rw e (refl, (refl, refl)), k)

-- a refusal that counts nothing
pub ran_fault : (us vs : List ℕ) (f : Fault) {x : Turn} → needed_of f.reason ≡ 0 → x ≡ stop_at (fault_answer f) → Ran x (Err f) us vs
unfolding Ran
ran_fault us vs f z e = rw e (λ i. record { number = (fault_answer f).number; place = f.place; count = z i })

pub faulted : (qs p vs : List ℕ) (f : Fault) {x : Turn} → needed_of f.reason ≡ 0 → x ≡ stop_at (fault_answer f) → Went qs x (Err f) p vs
unfolding Told
faulted qs p vs f z e = (ran_fault (parts_in p) vs f z e, tt)

pub next_is : (x : Turn) (us vs : List ℕ) (l : Listed) → Ran x (Ok l) us vs → x ≡ going us vs l.next
unfolding Ran
next_is (going ps os c) us vs l h = sym (λ i. going (h.1.0 i) (h.1.1 i) (h.0 i))
next_is (stop n p) us vs l h = absurd h

pub fault_is : (x : Turn) (us vs : List ℕ) (f : Fault) → Ran x (Err f) us vs → (x ≡ stop_at (fault_answer f)) × (needed_of f.reason ≡ 0)
unfolding Ran
fault_is (going ps os c) us vs f h = absurd h
fault_is (stop n p) us vs f h = (sym (ap stop_at h), ap (λ (a : Answer). a.count) h)

pub told_is : (qs p : List ℕ) (l : Listed) → Told qs p (Ok l) → Keeps qs p l.waiting
unfolding Told
told_is qs p l h = h

-- a turn that stopped, and goes on stopped
pub stays_stopped : (qs p vs : List ℕ) (f : Fault) {x y : Turn} → Ran x (Err f) (parts_in p) vs
    → (x ≡ stop_at (fault_answer f) → y ≡ stop_at (fault_answer f)) → Went qs y (Err f) p vs
stays_stopped qs p vs f {x} h g = let k = fault_is x (parts_in p) vs f h in faulted qs p vs f k.1 (g k.0)

-- tables of the same lengths
pub sized_kept : {qs p os us vs : List ℕ} → Sized qs p os → length us ≡ length p → length vs ≡ length os → Sized qs us vs
sized_kept t e f = record { rising = t.rising; parts = e ∙ t.parts; owners = f ∙ t.owners }

-- the same tables, from one step to the next
pub same_self : {a : Rows} → Same a a
same_self = record { file = refl; head = refl; start = refl; part = refl; owner = refl; parts = refl; owners = refl }

pub same_then : {a b c : Rows} → Same a b → Same b c → Same a c
same_then x y = record {
  file = y.file ∙ x.file;
  head = y.head ∙ x.head;
  start = y.start ∙ x.start;
  part = y.part ∙ x.part;
  owner = y.owner ∙ x.owner;
  parts = y.parts ∙ x.parts;
  owners = y.owners ∙ x.owners;
}

-- a record that has a part, and one that has none
module _ (p os : List ℕ) (g : Claim) where
  pub part_there : (us vs : List ℕ) → (get_or p g.row 0 % 16 ≡ 7 → ⊥) → Assigns p os us vs g false
  part_there us vs z = record {
    told = sym (ne_eqb (get_or (parts_in p) g.row 0) 7 (λ e. z (sym (part_at p g.row) ∙ e)));
    parts = false_true;
    owners = false_true;
    kept = λ h. false_true h;
  }

  pub part_given : g.row < length p → get_or p g.row 0 % 16 ≡ 7 → {us : List ℕ} → parts_in us ≡ set (parts_in p) g.row (g.part % 8)
      → ((qs : List ℕ) (w : Waiting) → Keeps qs p w → g.row < length p → get_or p g.row 0 % 16 < 8 → Keeps qs us w)
      → Assigns p os us (set os g.row g.dir) g true
  part_given l z e k = record {
    told = sym (eq-eqb (get_or (parts_in p) g.row 0) 7 (part_at p g.row ∙ z));
    parts = λ h. e;
    owners = λ h. refl;
    kept = λ h {qs} {w} i. k qs w i l (omega arith);
  }

-- a claim that comes too late, or is met
module _ {g : Claim} {p os us vs : List ℕ} {b : Bool} (a : Assigns p os us vs g b) where
  pub claim_late : not b ≡ true → given g (parts_in p) os ≡ stop 14 g.place
  claim_late h = rw (sym a.told ∙ not_true b h)
    where
      not_true : (b : Bool) → not b ≡ true → b ≡ false
      not_true true h = false_true h
      not_true false h = refl

  module _ (h : not b ≡ false) where
    met : b ≡ true
    met = passed b b refl h

    pub claim_kept : {qs : List ℕ} {w : Waiting} → Keeps qs p w → Keeps qs us w
    claim_kept = a.kept met

    gives : (ws : List ℕ) → parts_in ws ≡ set (parts_in p) g.row g.part → given g (parts_in p) os ≡ going (parts_in ws) vs g.next
    gives ws f = rw (sym a.told ∙ met, f, a.owners met)

    pub claim_made : g.part < 8 → given g (parts_in p) os ≡ going (parts_in us) vs g.next
    claim_made m = let d : g.part % 8 ≡ g.part = omega arith in gives us (a.parts met ∙ ap (set (parts_in p) g.row) d)

    -- and the mark
    module _ (l : g.row < length p) (m : g.part ≤ 14) {qs ws : List ℕ} {w v : Waiting} (k : Marks qs us ws g w v) where
      given_part : get_or (parts_in us) g.row 0 ≡ g.part % 8
      given_part = ap (λ (ks : List ℕ). get_or ks g.row 0) (a.parts met)
          ∙ get_or-set_same (parts_in p) g.row (g.part % 8) 0 (omega (arith, parts_size p))

      pub claim_marked : given g (parts_in p) os ≡ going (parts_in ws) vs g.next
      claim_marked =
          ⊎_elim
          (λ (o : g.part < 8). rw (k.rests o).0 (claim_made o))
          (λ (o : 8 ≤ g.part).
          let d : get_or (parts_in us) g.row 0 % 8 + 8 ≡ g.part = omega (arith, given_part) in
          gives ws (k.marked o ∙ (λ j. set (a.parts met j) g.row (d j)) ∙ set-set (parts_in p) g.row (g.part % 8) g.part))
          (below_or g.part 8)

      pub mark_kept : Keeps qs p w → length us ≡ length p → Keeps qs ws v
      mark_kept i n =
          ⊎_elim
          (λ (o : g.part < 8). let e = k.rests o in rw (e.0, e.1) (claim_kept i))
          (λ (o : 8 ≤ g.part). k.kept o (claim_kept i) (omega (arith, n)) (omega (arith, given_part, part_at us g.row)))
          (below_or g.part 8)

-- while copies are listed: what is left decides
pub record Copying (s qs : List ℕ) (l : Span) (count from : ℕ) (ps os : List ℕ) (left at : ℕ) (p vs : List ℕ) (w : Waiting) : Type 0 where
  pub run : copies_step s qs l count from ps os ≡ copies_step s qs l left at (parts_in p) vs
  pub tables : Tables qs p vs w

pub began : (s : List ℕ) {qs : List ℕ} (l : Span) (count from : ℕ) {p os : List ℕ} {w : Waiting} → Tables qs p os w
    → Copying s qs l count from (parts_in p) os count from p os w
began s l count from t = record { run = refl; tables = t }

module _ {s qs : List ℕ} {l : Span} {count from : ℕ} {ps os : List ℕ} {left at : ℕ} {p vs : List ℕ} {w : Waiting}
    (c : Copying s qs l count from ps os left at p vs w) where
  pub all_copied : left ≡ 0 → Went qs (copies_step s qs l count from ps os) (Ok (record { next = at; waiting = w })) p vs
  unfolding copies
  all_copied e = went qs p vs (record { next = at; waiting = w }) (c.run ∙ ap (λ (n : ℕ). copies_step s qs l n at (parts_in p) vs) e) c.tables.waiting

  module _ (o : 0 < left) {x : Result Claim Fault} (t : Tests s qs l at x) where
    -- the rest, from what the test gave
    by_test : {y : Turn} → entry_step x (parts_in p) vs ≡ y
        → copies_step s qs l count from ps os ≡ and_then (copies s qs l.dir l.seek l.end (left - 1)) y
    unfolding copies
    by_test e =
        let f : left ≡ suc (left - 1) = omega arith in
        c.run ∙ ap (λ (n : ℕ). copies_step s qs l n at (parts_in p) vs) f
        ∙ ap (and_then (copies s qs l.dir l.seek l.end (left - 1))) (t.step c.tables.sized.rising (parts_in p) vs ∙ e)

    as_test : {y : Result Claim Fault} → x ≡ y → entry_step x (parts_in p) vs ≡ entry_step y (parts_in p) vs
    as_test e = ap (λ (z : Result Claim Fault). entry_step z (parts_in p) vs) e

    pub test_stopped : (us ws : List ℕ) {f : Fault} → x ≡ Err f → Went qs (copies_step s qs l count from ps os) (Err f) us ws
    test_stopped us ws {f} e = faulted qs us ws f (t.bare f e) (by_test (as_test e))

    module _ {g : Claim} (e : x ≡ Ok g) where
      pub claim_ready : (g.row < length p) × (length vs ≡ length p)
      claim_ready = let z = c.tables.sized in (omega (arith, t.row g e, z.parts), z.owners ∙ sym z.parts)

      module _ {us ws : List ℕ} {b : Bool} (a : Assigns p vs us ws g b) where
        pub claim_stopped : (xs ys : List ℕ) → not b ≡ true → Went qs (copies_step s qs l count from ps os) (Err (fault reason.Twice g.place)) xs ys
        claim_stopped xs ys h = faulted qs xs ys (fault reason.Twice g.place) refl (by_test (as_test e ∙ claim_late a h))

        pub copied : not b ≡ false → {xs : List ℕ} {v : Waiting} → Marks qs us xs g w v → length us ≡ length p → length xs ≡ length us
            → length ws ≡ length vs → Copying s qs l count from ps os (left - 1) g.next xs ws v
        copied h k m n o =
            let r = claim_ready.0 in
            record {
              run = by_test (as_test e ∙ claim_marked a h r (t.part g e) k);
              tables = record {
                sized = sized_kept c.tables.sized (n ∙ m) o;
                waiting = mark_kept a h r (t.part g e) k c.tables.waiting m;
              };
            }
