-- The verdict, case by case, and the tables with it.
use Prim.Native.Nat.{zero, suc, ℕ, ◌+◌, ◌<◌, ◌≤◌, min}
use mathlib.Core.List.{List, ◌++◌}
use mathlib.Core.Logic.{◌⊎◌, inl, inr, ⊎_elim}
use mathlib.Core.Path.{◌≡◌, refl, sym, ap, ◌∙◌, subst}
use native.Mathlib.Omega.{arith}
use borrow.Author.Tests.{le-leb, lt-leb}
use lib.ListN.{length, take}
use lib.Dec.{leb}
use lib.Seq.{take_at, length-take-le}
use Rattle.std.specs.Prelude.{Result, Ok, Err}
use Rattle.std.specs.Result.{result_unwrap_or}
use Rattle.wire.specs.Check.{pick}
use Rattle.wire.specs.Fault.{fault_answer, answer_of, needed_of, number_of as reason_number}
use Rattle.wire.specs.declared.fault.Fault.{Fault}
use Rattle.wire.specs.declared.fault.Reason.{Reason}
use Rattle.wire.specs.declared.fault.Reason.TheVariants as reason
use Rattle.wire.specs.Answer.{done, refusal}
use Rattle.wire.specs.Lent.{Lent, MutLent, held, before, after}
use Rattle.wire.specs.declared.Answer.{Answer}
use Rattle.wire.proofs.Checks.{below_or}
use Rattle.wire.proofs.Numbers.{lesser_within, lesser_second}
use Rattle.key.specs.Piece.{piece_at}
use Rattle.key.proofs.Pieces.{refused_number}
use Rattle.fileheader.specs.File.{opened_as}
use Rattle.fileheader.specs.declared.FileHead.{FileHead}
use Rattle.wire.specs.Number.{lesser}
use Rattle.table.specs.Table.{filled, cleared}
use Rattle.rules.specs.Free.{Mode}
use Rattle.rules.specs.Order.{Chain, chain, ruled, Verdict, passed, refused, refused_as, on_turn, on_chain, on_opened, verdict, number_of, starts_of, parts_of, owners_of}
use Rattle.rules.specs.Partition.{Partition}
use Rattle.rules.specs.Turn.{Turn}
use Rattle.rules.proofs.Partitions.{rises}
use Rattle.rules.proofs.Chains.{chain_whole, chain_fault, opened_number, opened_long}
use Rattle.rules.proofs.Demands.{demand}
use Rattle.audit.specs.Listing.{Ran, Sized}
use Rattle.audit.specs.Examined.{Answers, Begins, Filled}
use Rattle.audit.specs.Tables.{room_of, room_in, AuditsIn, room, told_within, AuditsWithin}
use Rattle.chain.specs.Walk.{over, Walks}
use Rattle.audit.specs.declared.keys.Listed.{Listed}
use Rattle.audit.proofs.Listings.{next_is, fault_is}
use Rattle.chain.proofs.Walks.{roomy, length_over}

-- the numbers of refusals: none is 0, and what counts has 7 or more
counts : (r : Reason) → (0 < reason_number r) × ((needed_of r ≡ 0) ⊎ (7 ≤ reason_number r))
counts (reason.Unfinished n) = (omega arith, inr (omega arith))
counts (reason.Rows n) = (omega arith, inr (omega arith))
counts r = (omega arith, inl refl)

number_some : (r : Reason) → reason_number r ≡ 0 → ⊥
number_some r e = omega (arith, (counts r).0)

-- a piece's refusal counts nothing
piece_bare : (s : List ℕ) (p : ℕ) {f : Fault} → piece_at s p ≡ Err f → needed_of f.reason ≡ 0
piece_bare s p {f} e =
    ⊎_elim (λ (z : needed_of f.reason ≡ 0). z)
    (λ (l : 7 ≤ reason_number f.reason).
    absurd
    (⊎_elim (λ (k : reason_number f.reason ≡ 5). omega (arith, l)) (λ (k : reason_number f.reason ≡ 6). omega (arith, l)) (refused_number s p e)))
    (counts f.reason).1

-- what examine promises
abbrev pub Examined : Verdict → Answer → List ℕ → List ℕ → List ℕ → Type 0
Examined v a t u w = Answers v a × Filled v t u w

-- the verdict by cases
module _ (mode : Mode) (s : List ℕ) (room : ℕ) where
  verdict_header : {f : Fault} → opened_as s ≡ Err f → verdict mode s room ≡ refused_as (fault_answer f)
  unfolding verdict
  verdict_header e = ap (on_opened mode s room) e

  module _ {h : FileHead} (good : opened_as s ≡ Ok h) where
    by_chain : {r : Chain} → chain s (length s) 100 ≡ r → verdict mode s room ≡ on_chain mode s room h r
    unfolding verdict
    by_chain e = ap (on_opened mode s room) good ∙ ap (on_chain mode s room h) e

    long : length s < length s + 100
    long = omega arith

    verdict_fault : (f : Fault) (qs : List ℕ) → Partition s 100 f.place qs → f.place < length s → piece_at s f.place ≡ Err f
        → verdict mode s room ≡ refused (reason_number f.reason) f.place 0
    verdict_fault f qs h l e = by_chain (chain_fault s 100 qs f.place (length s) f h l e long)

    module _ (qs : List ℕ) (entire : Partition s 100 (length s) qs) where
      by_room : verdict mode s room ≡ pick (leb (length qs) room) (on_turn qs (ruled mode s h qs)) (refused 7 0 (length qs))
      by_room = by_chain (chain_whole s 100 qs (length s) entire long)

      verdict_seven : room < length qs → verdict mode s room ≡ refused 7 0 (length qs)
      verdict_seven l = by_room ∙ rw (lt-leb (length qs) room l)

      verdict_turn : {t : Turn} → length qs ≤ room → ruled mode s h qs ≡ t → verdict mode s room ≡ on_turn qs t
      verdict_turn l e = by_room ∙ rw (le-leb (length qs) room l, e)

-- what is told of a refusal and of a pass
module _ {v : Verdict} (t u w : List ℕ) where
  told_refusal : {c p n : ℕ} → v ≡ refused c p n → (c ≡ 0 → n ≡ 0) → Examined v (record { number = c; place = p; count = n }) t u w
  told_refusal {c} {p} {n} e f =
      subst (λ (x : Verdict). Examined x (record { number = c; place = p; count = n }) t u w) (sym e) (
        record { number = refl; place = refl; count = refl },
        record { starts = refl; parts = refl; owners = refl; each_part = refl; each_owner = refl; counted = f },
      )

  -- a refusal that counts nothing
  told_fault : (f : Fault) → v ≡ refused (reason_number f.reason) f.place 0 → needed_of f.reason ≡ 0 → Examined v (fault_answer f) t u w
  told_fault f e z =
      let g : refusal (reason_number f.reason) f.place ≡ fault_answer f = λ i. record {
        number = reason_number f.reason;
        place = f.place;
        count = sym z i;
      } in
      subst (λ (x : Answer). Examined v x t u w) g (told_refusal e (λ y. refl))

  told_pass : {qs ps os : List ℕ} {n : ℕ} → v ≡ passed qs ps os → n ≡ length qs → Begins qs t → Begins ps u → Begins os w
      → length ps ≡ length qs → length os ≡ length qs → Examined v (done n) t u w
  told_pass {qs} {ps} {os} {n} e m a b c l k =
      rw e (
        record { number = refl; place = refl; count = m },
        record { starts = a; parts = b; owners = c; each_part = l; each_owner = k; counted = λ z. refl },
      )

pub header_refused : (mode : Mode) (s : List ℕ) (room : ℕ) (f : Fault) (t u w : List ℕ) → Err f ≡ opened_as s
    → Examined (verdict mode s room) (fault_answer f) t u w
header_refused mode s room f t u w e =
    told_refusal t u w (verdict_header mode s room (sym e)) (λ (z : reason_number f.reason ≡ 0). absurd (omega (arith, (opened_number s (sym e)).0)))

pub chain_refused : (mode : Mode) (s : List ℕ) (room : ℕ) {h : FileHead} (f : Fault) (t u v w : List ℕ) → Ok h ≡ opened_as s
    → Walks s t u (Err f) → Examined (verdict mode s room) (fault_answer f) u v w
chain_refused mode s room f t u v w o a =
    let k = a.long (opened_long s (sym o)) in
    told_fault u v w f (verdict_fault mode s room (sym o) f k.0 k.1 k.2 k.3) (piece_bare s f.place k.3)

least : (a b : ℕ) → min a b ≡ lesser a b
least a b =
    ⊎_elim (λ (l : b < a). rw (lt-leb a b l) (omega arith)) (λ (l : a ≤ b). rw (le-leb a b l) (omega arith)) (below_or b a)

-- the room, as it was computed once the starts were written
room_is : (m : ℕ) (t u v w : List ℕ) {a b c : ℕ} → length u ≡ length t → a ≡ min m b → b ≡ min (length u) c
    → c ≡ min (length v) (length w) → a ≡ room_in m t v w
room_is m t u v w {a} {b} {c} l e f g =
    e ∙ least m b ∙ ap (lesser m) (f ∙ least (length u) c ∙ (λ i. lesser (l i) ((g ∙ least (length v) (length w)) i)))

pub record Fits (m n : ℕ) (t v w : List ℕ) : Type 0 where
  pub room : n ≤ room_in m t v w
  pub starts : n ≤ length t
  pub parts : n ≤ length v
  pub owners : n ≤ length w

fits : (m : ℕ) (t v w : List ℕ) {n a : ℕ} → a ≡ room_in m t v w → n ≤ a → Fits m n t v w
fits m t v w {n} {a} e l =
    let d = lesser_within m (room_of t v w) in
    let f = lesser_within (length t) (lesser (length v) (length w)) in
    let g = lesser_within (length v) (length w) in
    record { room = omega (arith, e); starts = omega (arith, e, d, f); parts = omega (arith, e, d, f, g); owners = omega (arith, e, d, f, g) }

-- a whole chain: its starts, and the table with them
pub record Entire (s : List ℕ) (h : FileHead) (t u : List ℕ) (n : ℕ) : Type 0 where
  pub starts : List ℕ
  pub good : opened_as s ≡ Ok h
  pub partition : Partition s 100 (length s) starts
  pub count : n ≡ length starts
  pub table : u ≡ over starts t

pub entire : (s t u : List ℕ) {h : FileHead} {n : ℕ} → Ok h ≡ opened_as s → Walks s t u (Ok n) → Entire s h t u n
entire s t u o a =
    let f = a.long (opened_long s (sym o)) in
    record { starts = f.0; good = sym o; partition = f.1; count = f.2; table = f.3 }

module _ {s : List ℕ} {h : FileHead} {t u : List ℕ} {n : ℕ} (k : Entire s h t u n) where
  entire_kept : length u ≡ length t
  entire_kept = ap length k.table ∙ length_over k.starts t

  -- the room, as it was computed
  module _ (m : ℕ) (v w : List ℕ) {a b c : ℕ} (e : a ≡ min m b) (f : b ≡ min (length u) c) (g : c ≡ min (length v) (length w)) where
    pub entire_fits : n ≤ a → Fits m n t v w
    entire_fits l = fits m t v w (room_is m t u v w entire_kept e f g) l

    pub entire_seven : (mode : Mode) (x y : List ℕ) → a < n
        → Examined (verdict mode s (room_in m t v w)) (record { number = 7; place = 0; count = n }) u x y
    entire_seven mode x y l =
        let i : room_in m t v w < length k.starts = rw (sym (room_is m t u v w entire_kept e f g), sym k.count) l in
        told_refusal u x y (verdict_seven mode s (room_in m t v w) k.good k.starts k.partition i ∙ rw k.count) (λ z. absurd (omega arith))

  module _ {m : ℕ} {v w : List ℕ} (fit : Fits m n t v w) where
    pub entire_room : n ≤ length u
    entire_room = omega (arith, fit.starts, entire_kept)

    entire_starts : take n u ≡ k.starts
    entire_starts = rw (k.table, roomy k.starts t (omega (arith, k.count, fit.starts))) (take_at k.starts _ n (sym k.count))

    pub entire_tables : Sized (take n u) (take n v) (take n w)
    entire_tables = record {
      rising = rw entire_starts (rises s 100 k.starts (length s) k.partition);
      parts = rw (entire_starts, length-take-le n v fit.parts) k.count;
      owners = rw (entire_starts, length-take-le n w fit.owners) k.count;
    }

    turned : (mode : Mode) {r : Turn} → ruled mode s h (take n u) ≡ r → verdict mode s (room_in m t v w) ≡ on_turn k.starts r
    turned mode e = verdict_turn mode s (room_in m t v w) k.good k.starts k.partition (rw (sym k.count) fit.room) ((rw entire_starts at e))

    pub entire_stops : (mode : Mode) (f : Fault) (ps os x y : List ℕ) → Ran (ruled mode s h (take n u)) (Err f) ps os
        → Examined (verdict mode s (room_in m t v w)) (fault_answer f) u x y
    entire_stops mode f ps os x y r =
        let k = fault_is (ruled mode s h (take n u)) ps os f r in told_fault u x y f (turned mode k.0) k.1

    pub entire_passes : (mode : Mode) (l : Listed) (ps os x y : List ℕ) → length ps ≡ length (take n v) → length os ≡ length (take n w)
        → Ran (ruled mode s h (take n u)) (Ok l) ps os → Examined (verdict mode s (room_in m t v w)) (done n) u (ps ++ x) (os ++ y)
    entire_passes mode l ps os x y a b r =
        told_pass u (ps ++ x) (os ++ y)
        (turned mode (next_is (ruled mode s h (take n u)) ps os l r))
        k.count
        (ap (λ (i : ℕ). take i u) (sym k.count) ∙ entire_starts)
        (take_at ps x (length ps) refl)
        (take_at os y (length os) refl)
        (a ∙ length-take-le n v fit.parts ∙ k.count)
        (b ∙ length-take-le n w fit.owners ∙ k.count)

-- the rows that are kept when the rest is cleared
pub record Rows (v : Verdict) (n : ℕ) (t u w : List ℕ) : Type 0 where
  pub count : n ≡ length (starts_of v)
  pub filled : Filled v t u w

no_rows : (v : Verdict) → (number_of v ≡ 0 → ⊥) → 0 ≡ length (starts_of v)
no_rows (passed qs ps os) z = absurd (z refl)
no_rows (refused c p n) z = refl

module _ {v : Verdict} {a : Answer} {t u w : List ℕ} (x : Examined v a t u w) where
  pub rows_some : {n : ℕ} → a.number ≡ 0 → n ≡ a.count → Rows v n t u w
  rows_some z e = record {
    count = e ∙ x.0.count ∙ x.1.counted (sym x.0.number ∙ z);
    filled = x.1;
  }

  pub rows_none : {n : ℕ} → (a.number ≡ 0 → ⊥) → n ≡ 0 → Rows v n t u w
  rows_none z e = record { count = e ∙ no_rows v (λ i. z (x.0.number ∙ i)); filled = x.1 }

-- both at once
pub rows_either : {v : Verdict} {a : Answer} {t u w : List ℕ} → Examined v a t u w → {n : ℕ} → (a.number ≡ 0 → n ≡ a.count)
    → ((a.number ≡ 0 → ⊥) → n ≡ 0) → Rows v n t u w
rows_either {v} {a} {t} {u} {w} x {n} f g = go a.number refl
  where
    go : (m : ℕ) → a.number ≡ m → Rows v n t u w
    go zero e = rows_some x e (f e)
    go (suc k) e = let z : a.number ≡ 0 → ⊥ = λ (i : a.number ≡ 0). omega arith in rows_none x z (g z)

-- the rows of what was answered
pub rows_of : {v : Verdict} {t u w : List ℕ} (r : Result ℕ Fault) {n : ℕ} → Examined v (answer_of r) t u w → n ≡ result_unwrap_or r 0 → Rows v n t u w
rows_of (Ok n) x e = rows_either x (λ z. e) (λ z. absurd (z refl))
rows_of (Err f) x e = rows_either x (λ z. absurd (number_some f.reason z)) (λ z. e)

begins_table : (xs t r u : List ℕ) {n : ℕ} → Begins xs t → n ≡ length xs → length t ≡ length r → u ≡ cleared t n → u ≡ filled xs (length r)
begins_table xs t r u b e l f = f ∙ rw (e, b, l)

-- once the rest of each table is cleared
pub audited : (mode : Mode) (m : ℕ) (file : Lent) (start part owner : MutLent) (a : Answer) {n : ℕ} (t u w : List ℕ) → Answers (told_within mode m file start part owner) a
    → Rows (told_within mode m file start part owner) n t u w → length t ≡ length (before start) → length u ≡ length (before part)
    → length w ≡ length (before owner) → after start ≡ cleared t n → after part ≡ cleared u n → after owner ≡ cleared w n
    → AuditsWithin mode m file start part owner a
audited mode m file start part owner a t u w x y i j k d e f = record {
  number = x.number;
  place = x.place;
  count = x.count;
  starts = begins_table (starts_of v) t (before start) (after start) y.filled.starts y.count i d;
  parts = begins_table (parts_of v) u (before part) (after part) y.filled.parts (y.count ∙ sym y.filled.each_part) j e;
  owners = begins_table (owners_of v) w (before owner) (after owner) y.filled.owners (y.count ∙ sym y.filled.each_owner) k f;
  demand = demand mode (held file) (room_in m (before start) (before part) (before owner));
}
  where
    v : Verdict
    v = told_within mode m file start part owner

-- the first table's length is no limit beside the tables
pub unlimited : {mode : Mode} {file : Lent} {start part owner : MutLent} {a : Answer} → AuditsWithin mode (length (before start)) file start part owner a
    → AuditsIn mode (room file start part owner) file start part owner a
unlimited {mode} {file} {start} {part} {owner} {a} k =
    let v = before part in
    let w = before owner in
    let n = length (before start) in
    let e : lesser n (room_of (before start) v w) ≡ room_of (before start) v w =
    sym (lesser_second n (room_of (before start) v w) (lesser_within n (lesser (length v) (length w))).0) in
    subst (λ (m : ℕ). AuditsIn mode m file start part owner a) e k
