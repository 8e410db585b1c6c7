-- Runs: an answer with the tags and the table at exit.
use Prim.Native.Nat.{ℕ, zero, suc, ◌+◌, ◌-◌, ◌/◌, ◌<◌, ◌≤◌}
use mathlib.Core.List.{List, [], ◌∷◌, ◌++◌}
use mathlib.Core.Path.{◌≡◌, refl, sym, ap, ◌∙◌}
use native.Mathlib.Nat.{add-zero, zero-add, suc-add}
use native.Mathlib.Numerals.{add-one}
use native.Mathlib.Omega.{arith}
use borrow.Author.Tests.{le-leb, lt-leb}
use lib.ListN.{length, length-append}
use Rattle.std.specs.Prelude.{Result, Ok, Err, IfOk}
use Rattle.wire.specs.Answer.{done}
use Rattle.wire.specs.Fault.{fault_answer}
use Rattle.wire.specs.declared.Answer.{Answer}
use Rattle.table.specs.Table.{filled}
use Rattle.wire.specs.declared.fault.Fault.{Fault}
use Rattle.infofield.specs.Field.{◌>>=◌}
use Rattle.infofield.proofs.Steps.{after_step}
use Rattle.inforow.specs.Row.{flat, put_row, put_rows}
use Rattle.inforow.specs.declared.Row.{Row}
use Rattle.inforow.proofs.Tables.{more_rows, all_rows}
use Rattle.streamer.specs.Info.{too_many, answered, shown}
use Rattle.streamer.specs.Row.{Run, times, onward}
use Rattle.streamer.specs.Runs.{Ran, stepped, Ended}
use Rattle.streamer.specs.declared.row.Rows.{Rows}

-- a run that stopped
pub ran_stop : (run : Run) (t : List ℕ) (n : ℕ) (r : Result Rows Fault) (us u : List ℕ) (d : Fault) → run ≡ Err d → r ≡ Err d → Ran run t n r us u
unfolding Ran
ran_stop run t n r us u d e g = rw e (g, tt)

-- one row
pub one_row : (run : Run) (t : List ℕ) (n : ℕ) (us u : List ℕ) (ts : List ℕ) (r : Row) (p : ℕ)
    → run ≡ Ok (record { tags = ts; rows = r ∷ []; next = p }) → us ≡ ts → u ≡ put_row t n r
    → Ran run t n (Ok (record { next = p; count = n + 1 })) us u
unfolding Ran put_rows
one_row run t n us u ts r p e g h = rw e (refl, (g, h))

-- no step after an answer that stopped
pub stepped_wrong : (a : Result Rows Fault) (f : ℕ → Result ℕ Fault) {d : Fault} → a ≡ Err d → a ≡ stepped a f
stepped_wrong a f g = rw g

-- a step after what was read
pub ran_onward : (run : Run) (t : List ℕ) (n : ℕ) (f : ℕ → Result ℕ Fault) (a b : Result Rows Fault) (us u : List ℕ) → Ran run t n a us u
    → b ≡ stepped a f → Ran (onward run f) t n b us u
unfolding Ran onward
ran_onward (Ok x) t n f a b us u h g = rw (g, h.0) (go (f x.next))
  where
    go : (y : Result ℕ Fault) → Ran (y >>= (λ q. Ok (record { tags = x.tags; rows = x.rows; next = q }))) t n
        (y >>= (λ q. Ok (record { next = q; count = n + length x.rows }))) us u
    go (Ok q) = (refl, h.1)
    go (Err d) = (refl, tt)
ran_onward (Err d) t n f a b us u h g = (g ∙ sym (stepped_wrong a f h.0) ∙ h.0, tt)

-- the ends of two objects after what was read
pub ran_ends : (run : Run) (t : List ℕ) (n : ℕ) (f g : ℕ → Result ℕ Fault) (a b : Result Rows Fault) (us u : List ℕ) → Ran run t n a us u
    → b ≡ stepped (stepped a f) g → Ran (onward (onward run f) g) t n b us u
ran_ends run t n f g a b us u h e = ran_onward (onward run f) t n g (stepped a f) b us u (ran_onward run t n f a (stepped a f) us u h refl) e

-- a step adds no row
stepped_grown : (m : ℕ) (f : ℕ → Result ℕ Fault) (a : Result Rows Fault) → IfOk a (λ r. r.count ≤ m) → IfOk (stepped a f) (λ r. r.count ≤ m)
stepped_grown m f (Ok x) h = after_step {B = Rows} (f x.next) (λ q. Ok (record { next = q; count = x.count })) (λ r. r.count ≤ m) (λ q e. h)
stepped_grown m f (Err d) h = tt

-- a run of at most k rows: one that stopped, one by another name, and a step after it
module _ (t : List ℕ) (n k : ℕ) (us u : List ℕ) where
  abbrev Grows : Run → Result Rows Fault → Type 0
  Grows run a = Ran run t n a us u × IfOk a (λ r. r.count ≤ n + k)

  pub run_stop : {run : Run} {d : Fault} → Err d ≡ run → Grows run (Err d)
  run_stop {run} {d} e = (ran_stop run t n (Err d) us u d (sym e) refl, tt)

  pub run_as : {run run' : Run} (a : Result Rows Fault) → run ≡ run' → Grows run a → Grows run' a
  run_as a e h = rw e at h

  pub run_onward : (run : Run) (f : ℕ → Result ℕ Fault) (a b : Result Rows Fault) → Grows run a → b ≡ stepped a f → Grows (onward run f) b
  run_onward run f a b h g = (ran_onward run t n f a b us u h.0 g, rw g (stepped_grown (n + k) f a h.1))

-- objects one after the other: after k of them from p with the tags ts, the tags us, the rows r and the table u
pub record Reading (f : ℕ → List ℕ → ℕ → Run) (ts : List ℕ) (p : ℕ) (t : List ℕ) (n k : ℕ) (us : List ℕ) (r : Rows) (u : List ℕ) : Type 0 where
  pub run : Ran (times f ts p k) t n (Ok r) us u
  pub table : length u ≡ length t

pub read_began : (f : ℕ → List ℕ → ℕ → Run) (ts : List ℕ) (p : ℕ) (t : List ℕ) (n : ℕ)
    → Reading f ts p t n 0 ts (record { next = p; count = n }) t
unfolding times Ran put_rows
read_began f ts p t n = record { run = (rw add-zero, (refl, refl)); table = refl }

more : (f : List ℕ → ℕ → Run) (x : Run) (t : List ℕ) (n : ℕ) (r : Rows) (us u : List ℕ) (a : Result Rows Fault) (us' u' : List ℕ)
    → Ran x t n (Ok r) us u → Ran (f us r.next) u r.count a us' u'
    → Ran (x >>= (λ x. f x.tags x.next >>= (λ y. Ok (record { tags = y.tags; rows = x.rows ++ y.rows; next = y.next })))) t n a us' u'
unfolding Ran
more f (Err d) t n r us u a us' u' h g = let z : ◌≡◌ {A = ℕ} 0 1 = cc in absurd (omega arith)
more f (Ok x) t n r us u a us' u' h g =
    let i : r.next ≡ x.next = cc in
    let j : r.count ≡ n + length x.rows = cc in
    let g' : Ran (f x.tags x.next) (put_rows t n x.rows) (n + length x.rows) a us' u' = rw (i, j, h.1.0, h.1.1) at g in
    go (f x.tags x.next) g'
  where
    go : (y : Run) → Ran y (put_rows t n x.rows) (n + length x.rows) a us' u'
        → Ran (y >>= (λ y. Ok (record { tags = y.tags; rows = x.rows ++ y.rows; next = y.next }))) t n a us' u'
    go (Ok y) k =
        let e : n + length x.rows + length y.rows ≡ n + length (x.rows ++ y.rows) = rw length-append (omega arith) in
        (rw (k.0, e), (k.1.0, k.1.1 ∙ more_rows t n x.rows y.rows))
    go (Err d) k = k

stays : (f : ℕ → List ℕ → ℕ → Run) (ts : List ℕ) (p k j : ℕ) (d : Fault) → times f ts p k ≡ Err d → times f ts p (j + k) ≡ Err d
unfolding times
stays f ts p k zero d e = rw zero-add e
stays f ts p k (suc j) d e = rw (suc-add, stays f ts p k j d e)

stop_is : (x : Run) (t : List ℕ) (n : ℕ) (d : Fault) (us u : List ℕ) → Ran x t n (Err d) us u → x ≡ Err d
unfolding Ran
stop_is (Ok x) t n d us u h = let z : ◌≡◌ {A = ℕ} 0 1 = cc in absurd (omega arith)
stop_is (Err e) t n d us u h = cc

module _ {f : ℕ → List ℕ → ℕ → Run} {ts : List ℕ} {p : ℕ} {t : List ℕ} {n k : ℕ} {us : List ℕ} {r : Rows} {u : List ℕ}
    (h : Reading f ts p t n k us r u) where
  one_more : (a : Result Rows Fault) (us' u' : List ℕ) → Ran (f k us r.next) u r.count a us' u' → Ran (times f ts p (suc k)) t n a us' u'
  unfolding times
  one_more a us' u' g = more (f k) (times f ts p k) t n r us u a us' u' h.run g

  pub read_more : (a : Result Rows Fault) {r' : Rows} {us' u' : List ℕ} → Ran (f k us r.next) u r.count a us' u' → a ≡ Ok r'
      → length u' ≡ length u → Reading f ts p t n (k + 1) us' r' u'
  read_more a {r'} {us'} {u'} g e j = record {
    run = rw add-one (one_more (Ok r') us' u' (rw e at g));
    table = j ∙ h.table;
  }

  pub read_ended : (l : ℕ) → k ≡ l → Ran (times f ts p l) t n (Ok r) us u
  read_ended l e = rw (← e) h.run

  pub read_stopped : (a b : Result Rows Fault) (l : ℕ) (d : Fault) (us' u' : List ℕ) → k < l → Ran (f k us r.next) u r.count a us' u'
      → a ≡ Err d → b ≡ Err d → Ran (times f ts p l) t n b us' u'
  read_stopped a b l d us' u' m g e i =
      let w = stop_is (times f ts p (suc k)) t n d us' u' (one_more (Err d) us' u' (rw e at g)) in
      let j : l - suc k + suc k ≡ l = omega arith in
      ran_stop _ t n b us' u' d (rw j at (stays f ts p (suc k) (l - suc k) d w)) i

-- runs from an empty table, with the tags left out
pub ended_stop : (run : Run) (t : List ℕ) (r : Result Rows Fault) (u : List ℕ) (d : Fault) → run ≡ Err d → r ≡ Err d → Ended run t r u
unfolding Ended
ended_stop run t r u d e g = ([], ran_stop run t 0 r [] u d e g)

pub ended_onward : (run : Run) (t : List ℕ) (f : ℕ → Result ℕ Fault) (a b : Result Rows Fault) (us u : List ℕ) → Ran run t 0 a us u
    → b ≡ stepped a f → Ended (onward run f) t b u
unfolding Ended
ended_onward run t f a b us u h e = (us, ran_onward run t 0 f a b us u h e)

-- the answer and the table of a run: rows, too many rows, a fault
module _ (n : ℕ) where
  abbrev Answers : Run → Answer → List ℕ → Type 0
  Answers run a u = (a ≡ answered run n) × (u ≡ filled (flat (shown run n)) n)

  stop_of : (run : Run) (t u : List ℕ) (d : Fault) (us : List ℕ) → Ran run t 0 (Err d) us u → Answers run (fault_answer d) (filled [] n)
  unfolding flat
  stop_of run t u d us h = rw (stop_is run t 0 d us u h) (refl, refl)

  pub answer_rows : (run : Run) (t u : List ℕ) {a : Result Rows Fault} {r : Rows} → Ended run t a u → t ≡ filled [] n → a ≡ Ok r
      → r.count ≤ n / 6 → Answers run (done r.count) u
  unfolding Ended Ran
  answer_rows (Err d) t u h i e l = let g = h.1.0 in let z : ◌≡◌ {A = ℕ} 0 1 = cc in absurd (omega arith)
  answer_rows (Ok x) t u {a} {r} h i e l =
      let g = h.1.0 in
      let j : r.count ≡ 0 + length x.rows = cc in
      let k : r.count ≡ length x.rows = omega arith in
      let f = le-leb (length x.rows) (n / 6) (omega arith) in
      (rw f (ap done k), rw f (h.1.1.1 ∙ rw i (all_rows n x.rows (omega arith))))

  -- the table was cleared again
  module _ (run : Run) (t u : List ℕ) {a : Result Rows Fault} (h : Ended run t a u) {v : List ℕ} {m : ℕ} (i : v ≡ filled [] m) (j : m ≡ n) where
    pub answer_many : {r : Rows} → a ≡ Ok r → n / 6 < r.count → Answers run (too_many r.count) v
    unfolding Ended Ran flat
    answer_many {r} = go run h
      where
        go : (x : Run) → Ended x t a u → a ≡ Ok r → n / 6 < r.count → Answers x (too_many r.count) v
        go (Err d) h e l = let g = h.1.0 in let z : ◌≡◌ {A = ℕ} 0 1 = cc in absurd (omega arith)
        go (Ok x) h e l =
            let g = h.1.0 in
            let o : r.count ≡ 0 + length x.rows = cc in
            let k : r.count ≡ length x.rows = omega arith in
            let f = lt-leb (length x.rows) (n / 6) (omega arith) in
            (rw f (ap too_many k), rw f (i ∙ ap (filled []) j))

    pub answer_stop : {d : Fault} → a ≡ Err d → Answers run (fault_answer d) v
    unfolding Ended
    answer_stop {d} e = let y = stop_of run t u d h.0 (rw e at h.1) in (y.0, i ∙ ap (filled []) j ∙ y.1)
