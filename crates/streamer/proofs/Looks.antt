-- Every class that an object is taken as stands in the record: a reader that looks each tag up once more reads the same.
use native.Mathlib.Omega.{arith}
use Prim.Native.Nat.{ℕ, zero, suc, ◌+◌, ◌-◌}
use mathlib.Core.List.{List, [], ◌∷◌, ◌++◌}
use mathlib.Core.Path.{◌≡◌, refl}
use lib.ListN.{length, set}
use Rattle.std.specs.Prelude.{Result, Ok, Err, IfOk}
use Rattle.wire.specs.Lent.{Lent, MutLent, held, before, after}
use Rattle.wire.specs.declared.Answer.{Answer}
use Rattle.wire.specs.declared.fault.Fault.{Fault}
use Rattle.wire.proofs.Checks.{picked}
use Rattle.infofield.specs.Field.{◌>>=◌, ended_at}
use Rattle.infoelement.specs.Element.{class_body_at, member_at}
use Rattle.infotag.specs.Tag.{head_at}
use Rattle.infotag.specs.Stand.{tag_stands, new_tag_of, looked_up, once, twice}
use Rattle.infotag.specs.declared.tag.Start.{Start}
use Rattle.infotag.proofs.Stands.{TagsStand, none_stand, Kept, head_kept}
use Rattle.infolist.specs.List.{array_body_at, info_list_at}
use Rattle.infolist.specs.declared.list.Objects.{Objects}
use Rattle.streamer.specs.Row.{Going, Run, classes, row_of, times, onward, element_at}
use Rattle.streamer.specs.Info.{elements_at, array_at, class_at, list_object_at, owner_of, info_at}
use Rattle.streamer.specs.Info.{info_answer, info_table, Informs}
use Rattle.streamer.specs.declared.row.Owner.{Owner}

-- two runs are the same, and the tags that they have seen stand in the record at rec
record Agree (s : List ℕ) (rec : ℕ) (x y : Run) : Type 0 where
  same : x ≡ y
  stand : IfOk x (λ r. TagsStand s rec r.tags)

-- a run, and one more object after it
abbrev more : (List ℕ → ℕ → Run) → Run → Run
more f r = r >>= (λ x. f x.tags x.next >>= (λ y. Ok (record { tags = y.tags; rows = x.rows ++ y.rows; next = y.next })))

module _ {s : List ℕ} {rec : ℕ} where
  stops : (d : Fault) → Agree s rec (Err d) (Err d)
  stops d = record { same = refl; stand = tt }

  goes : (x : Going) → TagsStand s rec x.tags → Agree s rec (Ok x) (Ok x)
  goes x t = record { same = refl; stand = t }

  -- after the same step
  on_step : {A : Type 0} (x : Result A Fault) {f g : A → Run} → ((a : A) → Agree s rec (f a) (g a)) → Agree s rec (x >>= f) (x >>= g)
  on_step (Ok a) h = h a
  on_step (Err d) h = stops d

  -- after a tag that is looked up once more
  on_looked : (ts : List ℕ) (p : ℕ) (x : Result Start Fault) → IfOk x (Kept s rec ts p) → {f g : Start → Run}
      → ((h : Start) → TagsStand s rec (set ts h.class h.offset) → Agree s rec (f h) (g h))
      → Agree s rec (x >>= f) (looked_up s rec p x >>= g)
  on_looked ts p (Ok h) k e = rw (picked (tag_stands s (new_tag_of s rec (p + 4)) h.class) _ _ k.0) (e h k.1)
  on_looked ts p (Err d) k e = stops d

  -- the same step after each, and objects one after the other
  on_onward : (f : ℕ → Result ℕ Fault) (x : Run) {y : Run} → Agree s rec x y → Agree s rec (onward x f) (onward y f)
  unfolding onward
  on_onward f x h = rw (← h.same) (go x h.stand)
    where
      go : (x : Run) → IfOk x (λ r. TagsStand s rec r.tags) → Agree s rec (onward x f) (onward x f)
      go (Ok x) t = on_step (f x.next) (λ q. goes (record { tags = x.tags; rows = x.rows; next = q }) t)
      go (Err d) t = stops d

  on_more : (f g : List ℕ → ℕ → Run) → ((ts : List ℕ) (p : ℕ) → TagsStand s rec ts → Agree s rec (f ts p) (g ts p)) → (x : Run) {y : Run}
      → Agree s rec x y → Agree s rec (more f x) (more g y)
  on_more f g a x h = rw (← h.same) (go x h.stand)
    where
      put : (x : Going) (z : Run) {w : Run} → Agree s rec z w
          → Agree s rec (z >>= (λ y. Ok (record { tags = y.tags; rows = x.rows ++ y.rows; next = y.next })))
          (w >>= (λ y. Ok (record { tags = y.tags; rows = x.rows ++ y.rows; next = y.next })))
      put x (Ok y) h = rw (← h.same) (goes (record { tags = y.tags; rows = x.rows ++ y.rows; next = y.next }) h.stand)
      put x (Err d) h = rw (← h.same) (stops d)

      go : (x : Run) → IfOk x (λ r. TagsStand s rec r.tags) → Agree s rec (more f x) (more g x)
      go (Ok x) t = put x (f x.tags x.next) (a x.tags x.next t)
      go (Err d) t = stops d

  on_times : (f g : ℕ → List ℕ → ℕ → Run)
      → ((k : ℕ) (ts : List ℕ) (p : ℕ) → TagsStand s rec ts → Agree s rec (f k ts p) (g k ts p))
      → (ts : List ℕ) (p k : ℕ) → TagsStand s rec ts → Agree s rec (times f ts p k) (times g ts p k)
  unfolding times
  on_times f g a ts p zero t = goes (record { tags = ts; rows = []; next = p }) t
  on_times f g a ts p (suc k) t = on_more (f k) (g k) (a k) (times f ts p k) (on_times f g a ts p k t)

-- the objects of the record
module _ (s : List ℕ) (o : Owner) where
  abbrev Both : (List ℕ → ℕ → Run) → (List ℕ → ℕ → Run) → Type 0
  Both f g = (ts : List ℕ) (p : ℕ) → TagsStand s o.rec ts → Agree s o.rec (f ts p) (g ts p)

  element_both : (e : ℕ) → Both (element_at once s o e) (element_at (twice o.rec) s o e)
  unfolding element_at
  element_both e ts p t =
      on_looked ts p (head_at s o.rec p e (classes 2 11) ts) (head_kept s o.rec p e (classes 2 11) ts (omega arith) t) (λ h u.
      on_step (member_at s (h.class - 1) h.next h.close) (λ m.
      on_step (ended_at m.next h.close) (λ d.
      goes (record { tags = set ts h.class h.offset; rows = row_of o (h.class - 1) m ∷ []; next = d }) u)))

  elements_both : (n : Objects) (ts : List ℕ) → TagsStand s o.rec ts → Agree s o.rec (elements_at once s o n ts) (elements_at (twice o.rec) s o n ts)
  unfolding elements_at
  elements_both n ts t = on_times _ _ (λ k. element_both n.end) ts n.from n.count t

  array_both : (e : ℕ) → Both (array_at once s o e) (array_at (twice o.rec) s o e)
  unfolding array_at
  array_both e ts p t =
      on_looked ts p (head_at s o.rec p e (classes 1 1) ts) (head_kept s o.rec p e (classes 1 1) ts (omega arith) t) (λ h u.
      on_step (array_body_at s h.next h.close) (λ n.
      on_onward _ _ (on_onward _ _ (elements_both n _ u))))

  class_both : (e : ℕ) → Both (class_at once s o e) (class_at (twice o.rec) s o e)
  unfolding class_at
  class_both e ts p t =
      on_looked ts p (head_at s o.rec p e (classes 0 0) ts) (head_kept s o.rec p e (classes 0 0) ts (omega arith) t) (λ h u.
      on_step (class_body_at s h.next h.close) (λ b.
      on_onward _ _ (on_onward _ _ (array_both b.close _ b.from u))))

list_object_both : (s : List ℕ) (rec : ℕ) (n : Objects) (i : ℕ)
    → Both s (owner_of rec i) (list_object_at once s rec n i) (list_object_at (twice rec) s rec n i)
unfolding list_object_at
list_object_both s rec n i ts p t = on_onward _ _ (class_both s (owner_of rec i) n.end ts p t)

pub looks : (s : List ℕ) (p : ℕ) → info_at once s p ≡ info_at (twice p) s p
unfolding info_at
looks s p =
    (on_step {rec = p} (info_list_at s p) (λ n.
    on_onward _ _ (on_times _ _ (list_object_both s p n) _ n.from n.count (none_stand s p 12)))).same

pub informs : {file : Lent} {table : MutLent} {at : ℕ} {r : Answer} → (r ≡ info_answer (held file) at (length (before table)))
    × (after table ≡ info_table (held file) at (length (before table))) → Informs file at table r
informs h = record { answer = h.0; rows = h.1; tags = looks _ _ }
