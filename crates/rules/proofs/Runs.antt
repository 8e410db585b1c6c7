-- A directory's turn over its bytes: it goes through exactly where the rules on its header, its list and its copies hold and every row
-- that it gives had no part.
use Rattle.std.specs.Prelude.{Option, Some, None}
use Prim.Native.Nat.{ℕ, zero, suc, ◌+◌}
use mathlib.Core.Bool.{Bool, true, false}
use mathlib.Core.List.{List, [], ◌∷◌, map}
use mathlib.Core.Logic.{◌⊎◌, inl, inr, ⊎_elim}
use mathlib.Core.Path.{◌≡◌, refl, sym, ap, ◌∙◌, subst}
use native.Mathlib.Omega.{arith}
use borrow.Author.Tests.{eq-eqb, eqb-true, le-leb, leb-true}
use lib.Dec.{eqb, leb}
use lib.ListN.{length, get_or, set}
use Rattle.wire.specs.Check.{all, All, pick}
use Rattle.wire.specs.Number.{num_at}
use Rattle.wire.proofs.Checks.{yes_all, not_all, all_or, false_true}
use Rattle.key.specs.declared.header.Key.{Key}
use Rattle.directory.specs.Dir.{dir_of, no_keys}
use Rattle.keylist.specs.Keys.{list_in, copy_in}
use Rattle.keylist.specs.Keys.{span}
use Rattle.keylist.specs.declared.Data.{Data}
use Rattle.directory.specs.declared.DirHead.{DirHead}
use Rattle.fileheader.specs.declared.FileHead.{FileHead}
use Rattle.rules.specs.Entry.{entry_fits}
use Rattle.rules.specs.Row.{starts}
use Rattle.rules.specs.Rules.{Copies, Entries, Filled}
use Rattle.rules.specs.Turn.{row_of, Turn, going, stop, and_then, give, listed_mark, on_copy, copy_turn, copies, ended, data_turn, on_data, keys_in}
use Rattle.rules.specs.Turn.{keys_turn, on_dir, dir_turn}
use Rattle.rules.proofs.Items.{Item, item, Assign}

-- a turn that went on did not stop
pub stopped : {A : Type 0} {us vs : List ℕ} {e n p : ℕ} → going us vs e ≡ stop n p → A
stopped e = let z : ◌≡◌ {A = ℕ} 0 1 = cc in absurd (omega arith)

pub and_then_law : (f : List ℕ → List ℕ → ℕ → Turn) (t : Turn) {us vs : List ℕ} {e : ℕ} → and_then f t ≡ going us vs e
    → (ps : List ℕ) × (os : List ℕ) × (c : ℕ) × (t ≡ going ps os c) × (f ps os c ≡ going us vs e)
and_then_law f (going ps os c) h = (ps, os, c, refl, h)
and_then_law f (stop n p) h = stopped (sym h)

-- the same, from other names of the tables
pub from_there : (f : List ℕ → List ℕ → ℕ → Turn) (ps os us vs : List ℕ) (c e : ℕ) (x : Turn) → us ≡ ps → vs ≡ os → e ≡ c
    → f us vs e ≡ x → f ps os c ≡ x
from_there f ps os us vs c e x a b g h = sym (λ i. f (a i) (b i) (g i)) ∙ h

-- a test that was passed
pub tested : (b : Bool) (t : Turn) (n p : ℕ) {us vs : List ℕ} {e : ℕ} → pick b t (stop n p) ≡ going us vs e → (b ≡ true) × (t ≡ going us vs e)
tested true t n p h = (refl, h)
tested false t n p h = stopped (sym h)

pub gave : (i m d next place : ℕ) (ps os : List ℕ) {us vs : List ℕ} {e : ℕ} → give i m d next place ps os ≡ going us vs e
    → (get_or ps i 0 ≡ 7) × ((us ≡ set ps i m) × ((vs ≡ set os i d) × (e ≡ next)))
gave i m d next place ps os {us} {vs} {e} h =
    let t = tested (eqb (get_or ps i 0) 7) (going (set ps i m) (set os i d) next) 14 place h in
    let x = t.1 in
    let a : us ≡ set ps i m = cc in
    let b : vs ≡ set os i d = cc in
    let c : e ≡ next = cc in
    (eqb-true (get_or ps i 0) 7 t.0, (a, (b, c)))

gives : (i m d next place : ℕ) (ps os : List ℕ) → get_or ps i 0 ≡ 7 → give i m d next place ps os ≡ going (set ps i m) (set os i d) next
gives i m d next place ps os e = rw (eq-eqb (get_or ps i 0) 7 e)

module _ (s qs : List ℕ) where
  -- what the copies of a list give
  abbrev pub copied : List Key → List Item
  copied ks = map (λ (k : Key). item (row_of qs k.seekkey) (listed_mark s k.seekkey)) ks

  module _ (d seek end : ℕ) where
    -- one copy
    pub record Copied (ps os us vs : List ℕ) (c e : ℕ) : Type 0 where
      pub key : Key
      pub parsed : copy_in s c end ≡ Some key
      pub fits : All (entry_fits s qs d c key)
      pub free : get_or ps (row_of qs key.seekkey) 0 ≡ 7
      pub parts : us ≡ set ps (row_of qs key.seekkey) (listed_mark s key.seekkey)
      pub owners : vs ≡ set os (row_of qs key.seekkey) d
      pub next : e ≡ c + key.keylen

    copied_by : (x : Option Key) (ps os us vs : List ℕ) (c e : ℕ) → copy_in s c end ≡ x → on_copy s qs d seek c ps os x ≡ going us vs e
        → Copied ps os us vs c e
    copied_by (Some k) ps os us vs c e f h =
        let row = row_of qs k.seekkey in
        let mark = listed_mark s k.seekkey in
        let t = tested (all (entry_fits s qs d c k)) (give row mark d (c + k.keylen) c ps os) 13 c h in
        let y = gave row mark d (c + k.keylen) c ps os t.1 in
        record {
          key = k;
          parsed = f;
          fits = all_holds t.0;
          free = y.0;
          parts = y.1.0;
          owners = y.1.1.0;
          next = y.1.1.1;
        }
      where
        all_holds : all (entry_fits s qs d c k) ≡ true → All (entry_fits s qs d c k)
        all_holds e =
            ⊎_elim (λ (h : All (entry_fits s qs d c k)). h)
            (λ (h : All (entry_fits s qs d c k) → ⊥). false_true (sym (not_all (entry_fits s qs d c k) h) ∙ e))
            (all_or (entry_fits s qs d c k))
    copied_by None ps os us vs c e f h = stopped (sym h)

    one_copied : (ps os us vs : List ℕ) (c e : ℕ) → copy_turn s qs d seek end ps os c ≡ going us vs e → Copied ps os us vs c e
    unfolding copy_turn
    one_copied ps os us vs c e h = copied_by (copy_in s c end) ps os us vs c e refl h

    one_goes : (ps os : List ℕ) (c : ℕ) (k : Key) → copy_in s c end ≡ Some k → All (entry_fits s qs d c k)
        → get_or ps (row_of qs k.seekkey) 0 ≡ 7
        → copy_turn s qs d seek end ps os c
        ≡ going (set ps (row_of qs k.seekkey) (listed_mark s k.seekkey)) (set os (row_of qs k.seekkey) d) (c + k.keylen)
    unfolding copy_turn
    one_goes ps os c k e f h =
        rw (e, yes_all (entry_fits s qs d c k) f) (gives (row_of qs k.seekkey) (listed_mark s k.seekkey) d (c + k.keylen) c ps os h)

    -- all copies
    abbrev pub AllCopied : ℕ → List ℕ → List ℕ → List ℕ → List ℕ → ℕ → Type 0
    AllCopied n ps os us vs c =
        (ks : List Key) × (length ks ≡ n) × Copies s end c ks × Entries s qs d c ks × Assign d (copied ks) ps os us vs

    pub copies_went : (n : ℕ) (ps os us vs : List ℕ) (c : ℕ) → copies s qs d seek end n ps os c ≡ going us vs end
        → AllCopied n ps os us vs c
    unfolding copies
    copies_went zero ps os us vs c h =
        let a : us ≡ ps = cc in
        let b : vs ≡ os = cc in
        let f : c ≡ end = cc in
        ([], refl, f, tt, (a, b))
    copies_went (suc n) ps os us vs c h =
        let t = and_then_law (copies s qs d seek end n) (copy_turn s qs d seek end ps os c) h in
        let o = one_copied ps os t.0 t.1 c t.2 t.3 in
        let k = o.key in
        let x =
        from_there (copies s qs d seek end n) (set ps (row_of qs k.seekkey) (listed_mark s k.seekkey))
        (set os (row_of qs k.seekkey) d) t.0 t.1 (c + k.keylen) t.2 (going us vs end)
        o.parts o.owners o.next t.4 in
        let r = copies_went n (set ps (row_of qs k.seekkey) (listed_mark s k.seekkey)) (set os (row_of qs k.seekkey) d) us vs (c + k.keylen) x in
        (k ∷ r.0, ap suc r.1, (o.parsed, r.2), (o.fits, r.3), (o.free, r.4))

    pub copies_go : (ks : List Key) (ps os us vs : List ℕ) (c : ℕ) → Copies s end c ks → Entries s qs d c ks
        → Assign d (copied ks) ps os us vs → copies s qs d seek end (length ks) ps os c ≡ going us vs end
    unfolding copies
    copies_go [] ps os us vs c h f a = λ i. going (sym a.0 i) (sym a.1 i) (h i)
    copies_go (k ∷ ks) ps os us vs c h f a =
        rw (one_goes ps os c k h.0 f.0 a.0)
        (copies_go ks (set ps (row_of qs k.seekkey) (listed_mark s k.seekkey)) (set os (row_of qs k.seekkey) d) us vs (c + k.keylen) h.1
        f.1 a.1)

  -- what a directory gives, from its header and copies
  abbrev pub Gives : ℕ → DirHead → List Key → List Item → Type 0
  Gives d dh ks its =
      (All (no_keys dh) × ((ks ≡ []) × (its ≡ [])))
      ⊎ (Filled s qs d dh ks × (its ≡ item (row_of qs dh.seekkeys) 4 ∷ copied ks))

  module _ (d : ℕ) (dh : DirHead) (ps os us vs : List ℕ) where
    abbrev pub Went : Type 0
    Went = (ks : List Key) × (its : List Item) × Gives d dh ks its × Assign d its ps os us vs

    abbrev There : ℕ → ℕ → Type 0
    There a end = (starts qs dh.seekkeys ≡ true) × (list_in s dh.seekkeys dh.nbyteskeys d ≡ Some (span a end))

    held_there : {a end : ℕ} (b : Bool) → starts qs dh.seekkeys ≡ b → keys_in s qs d dh ≡ Some (span a end) → There a end
    unfolding keys_in
    held_there true e f = (e, rw e at f)
    held_there {a} {end} false e f =
        let x : None ≡ Some (span a end) = rw e at f in
        let z : ◌≡◌ {A = ℕ} 0 1 = cc in
        absurd (omega arith)

    data_went : (x : Option Data) (e : ℕ) → keys_in s qs d dh ≡ x → on_data s qs d dh.seekkeys ps os x ≡ going us vs e → Went
    unfolding data_turn
    data_went (Some l) e f h =
        let a = l.from in
        let end = l.end in
        let row = row_of qs dh.seekkeys in
        let t = and_then_law (data_turn s qs d dh.seekkeys a end) (give row 4 d (a + 4) d ps os) h in
        let y = gave row 4 d (a + 4) d ps os t.3 in
        let u = tested (leb (a + 4) end) (and_then (ended dh.seekkeys end) (copies s qs d dh.seekkeys end (num_at 4 s a) t.0 t.1 t.2)) 12
        dh.seekkeys t.4 in
        let v = and_then_law (ended dh.seekkeys end) (copies s qs d dh.seekkeys end (num_at 4 s a) t.0 t.1 t.2) u.1 in
        let w = tested (eqb v.2 end) (going v.0 v.1 v.2) 12 dh.seekkeys v.4 in
        let n : v.2 ≡ end = eqb-true v.2 end w.0 in
        let z =
        from_there (copies s qs d dh.seekkeys end (num_at 4 s a)) (set ps row 4) (set os row d) t.0 t.1 (a + 4) t.2
        (going us vs end) y.1.0 y.1.1.0 y.1.1.1
        (v.3 ∙ ended_at v.2 end n w.1) in
        let r = copies_went d dh.seekkeys end (num_at 4 s a) (set ps row 4) (set os row d) us vs (a + 4) z in
        let q = held_there (starts qs dh.seekkeys) refl f in (
          r.0,
          item row 4 ∷ copied r.0,
          inr (
            record {
              from = a;
              end = end;
              place = q.0;
              held = q.1;
              room = leb-true (a + 4) end u.0;
              count = r.1;
              copies = r.2;
              entries = r.3;
            },
            refl,
          ),
          (y.0, r.4),
        )
      where
        ended_at : {xs ys : List ℕ} {e : ℕ} (c end : ℕ) → c ≡ end → going xs ys c ≡ going us vs e → going xs ys c ≡ going us vs end
        ended_at {xs} {ys} c end f g =
            let a : xs ≡ us = cc in
            let b : ys ≡ vs = cc in
            λ i. going (a i) (b i) (f i)
    data_went None e f h = stopped (sym h)

    keys_went : (e : ℕ) → keys_turn s qs d dh ps os ≡ going us vs e → Went
    unfolding keys_turn
    keys_went e h =
        ⊎_elim
        (λ (y : All (no_keys dh)).
        let x : going ps os 0 ≡ going us vs e = rw (yes_all (no_keys dh) y) at h in
        let a : us ≡ ps = cc in
        let b : vs ≡ os = cc in
        ([], [], inl (y, (refl, refl)), (a, b)))
        (λ (y : All (no_keys dh) → ⊥). data_went (keys_in s qs d dh) e refl (rw (not_all (no_keys dh) y) at h))
        (all_or (no_keys dh))

    data_goes : (ks : List Key) → (f : Filled s qs d dh ks) → Assign d (item (row_of qs dh.seekkeys) 4 ∷ copied ks) ps os us vs
        → on_data s qs d dh.seekkeys ps os (Some (span f.from f.end)) ≡ going us vs f.end
    unfolding data_turn
    data_goes ks f a =
        rw (
          gives (row_of qs dh.seekkeys) 4 d (f.from + 4) d ps os a.0,
          le-leb (f.from + 4) f.end f.room,
          ← f.count,
          copies_go d dh.seekkeys f.end ks (set ps (row_of qs dh.seekkeys) 4) (set os (row_of qs dh.seekkeys) d) us vs (f.from + 4)
              f.copies f.entries a.1,
          eq-eqb f.end f.end refl,
        )

    keys_go : (starts qs 0 ≡ true → ⊥) → (ks : List Key) (its : List Item) → Gives d dh ks its → Assign d its ps os us vs
        → (e : ℕ) × (keys_turn s qs d dh ps os ≡ going us vs e)
    unfolding keys_turn keys_in
    keys_go zero-free ks its g a =
        ⊎_elim
        (λ (x : All (no_keys dh) × ((ks ≡ []) × (its ≡ []))).
        let y : Assign d [] ps os us vs = subst (λ (z : List Item). Assign d z ps os us vs) x.1.1 a in
        (0, rw (yes_all (no_keys dh) x.0) (λ i. going (sym y.0 i) (sym y.1 i) 0)))
        (λ (x : Filled s qs d dh ks × (its ≡ item (row_of qs dh.seekkeys) 4 ∷ copied ks)).
        let f = x.0 in
        (f.end, filled_goes f (subst (λ (z : List Item). Assign d z ps os us vs) x.1 a)))
        g
      where
        filled_goes : (f : Filled s qs d dh ks) → Assign d (item (row_of qs dh.seekkeys) 4 ∷ copied ks) ps os us vs
            → pick (all (no_keys dh)) (going ps os 0)
            (on_data s qs d dh.seekkeys ps os (pick (starts qs dh.seekkeys) (list_in s dh.seekkeys dh.nbyteskeys d) None))
            ≡ going us vs f.end
        filled_goes f a = rw (some f, f.place, f.held) (data_goes ks f a)
          where
            some : Filled s qs d dh ks → all (no_keys dh) ≡ false
            some f = not_all (no_keys dh) (λ n. zero-free (subst (λ (p : ℕ). starts qs p ≡ true) n.0 f.place))

  -- the directory in row j, listed by the one at o
  pub record Said (h : FileHead) (j o : ℕ) (its : List Item) : Type 0 where
    pub dirhead : DirHead
    pub keys : List Key
    pub header : dir_of s h (get_or qs j 0) o ≡ Some dirhead
    pub items : Gives (get_or qs j 0) dirhead keys its

  module _ (h : FileHead) (j : ℕ) (ps os us vs : List ℕ) where
    dir_by : (x : Option DirHead) (e : ℕ) → dir_of s h (get_or qs j 0) (get_or os j 0) ≡ x → on_dir s qs (get_or qs j 0) ps os x ≡ going us vs e
        → (its : List Item) × Said h j (get_or os j 0) its × Assign (get_or qs j 0) its ps os us vs
    dir_by (Some dh) e f g =
        let w = keys_went (get_or qs j 0) dh ps os us vs e g in
        (w.1, record { dirhead = dh; keys = w.0; header = f; items = w.2 }, w.3)
    dir_by None e f g = stopped (sym g)

    pub dir_went : (e : ℕ) → dir_turn s h qs j ps os ≡ going us vs e
        → (its : List Item) × Said h j (get_or os j 0) its × Assign (get_or qs j 0) its ps os us vs
    unfolding dir_turn
    dir_went e g = dir_by (dir_of s h (get_or qs j 0) (get_or os j 0)) e refl g

    pub dir_goes : (starts qs 0 ≡ true → ⊥) → (its : List Item) → Said h j (get_or os j 0) its → Assign (get_or qs j 0) its ps os us vs
        → (e : ℕ) × (dir_turn s h qs j ps os ≡ going us vs e)
    unfolding dir_turn
    dir_goes zero-free its d a =
        let k = keys_go (get_or qs j 0) d.dirhead ps os us vs zero-free d.keys its d.items a in
        (k.0, rw d.header k.1)
