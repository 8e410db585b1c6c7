-- Tags stand in the record: what a tag that was taken means, and that the tags seen keep it.
use Prim.Native.Nat.{ℕ, zero, suc, ◌+◌, ◌-◌, ◌<◌}
use mathlib.Core.List.{List, [], ◌∷◌, ◌++◌}
use mathlib.Core.Bool.{Bool, true, false}
use mathlib.Core.Path.{◌≡◌, refl, sym, ◌∙◌, ap}
use mathlib.Core.Logic.{⊎_elim}
use native.Mathlib.Numerals.{add-one}
use native.Mathlib.Omega.{arith}
use borrow.Author.Tests.{eq-eqb, eqb-true, leb-false}
use lib.Dec.{leb, eqb}
use lib.ListN.{length, get_or, set, take, drop, replicate, length-take}
use lib.Seq.{length-take-le, take-suc, get_or-take}
use Rattle.std.specs.Prelude.{Option, Some, None, ok_or, option_map, unwrap_or, Ok, Err, IfOk}
use Rattle.std.proofs.lemmas.Result.{IfOk-at_ok}
use Rattle.wire.specs.Check.{Check, all, All, pick}
use Rattle.wire.specs.Equal.{eq_bytes}
use Rattle.wire.specs.Number.{num_at}
use Rattle.wire.specs.declared.fault.Fault.{Fault}
use Rattle.wire.proofs.Checks.{yes_all, not_all, all_or}
use Rattle.wire.proofs.Equal.{same_eq}
use Rattle.wire.proofs.Patches.{repeated_at}
use Rattle.classname.specs.Find.{first_in}
use Rattle.classname.specs.Name.{classes, name_of, class_of}
use Rattle.classname.proofs.Finds.{first_holds}
use Rattle.classname.proofs.Names.{each_name}
use Rattle.infofield.specs.Field.{bad_field, field_at, end_of, counts, count_at}
use Rattle.infofield.specs.declared.field.Body.{Body}
use Rattle.infofield.proofs.Steps.{after_step}
use Rattle.infotag.specs.Tag.{between, misplaced, allowed, fresh, named_by, class_name_at, offset_of, tag_of, new_tag, beside, old_tag, named_tag, tag_at, head_at}
use Rattle.infotag.specs.Stand.{tag_stands, new_tag_of}
use Rattle.infotag.specs.declared.tag.Classes.{Classes}
use Rattle.infotag.specs.declared.tag.ClassName.{ClassName}
use Rattle.infotag.specs.declared.tag.Tag.{Tag}
use Rattle.infotag.specs.declared.tag.Start.{Start}

-- bytes up to the zero that ends them
ends_zero : (l x : List ℕ) (n : ℕ) → n < length l → get_or l n 0 ≡ 0 → x ≡ take n l → eq_bytes (take (length x + 1) l) (x ++ (0 ∷ [])) ≡ true
ends_zero l x n h z e =
    let k = length-take-le n l (omega arith) in
    rw (e, k, add-one, take-suc l n 0 h, z) (same_eq (take n l ++ (0 ∷ [])))

-- a number of a class is that of a name
of_class : (x : Option ℕ) (c : ℕ) → unwrap_or x classes ≡ c → c < classes → x ≡ Some c
of_class (Some d) c e l = ap Some e
of_class None c e l = absurd (omega (arith, e))

-- a name that was read stands there, and a zero after it
named_stands : (s : List ℕ) (q e : ℕ) (n : ClassName) → class_name_at s q e ≡ Some n → n.class < classes
    → eq_bytes (take (length (name_of n.class) + 1) (drop q s)) (name_of n.class ++ (0 ∷ [])) ≡ true
unfolding class_name_at
named_stands s q e n = go (first_in (between s q e) 0) refl
  where
    go : (x : Option ℕ) → first_in (between s q e) 0 ≡ x → option_map (named_by s q) x ≡ Some n → n.class < classes
        → eq_bytes (take (length (name_of n.class) + 1) (drop q s)) (name_of n.class ++ (0 ∷ [])) ≡ true
    go None i j l = let z : ◌≡◌ {A = ℕ} 0 1 = cc in absurd (omega arith)
    go (Some m) i j l =
        let h = first_holds (between s q e) 0 m i in
        let k : named_by s q m ≡ n = cc in
        let f = of_class (class_of (take m (drop q s))) n.class (ap (λ (n : ClassName). n.class) k) l in
        let d = get_or-take (e - q) (drop q s) m 0 (omega (arith, h.0, length-take (e - q) (drop q s))) in
        ends_zero (drop q s) (name_of n.class) m (omega (arith, h.0, length-take (e - q) (drop q s))) (sym d ∙ h.1)
        ((each_name (take m (drop q s))).only n.class f).1

-- what holds of each place of a list, after a store
each_set : (P : ℕ → ℕ → Type 0) (ts : List ℕ) (c o : ℕ) → P c o → ((d : ℕ) → P d (get_or ts d 0)) → (d : ℕ) → P d (get_or (set ts c o) d 0)
each_set P [] c o h f d = f d
each_set P (t ∷ ts) zero o h f zero = h
each_set P (t ∷ ts) zero o h f (suc d) = f (suc d)
each_set P (t ∷ ts) (suc c) o h f zero = f zero
each_set P (t ∷ ts) (suc c) o h f (suc d) = each_set (λ i. P (suc i)) ts c o h (λ i. f (suc i)) d

-- what was read says where it stood
from_count : (s : List ℕ) (p e : ℕ) (b : Body) → count_at s p e ≡ Ok b → b.from ≡ p + 4
unfolding count_at
from_count s p e b = go (all (counts s p e))
  where
    go : (t : Bool) → pick t (Ok (record { from = p + 4; close = end_of s p })) (Err (bad_field p)) ≡ Ok b → b.from ≡ p + 4
    go true i = cc
    go false i = let z : ◌≡◌ {A = ℕ} 0 1 = cc in absurd (omega arith)

from_field : (n p e q : ℕ) → field_at n p e ≡ Ok q → q ≡ p + n
unfolding field_at
from_field n p e q = go (leb (p + n) e)
  where
    go : (t : Bool) → pick t (Ok (p + n)) (Err (bad_field p)) ≡ Ok q → q ≡ p + n
    go true i = cc
    go false i = let z : ◌≡◌ {A = ℕ} 0 1 = cc in absurd (omega arith)

from_ok_or : {A : Type 0} (x : Option A) (d : Fault) (a : A) → ok_or x d ≡ Ok a → x ≡ Some a
from_ok_or (Some b) d a e = cc
from_ok_or None d a e = let z : ◌≡◌ {A = ℕ} 0 1 = cc in absurd (omega arith)

-- what holds of a tag that was taken
after_checks : (P : Tag → Type 0) (checks : ℕ → List Check) (o q p : ℕ) (x : Option ℕ)
    → ((c : ℕ) → x ≡ Some c → All (checks c) → P (record { class = c; offset = o; next = q })) → IfOk (tag_of checks o q p x) P
after_checks P checks o q p (Some c) h =
    ⊎_elim (λ (f : All (checks c)). rw (yes_all (checks c) f) (h c refl f)) (λ (f : All (checks c) → ⊥). rw (not_all (checks c) f) tt)
    (all_or (checks c))
after_checks P checks o q p None h = tt

module _ (s : List ℕ) (rec : ℕ) where
  -- the new tag of class c stands at the offset o, where that is not 0
  abbrev Stands : ℕ → ℕ → Type 0
  Stands c o = (o ≡ 0 → ⊥) → All (tag_stands s (rec + o) c)

  -- the tags that were seen stand
  abbrev pub TagsStand : List ℕ → Type 0
  TagsStand ts = (c : ℕ) → Stands c (get_or ts c 0)

  pub none_stand : (n : ℕ) → TagsStand (replicate n 0)
  none_stand n c h = absurd (h (repeated_at 0 n c))

  -- a tag at p that was taken
  abbrev Taken : ℕ → Tag → Type 0
  Taken p t = All (tag_stands s (new_tag_of s rec p) t.class) × Stands t.class t.offset

  new_taken : (p q e : ℕ) (k : Classes) (ts : List ℕ) → k.high < classes → q ≡ p + 4 → num_at 4 s p ≡ 4294967295 → IfOk (named_tag s rec p q e k ts) (Taken p)
  unfolding new_tag new_tag_of
  new_taken p q e k ts l j i =
      after_step (ok_or (class_name_at s q e) (bad_field p)) _ (Taken p) (λ n g.
      after_checks (Taken p) (fresh ts k) (offset_of rec p) n.next p (Some n.class) (λ c v f.
      let w : n.class ≡ c = cc in
      let u : All (tag_stands s p c) =
      (i, (rw (← j, ← w) (named_stands s q e n (from_ok_or _ _ n g) (omega (arith, w, f.1.0))), tt)) in
      (rw (eq-eqb _ _ i) u, λ z. let m : rec + offset_of rec p ≡ p = omega (arith, z) in rw m u)))

  old_taken : (p q : ℕ) (k : Classes) (ts : List ℕ) → eqb (num_at 4 s p) 4294967295 ≡ false → TagsStand ts
      → IfOk (old_tag (num_at 4 s p) p q k ts) (Taken p)
  unfolding old_tag new_tag_of
  old_taken p q k ts i h = go (leb (num_at 4 s p) beside) refl
    where
      go : (b : Bool) → leb (num_at 4 s p) beside ≡ b → IfOk (pick b (Err (misplaced p)) (tag_of (allowed k) (num_at 4 s p - beside) q p (first_in ts (num_at 4 s p - beside)))) (Taken p)
      go true l = tt
      go false l =
          after_checks (Taken p) (allowed k) (num_at 4 s p - beside) q p (first_in ts (num_at 4 s p - beside)) (λ c j f.
          let v = leb-false (num_at 4 s p) beside l in
          let g = (first_holds ts (num_at 4 s p - beside) c j).1 in
          let u = rw g at (h c) in
          let m : num_at 4 s p - 2147483648 - 2 ≡ num_at 4 s p - beside = omega arith in
          (rw (i, m) (u (λ z. omega arith)), u))

  tag_taken : (p e : ℕ) (k : Classes) (ts : List ℕ) → k.high < classes → TagsStand ts → IfOk (tag_at s rec p e k ts) (Taken p)
  unfolding tag_at
  tag_taken p e k ts l h =
      after_step (field_at 4 p e) _ (Taken p) (λ q i. by q (from_field 4 p e q i) (eqb (num_at 4 s p) 4294967295) refl)
    where
      by : (q : ℕ) → q ≡ p + 4 → (b : Bool) → eqb (num_at 4 s p) 4294967295 ≡ b
          → IfOk (pick b (named_tag s rec p q e k ts) (old_tag (num_at 4 s p) p q k ts)) (Taken p)
      by q j true i = new_taken p q e k ts l j (eqb-true _ _ i)
      by q j false i = old_taken p q k ts i h

  -- an object's head at p that was taken with the tags ts
  abbrev pub Kept : List ℕ → ℕ → Start → Type 0
  Kept ts p h = All (tag_stands s (new_tag_of s rec (p + 4)) h.class) × TagsStand (set ts h.class h.offset)

  pub head_kept : (p e : ℕ) (k : Classes) (ts : List ℕ) → k.high < classes → TagsStand ts → IfOk (head_at s rec p e k ts) (Kept ts p)
  unfolding head_at
  head_kept p e k ts l h =
      after_step (count_at s p e) _ (Kept ts p) (λ b i.
      after_step (tag_at s rec b.from b.close k ts) _ (Kept ts p) (λ t j.
      let u = IfOk-at_ok (Taken b.from) j (tag_taken b.from b.close k ts l h) in
      (rw (from_count s p e b i) at u.0, each_set Stands ts t.class t.offset u.1 h)))
