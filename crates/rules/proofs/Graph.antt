-- The directories as a graph over rows: what holds of the parts and owners given so far, and that it holds after each directory.
use Prim.Native.Nat.{ℕ, ◌-◌, ◌<◌, ◌≤◌}
use mathlib.Core.List.{List}
use mathlib.Core.Logic.{◌⊎◌, inl, inr, ⊎_elim}
use mathlib.Core.Path.{◌≡◌, refl, sym, ap, ◌∙◌, subst}
use native.Mathlib.Omega.{arith}
use lib.ListN.{length, get_or, set, length-set}
use lib.Dec.{leb}
use lib.Seq.{get_or-set_same, get_or-set_other}
use borrow.Author.Tests.{le-leb, lt-leb}
use Rattle.wire.specs.Check.{pick}
use Rattle.wire.proofs.Checks.{below_or}
use Rattle.table.specs.Table.{Rising}
use Rattle.rules.specs.Rules.{Directory, Leads, root, up}
use Rattle.rules.proofs.Items.{Item, Has, Fresh, Assigned, same?, has?}

-- the part that a row has when all is done
unfoldable pub final : ℕ → ℕ
final k = pick (leb 8 k) (k - 8) k

pub final_low : (k : ℕ) → k < 8 → final k ≡ k
unfolding final
final_low k l = rw (lt-leb 8 k l)

pub final_high : (k : ℕ) → 8 ≤ k → final k ≡ k - 8
unfolding final
final_high k l = rw (le-leb 8 k l)

-- parts that a directory gives, and parts before the first directory
abbrev pub Given : ℕ → Type 0
Given m = (m ≡ 4) ⊎ ((m ≡ 5) ⊎ (m ≡ 14))

abbrev pub Early : ℕ → Type 0
Early k = (k ≡ 7) ⊎ ((k ≡ 9) ⊎ ((k ≡ 0) ⊎ ((k ≡ 2) ⊎ (k ≡ 3))))

given_final : (m : ℕ) → Given m → (4 ≤ final m) × (final m ≤ 6)
given_final m =
    ⊎_elim
    (λ (e : m ≡ 4). omega (arith, e, final_low m (omega arith)))
    (⊎_elim (λ (e : m ≡ 5). omega (arith, e, final_low m (omega arith))) (λ (e : m ≡ 14). omega (arith, e, final_high m (omega arith))))

pub given_not : (m : ℕ) → Given m → (m ≡ 7 → ⊥) × (Directory m → ⊥)
given_not m h =
    ⊎_elim
    (λ (e : m ≡ 4). (λ x. omega arith, ⊎_elim (λ (y : m ≡ 1). omega arith) (λ (y : m ≡ 6). omega arith)))
    (⊎_elim
    (λ (e : m ≡ 5). (λ x. omega arith, ⊎_elim (λ (y : m ≡ 1). omega arith) (λ (y : m ≡ 6). omega arith)))
    (λ (e : m ≡ 14). (λ x. omega arith, ⊎_elim (λ (y : m ≡ 1). omega arith) (λ (y : m ≡ 6). omega arith))))
    h

given_mark : (m : ℕ) → Given m → 8 ≤ m → m ≡ 14
given_mark m h l =
    ⊎_elim (λ (e : m ≡ 4). absurd (omega arith)) (⊎_elim (λ (e : m ≡ 5). absurd (omega arith)) (λ (e : m ≡ 14). e)) h

final_seven : (k : ℕ) → k ≡ 7 → final k ≡ 7
final_seven k e = final_low k (omega arith) ∙ e

-- a part that is given, when all is done, is not 7
given_seven : (k m : ℕ) → Given m → final k ≡ final m → k ≡ 7 → ⊥
given_seven k m h e z = omega (arith, given_final m h, final_seven k z)

early_seven : (k b : ℕ) → Early b → (b ≡ 7 → ⊥) → final k ≡ final b → k ≡ 7 → ⊥
early_seven k b h n e z =
    let f = final_seven k z in
    ⊎_elim n
    (⊎_elim
    (λ (x : b ≡ 9). omega (arith, final_high b (omega arith)))
    (⊎_elim
    (λ (x : b ≡ 0). omega (arith, final_low b (omega arith)))
    (⊎_elim (λ (x : b ≡ 2). omega (arith, final_low b (omega arith))) (λ (x : b ≡ 3). omega (arith, final_low b (omega arith))))))
    h

pub directory_low : (k : ℕ) → Directory k → (k < 8) × (k ≡ 7 → ⊥)
directory_low k = ⊎_elim (λ (e : k ≡ 1). (omega arith, λ x. omega arith)) (λ (e : k ≡ 6). (omega arith, λ x. omega arith))

-- rows of a partition, their parts before the first directory, and what the directory in row j, listed by the one at o, gives
pub record Graph (qs : List ℕ) : Type 1 where
  pub rising : Rising qs (length qs)
  pub positive : (i : ℕ) → i < length qs → 0 < get_or qs i 0
  pub base : ℕ → ℕ
  pub early : (i : ℕ) → i < length qs → Early (base i)
  pub head : (i : ℕ) → i < length qs → base i ≡ 9 → get_or qs i 0 ≡ 100
  pub first : (i : ℕ) → i < length qs → get_or qs i 0 ≡ 100 → base i ≡ 9
  pub Says : ℕ → ℕ → List Item → Type 0
  pub unique : (j o : ℕ) (its jts : List Item) → Says j o its → Says j o jts → its ≡ jts
  pub within : (j o i m : ℕ) (its : List Item) → Says j o its → Has i m its → (i < length qs) × Given m

pub one_row : (qs : List ℕ) → Rising qs (length qs) → (i j : ℕ) → i < length qs → j < length qs → get_or qs i 0 ≡ get_or qs j 0 → i ≡ j
one_row qs h i j l k e =
    ⊎_elim
    (λ (f : i < j). absurd (omega (arith, h i j f k)))
    (λ (f : j ≤ i). ⊎_elim (λ (g : j < i). absurd (omega (arith, h j i g l))) (λ (g : i ≤ j). omega arith) (below_or j i))
    (below_or i j)

module _ (qs : List ℕ) (g : Graph qs) where
  -- a row that was given a part: by a directory that is done
  pub record Back (ps os : List ℕ) (i : ℕ) : Type 0 where
    pub row : ℕ
    pub inside : row < length qs
    pub part : Directory (get_or ps row 0)
    pub owner : get_or os i 0 ≡ get_or qs row 0
    pub items : List Item
    pub says : g.Says row (get_or os row 0) items
    pub mark : ℕ
    pub has : Has i mark items
    pub same : final (get_or ps i 0) ≡ final mark

  -- a directory that is done: each row that it gives has that part and its place as owner
  pub record Done (ps os : List ℕ) (j : ℕ) : Type 0 where
    pub items : List Item
    pub says : g.Says j (get_or os j 0) items
    pub fresh : Fresh items
    pub kids : (i m : ℕ) → Has i m items → (g.base i ≡ 7) × ((final (get_or ps i 0) ≡ final m) × (get_or os i 0 ≡ get_or qs j 0))

  pub record State (ps os : List ℕ) : Type 0 where
    pub parts : length ps ≡ length qs
    pub owners : length os ≡ length qs
    pub fixed : (i : ℕ) → i < length qs → (g.base i ≡ 7 → ⊥) → (final (get_or ps i 0) ≡ final (g.base i)) × (get_or os i 0 ≡ 0)
    pub alone : (i : ℕ) → i < length qs → get_or ps i 0 ≡ 7 → get_or os i 0 ≡ 0
    pub back : (i : ℕ) → i < length qs → g.base i ≡ 7 → (get_or ps i 0 ≡ 7 → ⊥) → Back ps os i
    pub done : (j : ℕ) → j < length qs → Directory (get_or ps j 0) → Done ps os j
    pub shape : (i : ℕ) → i < length qs → 8 ≤ get_or ps i 0 → (get_or ps i 0 ≡ 9) ⊎ (get_or ps i 0 ≡ 14)
    pub leads : (i : ℕ) → i < length qs → g.base i ≡ 7 → (get_or ps i 0 ≡ 7 → ⊥) → Leads qs os (get_or qs i 0)

  nowhere : {os : List ℕ} {p : ℕ} → p ≡ 0 → Leads qs os p → ⊥
  nowhere e (root f) = omega arith
  nowhere e (up i l f r) = omega (arith, g.positive i l)

  -- a row with no part had none before the first directory
  module _ (ps os : List ℕ) (v : State ps os) where
    pub was_free : (i : ℕ) → i < length qs → get_or ps i 0 ≡ 7 → g.base i ≡ 7
    was_free i l e =
        ⊎_elim
        (λ (f : g.base i ≡ 7). f)
        (λ (f : g.base i ≡ 7 → ⊥). absurd (early_seven (get_or ps i 0) (g.base i) (g.early i l) f (v.fixed i l f).0 e))
        (same? (g.base i) 7)

    -- one directory is done: row j, found before, gives its items
    module _ (us vs : List ℕ) (j : ℕ) (l : j < length qs) (todo : 8 ≤ get_or ps j 0) (its : List Item)
        (says : g.Says j (get_or os j 0) its) (a : Assigned (get_or qs j 0) its ps os us vs) where
      abbrev ws : List ℕ
      ws = set us j (get_or ps j 0 - 8)

      inside : j < length us
      inside = omega (arith, a.parts, v.parts)

      not_j : (i m : ℕ) → Has i m its → i ≡ j → ⊥
      not_j i m h e = let x = ap (λ (r : ℕ). get_or ps r 0) e in omega (arith, a.free i m h)

      at_j : get_or ws j 0 ≡ get_or ps j 0 - 8
      at_j = get_or-set_same us j (get_or ps j 0 - 8) 0 inside

      off_j : (i : ℕ) → (i ≡ j → ⊥) → get_or ws i 0 ≡ get_or us i 0
      off_j i h = get_or-set_other us j i (get_or ps j 0 - 8) 0 h

      now_done : Directory (get_or ws j 0)
      now_done =
          ⊎_elim
          (λ (e : get_or ps j 0 ≡ 9). inl (at_j ∙ ap (λ (k : ℕ). k - 8) e))
          (λ (e : get_or ps j 0 ≡ 14). inr (at_j ∙ ap (λ (k : ℕ). k - 8) e))
          (v.shape j l todo)

      absent : (i : ℕ) → (get_or ps i 0 ≡ 7 → ⊥) → (m : ℕ) → Has i m its → ⊥
      absent i h m k = h (a.free i m k)

      -- rows that had a part keep it
      pub kept : (i : ℕ) → (get_or ps i 0 ≡ 7 → ⊥) → (final (get_or ws i 0) ≡ final (get_or ps i 0)) × (get_or vs i 0 ≡ get_or os i 0)
      kept i h = (
        ⊎_elim
            (λ (e : i ≡ j).
            ap (λ (r : ℕ). final (get_or ws r 0)) e ∙ ap final at_j ∙ final_low (get_or ps j 0 - 8) low
            ∙ sym (ap (λ (r : ℕ). final (get_or ps r 0)) e ∙ final_high (get_or ps j 0) todo))
            (λ (e : i ≡ j → ⊥). ap final (off_j i e ∙ a.out_part i (absent i h)))
            (same? i j),
        a.out_owner i (absent i h),
      )
        where
          low : get_or ps j 0 - 8 < 8
          low = ⊎_elim (λ (e : get_or ps j 0 ≡ 9). omega arith) (λ (e : get_or ps j 0 ≡ 14). omega arith) (v.shape j l todo)

      pub given : (i m : ℕ) → Has i m its → get_or ws i 0 ≡ m
      given i m h = off_j i (not_j i m h) ∙ a.in_part i m h

      -- a row that has a part and is not given one had it
      pub had : (i : ℕ) → ((m : ℕ) → Has i m its → ⊥) → (get_or ws i 0 ≡ 7 → ⊥) → get_or ps i 0 ≡ 7 → ⊥
      had i h n e =
          ⊎_elim
          (λ (f : i ≡ j). let x = ap (λ (r : ℕ). get_or ps r 0) f in omega arith)
          (λ (f : i ≡ j → ⊥). n (off_j i f ∙ a.out_part i h ∙ e))
          (same? i j)

      parent : get_or vs j 0 ≡ get_or os j 0
      parent = (kept j (λ e. omega arith)).1

      was_done : (c : ℕ) → c < length qs → Directory (get_or ws c 0) → (c ≡ j) ⊎ Directory (get_or ps c 0)
      was_done c k h =
          ⊎_elim
          (λ (e : c ≡ j). inl e)
          (λ (e : c ≡ j → ⊥).
          ⊎_elim
          (λ (x : (m : ℕ) × Has c m its).
          absurd ((given_not x.0 (g.within j (get_or os j 0) c x.0 its says x.1).1).1 (subst Directory (given c x.0 x.1) h)))
          (λ (x : (m : ℕ) → Has c m its → ⊥). inr (subst Directory (off_j c e ∙ a.out_part c x) h))
          (has? c its))
          (same? c j)

      pub still_done : (c : ℕ) → Directory (get_or ps c 0) → Directory (get_or ws c 0) × (get_or vs c 0 ≡ get_or os c 0)
      still_done c h =
          let d = directory_low (get_or ps c 0) h in (
            subst Directory
                (sym (off_j c (λ e. let x = ap (λ (r : ℕ). get_or ps r 0) e in omega arith) ∙ a.out_part c (absent c d.1)))
                h,
            (kept c d.1).1,
          )

      lead : {p : ℕ} (i : ℕ) → i < length qs → get_or qs i 0 ≡ p → (get_or ps i 0 ≡ 7 → ⊥) → Leads qs os p → Leads qs vs p
      lead i h e n (root f) = root f
      lead i h e n (up k m f r) =
          let s = one_row qs g.rising i k h m (e ∙ sym f) in
          let z = subst (λ (x : ℕ). get_or ps x 0 ≡ 7 → ⊥) s n in
          ⊎_elim
          (λ (b : g.base k ≡ 7).
          let w = v.back k m b z in
          let t = lead w.row w.inside (sym w.owner) (directory_low (get_or ps w.row 0) w.part).1 r in
          up k m f (subst (Leads qs vs) (sym (kept k z).1) t))
          (λ (b : g.base k ≡ 7 → ⊥). absurd (nowhere (v.fixed k m b).1 r))
          (same? (g.base k) 7)

      -- from row j the owners lead to 100
      lead_j : Leads qs vs (get_or qs j 0)
      lead_j =
          ⊎_elim
          (λ (b : g.base j ≡ 7). lead j l refl (λ e. omega arith) (v.leads j l b (λ e. omega arith)))
          (λ (b : g.base j ≡ 7 → ⊥). root (is_head b))
          (same? (g.base j) 7)
        where
          clash : (g.base j ≡ 7 → ⊥) → g.base j < 4 → (g.base j ≡ 1 → ⊥) → ⊥
          clash b m n =
              let f = (v.fixed j l b).0 in
              let k = final_high (get_or ps j 0) todo in
              let o = final_low (g.base j) (omega arith) in
              ⊎_elim (λ (s : get_or ps j 0 ≡ 9). n (omega arith)) (λ (s : get_or ps j 0 ≡ 14). omega arith) (v.shape j l todo)

          is_head : (g.base j ≡ 7 → ⊥) → get_or qs j 0 ≡ 100
          is_head b =
              ⊎_elim
              (λ (x : g.base j ≡ 7). absurd (b x))
              (⊎_elim
              (λ (x : g.base j ≡ 9). g.head j l x)
              (⊎_elim
              (λ (x : g.base j ≡ 0). absurd (clash b (omega arith) (λ y. omega arith)))
              (⊎_elim
              (λ (x : g.base j ≡ 2). absurd (clash b (omega arith) (λ y. omega arith)))
              (λ (x : g.base j ≡ 3). absurd (clash b (omega arith) (λ y. omega arith))))))
              (g.early j l)

      -- the state when it is done
      pub stepped : State (set us j (get_or ps j 0 - 8)) vs
      stepped = record {
        parts = length-set us j (get_or ps j 0 - 8) ∙ a.parts ∙ v.parts;
        owners = a.owners ∙ v.owners;
        fixed = λ i h b.
            let n : get_or ps i 0 ≡ 7 → ⊥ = λ e. b (was_free i h e) in
            ((kept i n).0 ∙ (v.fixed i h b).0, (kept i n).1 ∙ (v.fixed i h b).1);
        alone = λ i h e. ⊎_elim
            (λ (x : (m : ℕ) × Has i m its). absurd ((given_not x.0 (gives i x.0 x.1)).0 (sym (given i x.0 x.1) ∙ e)))
            (λ (x : (m : ℕ) → Has i m its → ⊥). a.out_owner i x ∙ v.alone i h (free_then i x e))
            (has? i its);
        back = λ i h b n. ⊎_elim
            (λ (x : (m : ℕ) × Has i m its). record {
              row = j;
              inside = l;
              part = now_done;
              owner = a.in_owner i x.0 x.1;
              items = its;
              says = subst (λ (o : ℕ). g.Says j o its) (sym parent) says;
              mark = x.0;
              has = x.1;
              same = ap final (given i x.0 x.1);
            })
            (λ (x : (m : ℕ) → Has i m its → ⊥).
            let y = had i x n in
            let w = v.back i h b y in
            let d = still_done w.row w.part in
            record {
              row = w.row;
              inside = w.inside;
              part = d.0;
              owner = (kept i y).1 ∙ w.owner;
              items = w.items;
              says = subst (λ (o : ℕ). g.Says w.row o w.items) (sym d.1) w.says;
              mark = w.mark;
              has = w.has;
              same = (kept i y).0 ∙ w.same;
            })
            (has? i its);
        done = λ c h d. ⊎_elim
            (λ (e : c ≡ j). subst (Done ws vs) (sym e) (record {
              items = its;
              says = subst (λ (o : ℕ). g.Says j o its) (sym parent) says;
              fresh = a.fresh;
              kids = λ i m k. (
                was_free i (g.within j (get_or os j 0) i m its says k).0 (a.free i m k),
                (ap final (given i m k), a.in_owner i m k),
              );
            }))
            (λ (e : Directory (get_or ps c 0)).
            let w = v.done c h e in
            let d = still_done c e in
            record {
              items = w.items;
              says = subst (λ (o : ℕ). g.Says c o w.items) (sym d.1) w.says;
              fresh = w.fresh;
              kids = λ i m k.
                  let x = w.kids i m k in
                  let n = given_seven (get_or ps i 0) m (g.within c (get_or os c 0) i m w.items w.says k).1 x.1.0 in
                  (x.0, ((kept i n).0 ∙ x.1.0, (kept i n).1 ∙ x.1.1));
            })
            (was_done c h d);
        shape = λ i h k. ⊎_elim
            (λ (x : (m : ℕ) × Has i m its). inr
            (given i x.0 x.1 ∙ given_mark x.0 (gives i x.0 x.1) (subst (λ (y : ℕ). 8 ≤ y) (given i x.0 x.1) k)))
            (λ (x : (m : ℕ) → Has i m its → ⊥). old_mark i h x k)
            (has? i its);
        leads = λ i h b n. ⊎_elim
            (λ (x : (m : ℕ) × Has i m its). up i h refl (subst (Leads qs vs) (sym (a.in_owner i x.0 x.1)) lead_j))
            (λ (x : (m : ℕ) → Has i m its → ⊥). let y = had i x n in lead i h refl y (v.leads i h b y))
            (has? i its);
      }
        where
          gives : (i m : ℕ) → Has i m its → Given m
          gives i m k = (g.within j (get_or os j 0) i m its says k).1

          free_then : (i : ℕ) → ((m : ℕ) → Has i m its → ⊥) → get_or ws i 0 ≡ 7 → get_or ps i 0 ≡ 7
          free_then i x e =
              ⊎_elim
              (λ (f : i ≡ j). absurd ((directory_low (get_or ws j 0) now_done).1 (ap (λ (r : ℕ). get_or ws r 0) (sym f) ∙ e)))
              (λ (f : i ≡ j → ⊥). sym (off_j i f ∙ a.out_part i x) ∙ e)
              (same? i j)

          old_mark : (i : ℕ) → i < length qs → ((m : ℕ) → Has i m its → ⊥) → 8 ≤ get_or ws i 0 → (get_or ws i 0 ≡ 9) ⊎ (get_or ws i 0 ≡ 14)
          old_mark i h x k =
              ⊎_elim
              (λ (f : i ≡ j). let y = ap (λ (r : ℕ). get_or ws r 0) f in absurd (omega (arith, (directory_low (get_or ws j 0) now_done).0)))
              (λ (f : i ≡ j → ⊥).
              let e = off_j i f ∙ a.out_part i x in
              subst (λ (y : ℕ). (y ≡ 9) ⊎ (y ≡ 14)) (sym e) (v.shape i h (subst (λ (y : ℕ). 8 ≤ y) e k)))
              (same? i j)
