-- The rows of a partition and what their directories give, as a graph.
use Prim.Native.Nat.{ℕ, ◌+◌, ◌<◌}
use mathlib.Core.Bool.{Bool, true, false}
use mathlib.Core.List.{List, [], ◌∷◌}
use mathlib.Core.Logic.{inl, inr, ⊎_elim}
use mathlib.Core.Path.{◌≡◌, refl, sym, ap, ◌∙◌, subst}
use native.Mathlib.Omega.{arith}
use lib.ListN.{length, get_or}
use Rattle.wire.specs.Check.{All, pick}
use Rattle.wire.specs.Number.{num_at}
use Rattle.key.specs.Piece.{piece_at}
use Rattle.key.specs.declared.header.Key.{Key}
use Rattle.directory.specs.Dir.{no_keys}
use Rattle.directory.specs.declared.DirHead.{DirHead}
use Rattle.fileheader.specs.declared.FileHead.{FileHead}
use Rattle.keylist.specs.Keys.{span}
use Rattle.keylist.specs.declared.Data.{Data}
use Rattle.rules.specs.Entry.{dir_class}
use Rattle.rules.specs.Partition.{Partition}
use Rattle.rules.specs.Row.{starts}
use Rattle.rules.specs.Rules.{Iff, Copies, Entries, Filled}
use Rattle.rules.specs.Turn.{row_of, listed_mark, first_part}
use Rattle.rules.proofs.Fixed.{Place, head, free, info, gap, other, place}
use Rattle.rules.proofs.Graph.{Graph, Given, Early}
use Rattle.rules.proofs.Items.{Item, item, Has}
use Rattle.rules.proofs.Partitions.{above, rises}
use Rattle.rules.proofs.Places.{row_in}
use Rattle.rules.proofs.Runs.{Said, Gives, copied}

-- the parts before the first directory
module _ (s : List ℕ) (h : FileHead) (q : ℕ) where
  early_at : Place s h q → Early (first_part s h q)
  early_at (head a b) = inr (inl b)
  early_at (free x a b) = inr (inr (inr (inl b)))
  early_at (info x y a b) = inr (inr (inr (inr b)))
  early_at (gap x y z a b) = inr (inr (inl b))
  early_at (other x y z a b) = inl b

  pub first_early : Early (first_part s h q)
  first_early = early_at (place s h q)

  pub head_at : Place s h q → Iff (first_part s h q ≡ 9) (q ≡ 100)
  head_at (head a b) = (λ e. a, λ e. b)
  head_at (free x a b) = (λ e. absurd (omega arith), λ e. absurd (x e))
  head_at (info x y a b) = (λ e. absurd (omega arith), λ e. absurd (x e))
  head_at (gap x y z a b) = (λ e. absurd (omega arith), λ e. absurd (x e))
  head_at (other x y z a b) = (λ e. absurd (omega arith), λ e. absurd (x e))

-- one list of copies
pub one_list : (s : List ℕ) (end c : ℕ) (ks ls : List Key) → length ks ≡ length ls → Copies s end c ks → Copies s end c ls → ks ≡ ls
one_list s end c [] [] e h g = refl
one_list s end c [] (l ∷ ls) e h g = absurd (omega arith)
one_list s end c (k ∷ ks) [] e h g = absurd (omega arith)
one_list s end c (k ∷ ks) (l ∷ ls) e h g =
    let x = h.0 in
    let y = g.0 in
    let f : k ≡ l = cc in
    let r = one_list s end (c + k.keylen) ks ls (omega arith) h.1 (subst (λ (m : Key). Copies s end (c + m.keylen) ls) (sym f) g.1) in
    cc

module _ (s qs : List ℕ) (zero-free : starts qs 0 ≡ true → ⊥) (d : ℕ) where
  not_both : {A : Type 0} (dh : DirHead) (ks : List Key) → All (no_keys dh) → Filled s qs d dh ks → A
  not_both dh ks n f = absurd (zero-free (subst (λ (p : ℕ). starts qs p ≡ true) n.0 f.place))

  -- one filling
  pub same_keys : (dh : DirHead) (ks ls : List Key) → Filled s qs d dh ks → Filled s qs d dh ls → ks ≡ ls
  same_keys dh ks ls f g =
      let x : span g.from g.end ≡ span f.from f.end = let y = sym g.held ∙ f.held in cc in
      let a : g.from ≡ f.from = ap (λ (l : Data). l.from) x in
      let b : g.end ≡ f.end = ap (λ (l : Data). l.end) x in
      one_list s f.end (f.from + 4) ks ls (f.count ∙ sym (g.count ∙ ap (λ (p : ℕ). num_at 4 s p) a)) f.copies
      (subst (λ (e : ℕ). Copies s e (f.from + 4) ls) b (subst (λ (p : ℕ). Copies s g.end (p + 4) ls) a g.copies))

  pub one_gift : (dh : DirHead) (ks ls : List Key) (its jts : List Item) → Gives s qs d dh ks its → Gives s qs d dh ls jts → its ≡ jts
  one_gift dh ks ls its jts a b =
      ⊎_elim
      (λ (x : All (no_keys dh) × ((ks ≡ []) × (its ≡ []))). ⊎_elim
      (λ (y : All (no_keys dh) × ((ls ≡ []) × (jts ≡ []))). x.1.1 ∙ sym y.1.1)
      (λ (y : Filled s qs d dh ls × (jts ≡ item (row_of qs dh.seekkeys) 4 ∷ copied s qs ls)). not_both dh ls x.0 y.0)
      b)
      (λ (x : Filled s qs d dh ks × (its ≡ item (row_of qs dh.seekkeys) 4 ∷ copied s qs ks)). ⊎_elim
      (λ (y : All (no_keys dh) × ((ls ≡ []) × (jts ≡ []))). not_both dh ks y.0 x.0)
      (λ (y : Filled s qs d dh ls × (jts ≡ item (row_of qs dh.seekkeys) 4 ∷ copied s qs ls)).
      x.1 ∙ ap (λ (ms : List Key). item (row_of qs dh.seekkeys) 4 ∷ copied s qs ms) (same_keys dh ks ls x.0 y.0) ∙ sym y.1)
      b)
      a

marks : (s : List ℕ) (p : ℕ) → Given (listed_mark s p)
unfolding listed_mark
marks s p = go (dir_class s (piece_at s p))
  where
    go : (b : Bool) → Given (pick {A = ℕ} b 14 5)
    go true = inr (inr refl)
    go false = inr (inl refl)

-- the rows that are given stand in the partition
copied_within : (s qs : List ℕ) (d c : ℕ) (ks : List Key) → Entries s qs d c ks → (i m : ℕ) → Has i m (copied s qs ks)
    → (i < length qs) × Given m
copied_within s qs d c [] e i m h = absurd h
copied_within s qs d c (k ∷ ks) e i m h =
    ⊎_elim
    (λ (x : (i ≡ row_of qs k.seekkey) × (m ≡ listed_mark s k.seekkey)).
    let r = row_in qs k.seekkey e.0.0 in
    (subst (λ (y : ℕ). y < length qs) (sym x.0) r.0, subst Given (sym x.1) (marks s k.seekkey)))
    (copied_within s qs d (c + k.keylen) ks e.1 i m)
    h

gift_within : (s qs : List ℕ) (d : ℕ) (dh : DirHead) (ks : List Key) (its : List Item) → Gives s qs d dh ks its → (i m : ℕ) → Has i m its
    → (i < length qs) × Given m
gift_within s qs d dh ks its g i m h =
    ⊎_elim
    (λ (x : All (no_keys dh) × ((ks ≡ []) × (its ≡ []))). absurd (subst (Has i m) x.1.1 h))
    (λ (x : Filled s qs d dh ks × (its ≡ item (row_of qs dh.seekkeys) 4 ∷ copied s qs ks)). ⊎_elim
    (λ (y : (i ≡ row_of qs dh.seekkeys) × (m ≡ 4)).
    (subst (λ (z : ℕ). z < length qs) (sym y.0) (row_in qs dh.seekkeys x.0.place).0, inl y.1))
    (copied_within s qs d (x.0.from + 4) ks x.0.entries i m)
    (subst (Has i m) x.1 h))
    g

pub zero_place : (s qs : List ℕ) (e : ℕ) → Partition s 100 e qs → starts qs 0 ≡ true → ⊥
zero_place s qs e h x = let r = row_in qs 0 x in omega (arith, above s 100 qs e h (row_of qs 0) r.0)

module _ (s : List ℕ) (h : FileHead) (qs : List ℕ) (p : Partition s 100 (length s) qs) where
  pub one_said : (j o : ℕ) (its jts : List Item) → Said s qs h j o its → Said s qs h j o jts → its ≡ jts
  one_said j o its jts a b =
      let x = a.header in
      let y = b.header in
      let e : b.dirhead ≡ a.dirhead = cc in
      one_gift s qs (zero_place s qs (length s) p) (get_or qs j 0) a.dirhead a.keys b.keys its jts a.items
      (subst (λ (dh : DirHead). Gives s qs (get_or qs j 0) dh b.keys jts) e b.items)

  pub said_within : (j o i m : ℕ) (its : List Item) → Said s qs h j o its → Has i m its → (i < length qs) × Given m
  said_within j o i m its a k = gift_within s qs (get_or qs j 0) a.dirhead a.keys its a.items i m k

  pub below_first : (i : ℕ) → i < length qs → 0 < get_or qs i 0
  below_first i l = omega (arith, above s 100 qs (length s) p i l)

  unfoldable pub graph : Graph qs
  graph = record {
    rising = rises s 100 qs (length s) p;
    positive = λ i l. below_first i l;
    base = λ i. first_part s h (get_or qs i 0);
    early = λ i l. first_early s h (get_or qs i 0);
    head = λ i l e. (head_at s h (get_or qs i 0) (place s h (get_or qs i 0))).0 e;
    first = λ i l e. (head_at s h (get_or qs i 0) (place s h (get_or qs i 0))).1 e;
    Says = λ j o its. Said s qs h j o its;
    unique = one_said;
    within = said_within;
  }
