-- What a directory gives: rows with their parts, and the tables after they were given.
use Prim.Native.Nat.{ℕ, ◌<◌}
use mathlib.Core.List.{List, [], ◌∷◌}
use mathlib.Core.Logic.{◌⊎◌, inl, inr, ⊎_elim}
use mathlib.Core.Path.{◌≡◌, refl, sym, ap, ◌∙◌, subst}
use native.Mathlib.Decide.{ℕ_discrete}
use lib.ListN.{length, get_or, set, length-set}
use lib.Seq.{get_or-set_same, get_or-set_other}

pub data Item : Type 0 where
  item : ℕ → ℕ → Item

-- row i is given part m
abbrev pub Has : ℕ → ℕ → List Item → Type 0
Has i m [] = ⊥
Has i m (item j x ∷ its) = ((i ≡ j) × (m ≡ x)) ⊎ Has i m its

-- no row is given twice
abbrev pub Fresh : List Item → Type 0
Fresh [] = Unit
Fresh (item j x ∷ its) = ((m : ℕ) → Has j m its → ⊥) × Fresh its

pub same? : (i j : ℕ) → (i ≡ j) ⊎ (i ≡ j → ⊥)
same? i j = elim (ℕ_discrete i j) [ yes e ↦ inl e | no e ↦ inr e ]

abbrev Some : ℕ → List Item → Type 0
Some i its = (m : ℕ) × Has i m its

abbrev None : ℕ → List Item → Type 0
None i its = (m : ℕ) → Has i m its → ⊥

pub has? : (i : ℕ) (its : List Item) → ((m : ℕ) × Has i m its) ⊎ ((m : ℕ) → Has i m its → ⊥)
has? i [] = inr (λ m x. x)
has? i (item j x ∷ its) =
    ⊎_elim
    (λ (e : i ≡ j). inl (x, inl (e, refl)))
    (λ (e : i ≡ j → ⊥).
    ⊎_elim
    (λ (h : Some i its). inl (h.0, inr h.1))
    (λ (h : None i its). inr (λ m. ⊎_elim (λ (y : (i ≡ j) × (m ≡ x)). e y.0) (h m)))
    (has? i its))
    (same? i j)

-- the rows are given, one after the other; each had no part
abbrev pub Assign : ℕ → List Item → List ℕ → List ℕ → List ℕ → List ℕ → Type 0
Assign d [] ps os us vs = (us ≡ ps) × (vs ≡ os)
Assign d (item i m ∷ its) ps os us vs = (get_or ps i 0 ≡ 7) × Assign d its (set ps i m) (set os i d) us vs

pub record Assigned (d : ℕ) (its : List Item) (ps os us vs : List ℕ) : Type 0 where
  pub parts : length us ≡ length ps
  pub owners : length vs ≡ length os
  pub free : (i m : ℕ) → Has i m its → get_or ps i 0 ≡ 7
  pub fresh : Fresh its
  pub in_part : (i m : ℕ) → Has i m its → get_or us i 0 ≡ m
  pub in_owner : (i m : ℕ) → Has i m its → get_or vs i 0 ≡ d
  pub out_part : (i : ℕ) → ((m : ℕ) → Has i m its → ⊥) → get_or us i 0 ≡ get_or ps i 0
  pub out_owner : (i : ℕ) → ((m : ℕ) → Has i m its → ⊥) → get_or vs i 0 ≡ get_or os i 0

none : (d : ℕ) (ps os us vs : List ℕ) → (us ≡ ps) × (vs ≡ os) → Assigned d [] ps os us vs
none d ps os us vs e = record {
  parts = ap length e.0;
  owners = ap length e.1;
  free = λ i m x. absurd x;
  fresh = tt;
  in_part = λ i m x. absurd x;
  in_owner = λ i m x. absurd x;
  out_part = λ i k. ap (λ (t : List ℕ). get_or t i 0) e.0;
  out_owner = λ i k. ap (λ (t : List ℕ). get_or t i 0) e.1;
}

-- rows that stand in the tables, and parts that are not 7
abbrev pub Proper : List Item → ℕ → ℕ → Type 0
Proper its n m = (i k : ℕ) → Has i k its → (i < n) × ((i < m) × (k ≡ 7 → ⊥))

module _ (d i m : ℕ) (its : List Item) (ps os us vs : List ℕ) (l : i < length ps) (k : i < length os) (z : m ≡ 7 → ⊥)
    (e : get_or ps i 0 ≡ 7) (h : Assigned d its (set ps i m) (set os i d) us vs) where
  new : (x : ℕ) → Has i x its → ⊥
  new x y = z (sym (get_or-set_same ps i m 0 l) ∙ h.free i x y)

  other : (j x : ℕ) → Has j x its → j ≡ i → ⊥
  other j x y f = new x (subst (λ (r : ℕ). Has r x its) f y)

  one : Assigned d (item i m ∷ its) ps os us vs
  one = record {
    parts = h.parts ∙ length-set ps i m;
    owners = h.owners ∙ length-set os i d;
    free = λ j x. ⊎_elim
        (λ (f : (j ≡ i) × (x ≡ m)). ap (λ (r : ℕ). get_or ps r 0) f.0 ∙ e)
        (λ (y : Has j x its). sym (get_or-set_other ps i j m 0 (other j x y)) ∙ h.free j x y);
    fresh = (new, h.fresh);
    in_part = λ j x. ⊎_elim
        (λ (f : (j ≡ i) × (x ≡ m)). ap (λ (r : ℕ). get_or us r 0) f.0 ∙ h.out_part i new ∙ get_or-set_same ps i m 0 l ∙ sym f.1)
        (λ (y : Has j x its). h.in_part j x y);
    in_owner = λ j x. ⊎_elim
        (λ (f : (j ≡ i) × (x ≡ m)). ap (λ (r : ℕ). get_or vs r 0) f.0 ∙ h.out_owner i new ∙ get_or-set_same os i d 0 k)
        (λ (y : Has j x its). h.in_owner j x y);
    out_part = λ j y. h.out_part j (λ x w. y x (inr w)) ∙ get_or-set_other ps i j m 0 (λ f. y m (inl (f, refl)));
    out_owner = λ j y. h.out_owner j (λ x w. y x (inr w)) ∙ get_or-set_other os i j d 0 (λ f. y m (inl (f, refl)));
  }

pub assigned : (d : ℕ) (its : List Item) (ps os us vs : List ℕ) → Proper its (length ps) (length os) → Assign d its ps os us vs
    → Assigned d its ps os us vs
assigned d [] ps os us vs b e = none d ps os us vs e
assigned d (item i m ∷ its) ps os us vs b e =
    let x = b i m (inl (refl, refl)) in
    one d i m its ps os us vs x.0 x.1.0 x.1.1 e.0
    (assigned d its (set ps i m) (set os i d) us vs (λ j y w. simp length-set (b j y (inr w))) e.1)

-- it goes through where every row is free and none comes twice
pub assigns : (d : ℕ) (its : List Item) (ps os : List ℕ) → ((i m : ℕ) → Has i m its → get_or ps i 0 ≡ 7) → Fresh its
    → (us : List ℕ) × (vs : List ℕ) × Assign d its ps os us vs
assigns d [] ps os h f = (ps, os, (refl, refl))
assigns d (item i m ∷ its) ps os h f =
    let r =
    assigns d its (set ps i m) (set os i d)
    (λ j x y. get_or-set_other ps i j m 0 (λ e. f.0 x (subst (λ (r : ℕ). Has r x its) e y)) ∙ h j x (inr y))
    f.1 in
    (r.0, r.1, (h i m (inl (refl, refl)), r.2))
