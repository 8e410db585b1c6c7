-- Laws of the tree: what a change of an entry does to it, and what its top tells.
use Prim.Native.Nat.{ℕ, zero, suc, ◌+◌, ◌-◌, ◌*◌, ◌/◌, ◌%◌, ◌≤◌, ◌<◌, max}
use mathlib.Core.List.{List, [], ◌∷◌}
use mathlib.Core.Logic.{◌⊎◌, inl, inr, ⊎_elim}
use mathlib.Core.Path.{◌≡◌, refl, sym, ap, ◌∙◌}
use native.Mathlib.Omega.{arith}
use lib.Dec.{leb}
use lib.ListN.{length, get_or, set, length-set, length-map, get_or-map, get_or-eq_default}
use lib.Seq.{get_or-set_same, get_or-set_other, map-set_same, ext_get_or}
use borrow.Author.Tests.{le-leb, lt-leb, lt-ltb, le-ltb}
use Rattle.wire.proofs.Checks.{below_or}
use Rattle.rules.specs.Turn.{next_row}
use Rattle.rules.proofs.Items.{same?}
use Rattle.rules.proofs.Rows.{next_row_at, next_row_none}
use Rattle.waiting.specs.Waiting.{part_in, parts_in, leaf, node, NodeAt, Tree}

-- the greater of two is one of them
max_from : (a b : ℕ) → (max a b ≡ a) ⊎ (max a b ≡ b)
max_from a b = ⊎_elim (λ (l : a < b). inr (omega arith)) (λ (l : b ≤ a). inl (omega arith)) (below_or a b)

-- parts of a table
pub part_at : (p : List ℕ) (i : ℕ) → get_or (parts_in p) i 0 ≡ get_or p i 0 % 16
part_at p i = get_or-map part_in p i 0

pub parts_size : (p : List ℕ) → length (parts_in p) ≡ length p
parts_size p = length-map p part_in

pub parts_set : (p : List ℕ) (i x : ℕ) → parts_in (set p i x) ≡ set (parts_in p) i (x % 16)
parts_set [] i x = refl
parts_set (a ∷ p) zero x = refl
parts_set (a ∷ p) (suc i) x = ap (λ (l : List ℕ). a % 16 ∷ l) (parts_set p i x)

-- nodes
module _ (p : List ℕ) where
  pub node_in : (i : ℕ) → i < length p → node p i ≡ get_or p i 0 / 16
  unfolding node
  node_in i l = rw (lt-ltb i (length p) l)

  node_out : (i : ℕ) → length p ≤ i → node p i ≡ leaf p (i - length p)
  unfolding node
  node_out i l = rw (le-ltb i (length p) l)

  pub node_waits : (i : ℕ) → length p ≤ i → 8 ≤ get_or p (i - length p) 0 % 16 → node p i ≡ length p - (i - length p)
  unfolding leaf
  node_waits i l h = node_out i l ∙ rw (le-leb 8 (get_or p (i - length p) 0 % 16) h)

  pub node_rests : (i : ℕ) → length p ≤ i → get_or p (i - length p) 0 % 16 < 8 → node p i ≡ 0
  unfolding leaf
  node_rests i l h = node_out i l ∙ rw (lt-leb 8 (get_or p (i - length p) 0 % 16) h)

  pub node_past : (i : ℕ) → length p ≤ i - length p → node p i ≡ 0
  node_past i l = node_rests i (omega arith) (rw (get_or-eq_default p 0 {n = i - length p} l) (omega arith))

pub ruleset nodes = (node_in, node_past, node_rests, node_waits)

-- a row waits or rests in both tables
abbrev Alike : ℕ → ℕ → Type 0
Alike a b = leb 8 (a % 16) ≡ leb 8 (b % 16)

node_same : (p q : List ℕ) (i : ℕ) → length q ≡ length p → (i < length p → get_or q i 0 / 16 ≡ get_or p i 0 / 16)
    → (length p ≤ i → Alike (get_or q (i - length p) 0) (get_or p (i - length p) 0)) → node q i ≡ node p i
unfolding leaf
node_same p q i e f g =
    ⊎_elim
    (λ (l : i < length p). node_in q i (omega arith) ∙ (f l ∙ sym (node_in p i l)))
    (λ (l : length p ≤ i). node_out q i (omega arith) ∙ (rw (e, g l) (sym (node_out p i l))))
    (below_or i (length p))

-- entry k is another
module _ (p : List ℕ) (k x : ℕ) (l : k < length p) where
  each : (P : ℕ → ℕ → Type 0) → P x (get_or p k 0) → ((i : ℕ) → P (get_or p i 0) (get_or p i 0)) → (i : ℕ)
      → P (get_or (set p k x) i 0) (get_or p i 0)
  each P h g i =
      ⊎_elim
      (λ (e : i ≡ k). rw (e, get_or-set_same p k x 0 l) h)
      (λ (n : i ≡ k → ⊥). rw (get_or-set_other p k i x 0 n) (g i))
      (same? i k)

  -- its node
  node_cell : x % 16 ≡ get_or p k 0 % 16 → (i : ℕ) → (i ≡ k → ⊥) → node (set p k x) i ≡ node p i
  node_cell e i n =
      node_same p (set p k x) i (length-set p k x) (λ _. rw (get_or-set_other p k i x 0 n))
      (λ _. each Alike (ap (leb 8) e) (λ j. refl) (i - length p))

  -- its part
  module _ (e : x / 16 ≡ get_or p k 0 / 16) where
    upper : (i : ℕ) → get_or (set p k x) i 0 / 16 ≡ get_or p i 0 / 16
    upper = each (λ a b. a / 16 ≡ b / 16) e (λ i. refl)

    node_row : (i : ℕ) → (i ≡ length p + k → ⊥) → node (set p k x) i ≡ node p i
    node_row i n =
        node_same p (set p k x) i (length-set p k x) (λ _. upper i)
        (λ m. rw (get_or-set_other p k (i - length p) x 0 (λ (z : i - length p ≡ k). n (omega arith))))

    pub row_changed : Tree p 0 → Tree (set p k x) ((length p + k) / 2)
    row_changed t = record {
      bare = omega (arith, upper 0, t.bare);
      nodes = λ i o w n.
          upper i
          ∙ (t.nodes i o (omega (arith, length-set p k x)) (λ z. omega arith)
          ∙ sym (rw (node_row (2 * i) (λ z. n (omega arith)), node_row (2 * i + 1) (λ z. n (omega arith)))));
    }

    -- it waits in neither table
    pub row_rests : x % 16 < 8 → get_or p k 0 % 16 < 8 → Tree p 0 → Tree (set p k x) 0
    row_rests g h t = record {
      bare = omega (arith, upper 0, t.bare);
      nodes = λ i o w n.
          upper i ∙ (t.nodes i o (omega (arith, length-set p k x)) n ∙ sym (rw (same (2 * i), same (2 * i + 1))));
    }
      where
        same : (i : ℕ) → node (set p k x) i ≡ node p i
        same i =
            node_same p (set p k x) i (length-set p k x) (λ _. upper i)
            (λ _. each Alike (lt-leb 8 (x % 16) g ∙ sym (lt-leb 8 (get_or p k 0 % 16) h)) (λ j. refl) (i - length p))

  pub node_mended : 0 < k → (v : ℕ) → v ≡ max (node p (2 * k)) (node p (2 * k + 1)) → x ≡ v * 16 + get_or p k 0 % 16 → Tree p k
      → Tree (set p k x) (k / 2)
  node_mended o v f e t =
      let s : x % 16 ≡ get_or p k 0 % 16 = omega arith in
      let d : x / 16 ≡ v = omega arith in
      record {
        bare = rw (get_or-set_other p k 0 x 0 (λ z. omega arith)) t.bare;
        nodes = λ i u w n.
            ⊎_elim
            (λ (z : i ≡ k).
            rw (z, get_or-set_same p k x 0 l, node_cell s (2 * k) (λ y. omega arith), node_cell s (2 * k + 1) (λ y. omega arith)) (d ∙ f))
            (λ (z : i ≡ k → ⊥).
            rw (get_or-set_other p k i x 0 z, node_cell s (2 * i) (λ y. n (omega arith)), node_cell s (2 * i + 1) (λ y. n (omega arith)))
            (t.nodes i u (omega (arith, length-set p k x)) z))
            (same? i k);
      }

pub tree_whole : (p : List ℕ) (k : ℕ) → get_or p k 0 / 16 ≡ max (node p (2 * k)) (node p (2 * k + 1)) → Tree p k → Tree p 0
tree_whole p k e t = record {
  bare = t.bare;
  nodes = λ i o w n. ⊎_elim (λ (z : i ≡ k). rw z e) (λ (z : i ≡ k → ⊥). t.nodes i o w z) (same? i k);
}

-- the node beside another, and both in either order
beside : (p : List ℕ) (i : ℕ) → 1 < i → max (node p i) (node p (i + 1 - i % 2 * 2)) ≡ max (node p (2 * (i / 2))) (node p (2 * (i / 2) + 1))
beside p i o =
    ⊎_elim
    (λ (z : i % 2 ≡ 0).
    let a : i ≡ 2 * (i / 2) = omega arith in
    let b : i + 1 - i % 2 * 2 ≡ 2 * (i / 2) + 1 = omega arith in
    λ j. max (node p (a j)) (node p (b j)))
    (λ (z : i % 2 ≡ 0 → ⊥).
    let a : i ≡ 2 * (i / 2) + 1 = omega arith in
    let b : i + 1 - i % 2 * 2 ≡ 2 * (i / 2) = omega arith in
    (λ j. max (node p (a j)) (node p (b j))) ∙ either_way (node p (2 * (i / 2) + 1)) (node p (2 * (i / 2))))
    (same? (i % 2) 0)
  where
    either_way : (a b : ℕ) → max a b ≡ max b a
    either_way a b = omega arith

-- while the tree is mended, from the hole above a node upward
pub record Climbing (p : List ℕ) (from : ℕ) (q : List ℕ) (i v : ℕ) : Type 0 where
  pub tree : Tree p (from / 2) → Tree q (i / 2)
  pub within : i / 2 < length q
  pub value : NodeAt q i v
  pub size : length q ≡ length p
  pub same : parts_in q ≡ parts_in p

pub climb_began : (p : List ℕ) (i v : ℕ) → (i / 2 < length p) × NodeAt p i v → Climbing p i p i v
climb_began p i v h = record { tree = λ t. t; within = h.0; value = h.1; size = refl; same = refl }

module _ {p : List ℕ} {from : ℕ} {q : List ℕ} {i v : ℕ} (c : Climbing p from q i v) (o : 1 < i) {b u : ℕ}
    (f : NodeAt q (i + 1 - i % 2 * 2) b) (g : u ≡ max v b) where
  mended : u ≡ max (node q (2 * (i / 2))) (node q (2 * (i / 2) + 1))
  mended = g ∙ rw (c.value.0, f.0) (beside q i o)

  pub climb_small : u < 1152921504606846976
  climb_small = omega (arith, g, c.value.1, f.1)

  pub climb_again : (x : ℕ) → x ≡ u * 16 + get_or q (i / 2) 0 % 16 → Climbing p from (set q (i / 2) x) (i / 2) u
  climb_again x e = record {
    tree = λ t. node_mended q (i / 2) x c.within (omega arith) u mended e (c.tree t);
    within = omega (arith, length-set q (i / 2) x, c.within);
    value = (
      sym (node_in (set q (i / 2) x) (i / 2) (omega (arith, length-set q (i / 2) x, c.within))
          ∙ rw (get_or-set_same q (i / 2) x 0 c.within) (omega arith)),
      climb_small,
    );
    size = length-set q (i / 2) x ∙ c.size;
    same = map-set_same part_in q (i / 2) x 0 (omega arith) ∙ c.same;
  }

  pub climb_rest : get_or q (i / 2) 0 / 16 ≡ u → (parts_in q ≡ parts_in p) × (Tree p (from / 2) → Tree q 0)
  climb_rest e = (c.same, λ t. tree_whole q (i / 2) (e ∙ mended) (c.tree t))

pub climb_ended : {p : List ℕ} {from : ℕ} {q : List ℕ} {i v : ℕ} → Climbing p from q i v → i ≤ 1
    → (parts_in q ≡ parts_in p) × (Tree p (from / 2) → Tree q 0)
climb_ended {i = i} c h = let z : i / 2 ≡ 0 = omega arith in (c.same, rw z at c.tree)

pub ruleset climbs = (climb_small, climb_rest)

-- what the top tells
module _ (p : List ℕ) (t : Tree p 0) where
  node_of : (i : ℕ) → 0 < i → i < length p → node p i ≡ max (node p (2 * i)) (node p (2 * i + 1))
  node_of i o l = node_in p i l ∙ t.nodes i o l (λ z. omega arith)

  -- no node is greater than the one above it, so none is greater than the top
  above : (j : ℕ) → 1 < j → j < 2 * length p → node p j ≤ node p (j / 2)
  above j o l =
      let e = node_of (j / 2) (omega arith) (omega arith) in
      ⊎_elim
      (λ (z : j ≡ 2 * (j / 2)). omega (arith, e, ap (node p) z))
      (λ (z : j ≡ 2 * (j / 2) → ⊥).
      let x : j ≡ 2 * (j / 2) + 1 = omega arith in omega (arith, e, ap (node p) x))
      (same? j (2 * (j / 2)))

  up : (n j : ℕ) → j ≤ n → 0 < j → j < 2 * length p → node p j ≤ node p 1
  up zero j b o l = absurd (omega arith)
  up (suc n) j b o l =
      ⊎_elim
      (λ (z : j ≡ 1). omega (arith, ap (node p) z))
      (λ (z : j ≡ 1 → ⊥). omega (arith, above j (omega arith) l, up n (j / 2) (omega arith) (omega arith) (omega arith)))
      (same? j 1)

  -- a node that is not 0 is that of a row that waits
  abbrev Tells : ℕ → Type 0
  Tells v = (v ≤ length p) × (8 ≤ get_or p (length p - v) 0 % 16)

  leaf_tells : (j : ℕ) → length p ≤ j → 0 < node p j → Tells (node p j)
  leaf_tells j l h =
      ⊎_elim
      (λ (r : get_or p (j - length p) 0 % 16 < 8). absurd (omega (arith, node_rests p j l r)))
      (λ (r : 8 ≤ get_or p (j - length p) 0 % 16).
      let v = node_waits p j l r in
      let e : length p - node p j ≡ j - length p = omega (arith, v) in
      (omega (arith, v), rw e r))
      (below_or (get_or p (j - length p) 0 % 16) 8)

  pub tells : (n j : ℕ) → length p ≤ n + j → 0 < j → 0 < node p j → Tells (node p j)
  tells zero j b o h = leaf_tells j (omega arith) h
  tells (suc n) j b o h =
      ⊎_elim
      (λ (l : j < length p).
      ⊎_elim
      (λ (z : max (node p (2 * j)) (node p (2 * j + 1)) ≡ node p (2 * j)).
      let e = node_of j o l ∙ z in rw e (tells n (2 * j) (omega arith) (omega arith) (omega arith)))
      (λ (z : max (node p (2 * j)) (node p (2 * j + 1)) ≡ node p (2 * j + 1)).
      let e = node_of j o l ∙ z in rw e (tells n (2 * j + 1) (omega arith) (omega arith) (omega arith)))
      (max_from (node p (2 * j)) (node p (2 * j + 1))))
      (λ (l : length p ≤ j). leaf_tells j l h)
      (below_or j (length p))

  -- a row that waits is not before the one that the top tells
  low_row : (r : ℕ) → r < length p → 8 ≤ get_or p r 0 % 16 → length p - r ≤ node p 1
  low_row r l h =
      let z : length p + r - length p ≡ r = omega arith in
      let e = node_waits p (length p + r) (omega arith) (rw z h) in
      omega (arith, e, z, up (length p + r) (length p + r) (omega arith) (omega arith) (omega arith))

  rests : (r : ℕ) → r < length p → node p 1 < length p - r → get_or (parts_in p) r 0 < 8
  rests r l h =
      rw (part_at p r)
      (⊎_elim (λ (g : get_or p r 0 % 16 < 8). g) (λ (g : 8 ≤ get_or p r 0 % 16). absurd (omega (arith, low_row r l g)))
      (below_or (get_or p r 0 % 16) 8))

  pub top : length p - node p 1 ≡ next_row (parts_in p)
  top =
      ⊎_elim
      (λ (h : 0 < node p 1).
      let w = tells (length p) 1 (omega arith) (omega arith) h in
      let r = length p - node p 1 in
      sym (next_row_at (parts_in p) r (omega (arith, parts_size p, w.0)) (rw (part_at p r) w.1)
      (λ j m. rests j (omega arith) (omega (arith, w.0)))))
      (λ (h : node p 1 ≤ 0).
      let e : length p - node p 1 ≡ length (parts_in p) = omega (arith, parts_size p) in
      e ∙ sym (next_row_none (parts_in p) (λ j m. let l = parts_size p in rests j (omega arith) (omega arith))))
      (below_or 0 (node p 1))

  -- where no row waits, no node is left
  pub clean : ((r : ℕ) → r < length p → get_or p r 0 % 16 < 8) → parts_in p ≡ p
  clean h = ext_get_or 0 (parts_in p) p (parts_size p) (λ i l. part_at p i ∙ bare i (omega (arith, parts_size p)))
    where
      bare : (i : ℕ) → i < length p → get_or p i 0 % 16 ≡ get_or p i 0
      bare zero l = omega (arith, t.bare)
      bare (suc i) l =
          ⊎_elim
          (λ (o : 0 < node p (suc i)).
          let w = tells (length p) (suc i) (omega arith) (omega arith) o in
          absurd (omega (arith, w.1, h (length p - node p (suc i)) (omega (arith, w.0)))))
          (λ (o : node p (suc i) ≤ 0). omega (arith, node_in p (suc i) l))
          (below_or 0 (node p (suc i)))

-- a table of parts alone, none of a directory that waits
pub bare_tree : (p : List ℕ) → ((i : ℕ) → get_or p i 0 < 8) → Tree p 0
bare_tree p h = record {
  bare = omega (arith, h 0);
  nodes = λ i o l n. omega (
    arith,
    h i,
    none (2 * i),
    none (2 * i + 1),
    ⊎_elim (λ (z : max (node p (2 * i)) (node p (2 * i + 1)) ≡ node p (2 * i)). z ∙ none (2 * i))
        (λ (z : max (node p (2 * i)) (node p (2 * i + 1)) ≡ node p (2 * i + 1)). z ∙ none (2 * i + 1))
        (max_from (node p (2 * i)) (node p (2 * i + 1))),
  );
}
  where
    none : (j : ℕ) → node p j ≡ 0
    none j =
        ⊎_elim (λ (l : j < length p). omega (arith, node_in p j l, h j))
        (λ (l : length p ≤ j). node_rests p j l (omega (arith, h (j - length p)))) (below_or j (length p))

-- and nothing else in its entries
pub bare_parts : (p : List ℕ) → ((i : ℕ) → get_or p i 0 < 8) → parts_in p ≡ p
bare_parts p h = clean p (bare_tree p h) (λ r l. omega (arith, h r))
