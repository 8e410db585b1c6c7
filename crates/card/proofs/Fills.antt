-- A card that is read: whether it is closed, and its file, copied block by block.
use Prim.Native.Nat.{ℕ, suc, ◌+◌, ◌-◌, ◌*◌, ◌<◌, ◌≤◌}
use mathlib.Core.Bool.{Bool, false, and-true}
use mathlib.Core.List.{List, ◌++◌}
use mathlib.Core.Logic.{⊎_elim}
use mathlib.Core.Path.{◌≡◌, refl, sym, ap, ◌∙◌}
use native.Mathlib.Numerals.{add-one}
use native.Mathlib.Omega.{arith}
use borrow.Author.Tests.{le-leb, lt-leb, eq-eqb}
use borrow.Rule.Slice.PartMut.{mid_of, put_mid}
use lib.ListN.{length, take, drop, length-take}
use lib.Seq.{take_all, take-nil, take-take, take-append-add}
use Rattle.wire.specs.Check.{all}
use Rattle.wire.specs.Number.{lesser}
use Rattle.wire.specs.Parts.{parts}
use Rattle.wire.specs.Patch.{patch}
use Rattle.wire.proofs.Checks.{below_or, not_all}
use Rattle.wire.proofs.Numbers.{lesser_within}
use Rattle.wire.proofs.Parts.{length_parts}
use Rattle.wire.proofs.Patches.{length_patch, patch_nil, part_then}
use Rattle.buffer.specs.Store.{put_front}
use Rattle.buffer.proofs.Stores.{front_part}
use Rattle.card.specs.Card.{blocks_for}
use Rattle.card.specs.Read.{fault_from, data_at, end_of, needed, padding_of, zeros, closed}
use Rattle.card.proofs.Cards.{blocks_hold, data_there, data_whole, blocks_there, padding_there}

-- whether a card without a faulty block is closed
module _ (c : List ℕ) {e : ℕ} (i : e ≡ end_of c) (t : fault_from c (needed c) 0 ≡ 0) where
  pub count_is : {n : ℕ} → n ≡ blocks_for e → n ≡ needed c
  unfolding needed
  count_is j = j ∙ ap blocks_for i

  pub count_there : {n : ℕ} → n ≡ blocks_for e → n * 512 ≤ length c
  count_there j = omega (arith, count_is j, blocks_there c t)

  pub spans : {n : ℕ} → n ≡ blocks_for e → (n * 512 ≤ length c) × (e ≤ n * 504)
  spans j = (count_there j, omega (arith, blocks_hold e))

  pub more_bytes : {n : ℕ} → n ≡ blocks_for e → (length c ≡ n * 512 → ⊥) → false ≡ all (closed c)
  more_bytes j l = sym (not_all (closed c) (λ h. l (h.1.0 ∙ ap (λ (k : ℕ). k * 512) (sym (count_is j)))))

  pub by_padding : {n a : ℕ} {r : Bool} → n ≡ blocks_for e → 100 ≤ e → length c ≡ n * 512 → a ≡ e + n * 8 - 4
      → r ≡ zeros (take (n * 512 - 4 - a) (drop a c)) → r ≡ all (closed c)
  by_padding {n} {a} {r} j l m f z =
      let p : padding_of c ≡ take (n * 512 - 4 - a) (drop a c) = padding_there c t (count_is j) (f ∙ ap (λ (k : ℕ). k + n * 8 - 4) i) refl in
      sym
      (rw (le-leb 100 (end_of c) (omega arith), eq-eqb (length c) (needed c * 512) (omega (arith, count_is j)), and-true, p) (sym z))

-- the first bytes of a front
take_lesser : (m r : ℕ) (l : List ℕ) → take (lesser m r) l ≡ take r (take m l)
take_lesser m r l =
    ⊎_elim (λ (h : r < m). rw (lt-leb m r h) (sym (take-take r m l (omega arith))))
    (λ (h : m ≤ r). rw (le-leb m r h) (sym (take_all r (take m l) (omega (arith, length-take m l)))))
    (below_or r m)

-- while a file is copied: w is b with what the first i blocks have of it
pub record Copying (c : List ℕ) (e : ℕ) (b : List ℕ) (n : ℕ) (w : List ℕ) (i : ℕ) : Type 0 where
  pub count : n ≡ blocks_for e
  pub there : n * 512 ≤ length c
  pub room : e ≤ length b
  pub few : i ≤ n
  pub is : w ≡ patch b 0 (take e (parts (data_at c) i))

pub copy_began : (c : List ℕ) (e : ℕ) (b : List ℕ) {n : ℕ} → n ≡ blocks_for e → blocks_for e * 512 ≤ length c → e ≤ length b
    → Copying c e b n b 0
unfolding parts
copy_began c e b i l m = record { count = i; there = omega arith; room = m; few = omega arith; is = sym (ap (patch b 0) (take-nil e) ∙ patch_nil b 0) }

module _ {c : List ℕ} {e : ℕ} {b : List ℕ} {n : ℕ} {w : List ℕ} {i : ℕ} (h : Copying c e b n w i) where
  front_long : length (parts (data_at c) i) ≡ i * 504
  front_long = length_parts 504 (data_at c) i (λ k l. data_whole c k (omega (arith, h.few, h.there)))

  pub copy_length : length w ≡ length b
  copy_length =
      ap length h.is
      ∙ length_patch b 0 (take e (parts (data_at c) i)) (omega (arith, length-take e (parts (data_at c) i), h.room))

  -- the block begins within the file and within the output, and its data are within the card
  pub record Bounds (k : ℕ) : Type 0 where
    pub file : i * 504 ≤ e
    pub output : e ≤ length w
    pub blocks : n * 512 ≤ length c
    pub card : i * 512 + 4 + k ≤ length c
    pub part : k ≤ e - i * 504

  pub copy_bounds : {k : ℕ} → i < n → k ≡ lesser 504 (e - i * 504) → Bounds k
  copy_bounds l j =
      let m = lesser_within 504 (e - i * 504) in
      record {
        file = omega (arith, h.count, blocks_hold e);
        output = omega (arith, h.room, copy_length);
        blocks = h.there;
        card = omega (arith, h.there);
        part = omega arith;
      }

  copy_from : i < n → Bounds (lesser 504 (e - i * 504))
  copy_from l = copy_bounds l refl

  pub copy_spans : i < n → (i * 504 ≤ e) × (e ≤ length w) × (i * 512 + 4 + lesser 504 (e - i * 504) ≤ length c) × (lesser 504 (e - i * 504) ≤ e - i * 504)
  copy_spans l = let f = copy_from l in (f.file, f.output, f.card, f.part)

  -- what one block more gives
  grown : i * 504 ≤ e
      → take e (parts (data_at c) i) ++ take (lesser 504 (e - i * 504)) (drop (i * 512 + 4) c) ≡ take e (parts (data_at c) (suc i))
  unfolding parts
  grown l =
      let n = front_long in
      let d : length (parts (data_at c) i) + (e - i * 504) ≡ e = omega arith in
      ap (λ (z : List ℕ). z ++ take (lesser 504 (e - i * 504)) (drop (i * 512 + 4) c)) (take_all e (parts (data_at c) i) (omega arith))
      ∙ ap (λ (z : List ℕ). parts (data_at c) i ++ z)
      (take_lesser 504 (e - i * 504) (drop (i * 512 + 4) c) ∙ ap (take (e - i * 504)) (sym (data_there c i)))
      ∙ sym (take-append-add (parts (data_at c) i) (data_at c i) (e - i * 504))
      ∙ ap (λ (k : ℕ). take k (parts (data_at c) i ++ data_at c i)) d

  pub copy_turn_law : {at from to : ℕ} {ys : List ℕ} → i < n → at ≡ i * 504 → from ≡ i * 512 + 4 → to ≡ from + lesser 504 (e - at)
      → ys ≡ put_front (mid_of at (length w - at) w) (take (to - from) (drop from c))
      → Copying c e b n (put_mid at (length w - at) w ys) (i + 1)
  copy_turn_law {at} {from} {to} {ys} l f g j q =
      let o = copy_from l in
      let k = lesser_within 504 (e - at) in
      let z : to - from ≡ lesser 504 (e - at) = omega arith in
      let y = take (lesser 504 (e - at)) (drop from c) in
      let m : length y ≤ lesser 504 (e - at) = omega (arith, length-take (lesser 504 (e - at)) (drop from c)) in
      let s : at + length (take (to - from) (drop from c)) ≤ length w
      = omega (arith, o.output, length-take (to - from) (drop from c)) in
      let x = front_long in
      let v : length (take e (parts (data_at c) i)) ≡ i * 504 = ap length (take_all e (parts (data_at c) i) (omega arith)) ∙ x in
      rw (add-one i)
      (record {
        count = h.count;
        there = h.there;
        room = h.room;
        few = omega arith;
        is =
            part_then b 0 (take e (parts (data_at c) i)) y at h.is (omega arith) (omega (arith, h.room))
            (front_part w (take (to - from) (drop from c)) at s q
            ∙ ap (λ (r : ℕ). patch (mid_of at (length w - at) w) 0 (take r (drop from c))) z)
            ∙ (rw (f, g) (ap (patch b 0) (grown o.file)));
      })

  pub copy_ended : n ≤ i → w ≡ patch b 0 (take e (parts (data_at c) (blocks_for e)))
  copy_ended l =
      let j : i ≡ blocks_for e = omega (arith, h.few, h.count) in
      h.is ∙ ap (λ (k : ℕ). patch b 0 (take e (parts (data_at c) k))) j
