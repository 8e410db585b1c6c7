-- A card that is written: one block, and block by block.
use Prim.Native.Nat.{ℕ, ◌+◌, ◌-◌, ◌*◌, ◌^◌, ◌<◌, ◌≤◌}
use mathlib.Core.List.{List, ◌++◌, append_assoc}
use mathlib.Core.Logic.{⊎_elim}
use mathlib.Core.Path.{◌≡◌, sym, ap, ◌∙◌}
use native.Mathlib.Numerals.{add-one}
use native.Mathlib.Omega.{arith}
use borrow.Author.Tests.{le-leb, lt-leb}
use borrow.Rule.Slice.PartMut.{mid_of, put_mid}
use lib.ListN.{length, take, drop, replicate, length-append, length-take, length-drop, length-replicate}
use lib.Seq.{take_all, take_at, drop-drop}
use Rattle.wire.specs.Number.{be_bytes, lesser}
use Rattle.wire.specs.Parts.{part, parts}
use Rattle.wire.specs.Patch.{patch}
use Rattle.wire.proofs.Checks.{below_or}
use Rattle.wire.proofs.Numbers.{length_bytes}
use Rattle.wire.proofs.Parts.{length_parts}
use Rattle.wire.proofs.Patches.{length_patch, patch_nil, patch_then, part_then}
use Rattle.buffer.specs.Store.{put_front}
use Rattle.buffer.proofs.Stores.{put_in, front_part}
use Rattle.table.specs.Table.{filled, cleared}
use Rattle.checksum.specs.Checksum.{check_of}
use Rattle.card.specs.Card.{blocks_for, block_with, data_of, block_of}
use Rattle.card.proofs.Cards.{blocks_hold, blocks_long}

lesser_first : (a b : ℕ) → a ≤ b → lesser a b ≡ a
lesser_first a b h = rw (le-leb a b h)

lesser_other : (a b : ℕ) → b < a → lesser a b ≡ b
lesser_other a b h = rw (lt-leb a b h)

-- the bytes of one block
pub block_part : (f : List ℕ) (i : ℕ) {from to : ℕ} → from ≡ i * 504 → to ≡ lesser (length f) (from + 504) → from ≤ length f
    → take (to - from) (drop from f) ≡ part 504 f i
unfolding part
block_part f i {from} {to} e g l =
    rw (← e)
    (⊎_elim
    (λ (h : from + 504 < length f).
    let z : to - from ≡ 504 = omega (arith, lesser_other (length f) (from + 504) h) in rw z)
    (λ (h : length f ≤ from + 504).
    let d = length-drop from f in
    let z : to - from ≡ length f - from = omega (arith, lesser_first (length f) (from + 504) h) in
    take_all (to - from) (drop from f) (omega arith) ∙ sym (take_all 504 (drop from f) (omega arith)))
    (below_or (from + 504) (length f)))

patch_front : (b x : List ℕ) (n : ℕ) → length x ≡ n → take n (patch b 0 x) ≡ x
unfolding patch
patch_front b x n e = take_at x (drop (0 + length x) b) n e

body_long : (i : ℕ) (x : List ℕ) → length x ≤ 504 → length (be_bytes 4 i ++ filled x 504) ≡ 508
body_long i x l = simp (length-append, length-replicate, length_bytes) (omega arith)

-- zeros in the part from k to e, which ends within w
zeros_part : (w : List ℕ) (k e : ℕ) {zs : List ℕ} → k ≤ e → e ≤ length w → zs ≡ cleared (mid_of k (e - k) w) 0
    → put_mid k (e - k) w zs ≡ patch w k (replicate (e - k) 0)
unfolding patch
zeros_part w k e {zs} l m h =
    let n : length (mid_of k (e - k) w) - 0 ≡ e - k = omega (arith, length-take (e - k) (drop k w), length-drop k w) in
    let z : zs ≡ replicate (e - k) 0 = h ∙ ap (λ (i : ℕ). replicate i 0) n in
    rw (z, length-replicate, drop-drop)

-- a block: number, bytes and zeros, then the check of these
pub body_whole : (b : List ℕ) (i : ℕ) (x : List ℕ) {w v ys zs : List ℕ} {at : ℕ} → length x ≤ 504 → 508 ≤ length b
    → w ≡ put_front b (be_bytes 4 i) → ys ≡ put_front (mid_of 4 (length w - 4) w) x → v ≡ put_mid 4 (length w - 4) w ys
    → at ≡ 4 + length x → zs ≡ cleared (mid_of at (508 - at) v) 0 → put_mid at (508 - at) v zs ≡ patch b 0 (be_bytes 4 i ++ filled x 504)
body_whole b i x {w} {v} {ys} {zs} {at} l m e f g a h =
    let n = length_bytes 4 i in
    let k = length-append (be_bytes 4 i) x in
    let w-is : w ≡ patch b 0 (be_bytes 4 i) = e ∙ put_in b (be_bytes 4 i) (omega arith) in
    let w-long : length w ≡ length b = ap length w-is ∙ length_patch b 0 (be_bytes 4 i) (omega arith) in
    let v-is : v ≡ patch b 0 (be_bytes 4 i ++ x)
    = g ∙ part_then b 0 (be_bytes 4 i) x 4 w-is (omega arith) (omega arith) (front_part w x 4 (omega arith) f) in
    let v-long : length v ≡ length b = ap length v-is ∙ length_patch b 0 (be_bytes 4 i ++ x) (omega arith) in
    let z : 508 - at ≡ 504 - length x = omega arith in
    let q : at ≡ 0 + length (be_bytes 4 i ++ x) = omega arith in
    patch_then b 0 (be_bytes 4 i ++ x) (replicate (504 - length x) 0) v-is
    (zeros_part v at 508 (omega arith) (omega arith) h ∙ (λ j. patch v (q j) (replicate (z j) 0))) (omega arith)
    ∙ ap (patch b 0) (append_assoc (be_bytes 4 i) x (replicate (504 - length x) 0))

pub block_whole : (b : List ℕ) (i : ℕ) (x : List ℕ) {w ys : List ℕ} {sum : ℕ} → length x ≤ 504 → 512 ≤ length b
    → w ≡ patch b 0 (be_bytes 4 i ++ filled x 504) → sum ≡ check_of (take 508 w)
    → ys ≡ put_front (mid_of 508 (length w - 508) w) (be_bytes 4 sum)
    → put_mid 508 (length w - 508) w ys ≡ patch b 0 (block_with i (filled x 504))
unfolding block_with
block_whole b i x {w} {ys} {sum} l m e f g =
    let n = body_long i x l in
    let w-long : length w ≡ length b = ap length e ∙ length_patch b 0 (be_bytes 4 i ++ filled x 504) (omega arith) in
    let s : take 508 w ≡ be_bytes 4 i ++ filled x 504 = ap (take 508) e ∙ patch_front b (be_bytes 4 i ++ filled x 504) 508 n in
    part_then b 0 (be_bytes 4 i ++ filled x 504) (be_bytes 4 (check_of (be_bytes 4 i ++ filled x 504))) 508 e (omega arith)
    (omega (arith, length_bytes 4 (check_of (be_bytes 4 i ++ filled x 504))))
    (front_part w (be_bytes 4 sum) 508 (omega (arith, length_bytes 4 sum)) g
    ∙ ap (λ (k : ℕ). patch (mid_of 508 (length w - 508) w) 0 (be_bytes 4 k)) (f ∙ ap check_of s))

-- while a card is written: w is b with the first i blocks of f
pub record Writing (f : List ℕ) (n : ℕ) (b w : List ℕ) (i : ℕ) : Type 0 where
  pub count : n ≡ blocks_for (length f)
  pub numbers : n ≤ 2 ^ 32
  pub room : n * 512 ≤ length b
  pub few : i ≤ n
  pub is : w ≡ patch b 0 (parts (block_of f) i)

pub write_began : (f : List ℕ) {n : ℕ} (b : List ℕ) → n ≡ blocks_for (length f) → n ≤ 2 ^ 32 → n * 512 ≤ length b → Writing f n b b 0
unfolding parts
write_began f b i l m = record { count = i; numbers = l; room = m; few = omega arith; is = sym (patch_nil b 0) }

module _ {f : List ℕ} {n : ℕ} {b w : List ℕ} {i : ℕ} (h : Writing f n b w i) where
  blocks_done : length (parts (block_of f) i) ≡ i * 512
  blocks_done = length_parts 512 (block_of f) i (λ k l. blocks_long f k)

  pub write_length : length w ≡ length b
  write_length = ap length h.is ∙ length_patch b 0 (parts (block_of f) i) (omega (arith, blocks_done, h.few, h.room))

  -- the block begins within the file
  pub write_from : i < n → i * 504 ≤ length f
  write_from l = omega (arith, h.count, blocks_hold (length f))

  pub write_to : {to : ℕ} → i < n → to ≡ lesser (length f) (i * 504 + 504) → (i * 504 ≤ to) × (to ≤ length f)
  write_to {to} l e =
      let g = write_from l in
      ⊎_elim
      (λ (m : i * 504 + 504 < length f). let k = lesser_other (length f) (i * 504 + 504) m in (omega arith, omega arith))
      (λ (m : length f ≤ i * 504 + 504). let k = lesser_first (length f) (i * 504 + 504) m in (omega arith, omega arith))
      (below_or (i * 504 + 504) (length f))

  pub write_turn : {at from to : ℕ} {ys : List ℕ} → i < n → at ≡ i * 512 → from ≡ i * 504 → to ≡ lesser (length f) (from + 504)
      → ys ≡ patch (mid_of at (length w - at) w) 0 (block_with i (filled (take (to - from) (drop from f)) 504))
      → Writing f n b (put_mid at (length w - at) w ys) (i + 1)
  unfolding parts block_of data_of
  write_turn {at} {from} {to} {ys} l e g j q =
      let d = blocks_done in
      let v : length (block_of f i) ≡ 512 = blocks_long f i in
      rw (add-one i)
      (record {
        count = h.count;
        numbers = h.numbers;
        room = h.room;
        few = omega arith;
        is =
            part_then b 0 (parts (block_of f) i) (block_of f i) at h.is (omega arith) (omega (arith, h.room))
            (q
            ∙ ap (λ (x : List ℕ). patch (mid_of at (length w - at) w) 0 (block_with i (filled x 504)))
            (block_part f i g j (rw g (write_from l))));
      })
