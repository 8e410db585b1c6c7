-- Whole cards: reading and writing undo each other, and one changed byte is found.
use Prim.Native.Nat.{ℕ, zero, suc, ◌+◌, ◌-◌, ◌*◌, ◌/◌, ◌%◌, ◌^◌, ◌<◌, ◌≤◌}
use mathlib.Core.Bool.{Bool, true, false, ◌&&◌}
use mathlib.Core.List.{List, [], ◌∷◌, ◌++◌}
use mathlib.Core.Logic.{⊎_elim}
use mathlib.Core.Path.{◌≡◌, refl, sym, ap, ◌∙◌}
use native.Mathlib.Nat.{zero-add}
use native.Mathlib.Omega.{arith}
use lib.Dec.{eqb, ltb}
use borrow.Author.Tests.{eqb-true, le-leb}
use lib.ListN.{length, take, drop, get_or, set, replicate, length-append, length-take, length-drop, length-replicate, take-append-drop}
use lib.Seq.{take_all, take_at, drop_at, length-take-le, get_or-take, get_or-drop, ext_get_or, take-set-le, take-set-lt}
use lib.Seq.{drop-set-add, drop-append-add, drop-drop}
use Rattle.wire.specs.Answer.{refusal}
use Rattle.wire.specs.Check.{pick}
use Rattle.wire.specs.Number.{Bytes}
use Rattle.wire.specs.Output.{refused}
use Rattle.wire.specs.Parts.{part, parts}
use Rattle.wire.proofs.Checks.{below_or, false_true}
use Rattle.wire.proofs.Numbers.{num_in, value_below}
use Rattle.wire.proofs.Parts.{part_at, drop_take, take_drop_take, length_part, parts_same, parts_of, length_parts, part_of, bytes_part}
use Rattle.wire.proofs.Patches.{filled_at}
use Rattle.fileheader.specs.File.{file_number}
use Rattle.fileheader.proofs.Agrees.{number_same}
use Rattle.card.specs.Card.{blocks_for, block_with, data_of, block_of, card_of}
use Rattle.card.specs.Read.{block_at, block_fault, fault_from, data_at, end_of, needed, whole_of, file_of, padding_of, zeros}
use Rattle.card.specs.Read.{card_fault, read_in}
use Rattle.card.specs.Promise.{Guarded, IsCardOf, CardReadBack}
use Rattle.card.proofs.Blocks.{Sound, no_fault, sound, length_block, block_data, block_sound, block_again, found}
use Rattle.card.proofs.Faults.{none, first, all_good, no_card_fault, block_fault_law, from_card}

-- the padded file: what a block has of it
pub length_data : (f : List ℕ) (i : ℕ) → length (data_of f i) ≡ 504
unfolding data_of part
length_data f i =
    simp (length-append, length-replicate) (omega (arith, length-take 504 (drop (i * 504) f)))

data_at_law : (f : List ℕ) (i j : ℕ) → j < 504 → get_or (data_of f i) j 0 ≡ get_or f (i * 504 + j) 0
unfolding data_of
data_at_law f i j l = filled_at 0 (part 504 f i) (504 - length (part 504 f i)) j ∙ part_at 504 f i j l

data_padded : (f : List ℕ) (k i : ℕ) → i * 504 + 504 ≤ length f + k → data_of f i ≡ part 504 (f ++ replicate k 0) i
data_padded f k i h = ext_get_or 0 (data_of f i) (part 504 (f ++ replicate k 0) i) (length_data f i ∙ sym padded_long) same
  where
    padded_long : length (part 504 (f ++ replicate k 0) i) ≡ 504
    padded_long = length_part 504 (f ++ replicate k 0) i (simp (length-append, length-replicate) h)

    same : (j : ℕ) → j < length (data_of f i) → get_or (data_of f i) j 0 ≡ get_or (part 504 (f ++ replicate k 0) i) j 0
    same j l =
        let m : j < 504 = omega (arith, length_data f i) in
        data_at_law f i j m ∙ sym (filled_at 0 f k (i * 504 + j)) ∙ sym (part_at 504 (f ++ replicate k 0) i j m)

-- the card of f, block by block
module _ (f : List ℕ) where
  pub blocks_long : (i : ℕ) → length (block_of f i) ≡ 512
  unfolding block_of
  blocks_long i = length_block i (data_of f i) (length_data f i)

  pub length_card : length (card_of f) ≡ blocks_for (length f) * 512
  unfolding card_of
  length_card = length_parts 512 (block_of f) (blocks_for (length f)) (λ i l. blocks_long i)

  block_of_law : (i : ℕ) → i < blocks_for (length f) → block_at (card_of f) i ≡ block_of f i
  unfolding card_of
  block_of_law i l = part_of 512 (block_of f) (blocks_for (length f)) (λ i l. blocks_long i) i l

  data_of_law : (i : ℕ) → i < blocks_for (length f) → data_at (card_of f) i ≡ data_of f i
  unfolding data_at block_of
  data_of_law i l = ap (λ (b : List ℕ). take 504 (drop 4 b)) (block_of_law i l) ∙ block_data i (data_of f i) (length_data f i)

-- END is that of the file
end_agrees : (s t : List ℕ) → 100 ≤ length s → 100 ≤ length t → ((k : ℕ) → k < 100 → get_or s k 0 ≡ get_or t k 0) → file_number s 3 ≡ file_number t 3
end_agrees s t l m h = number_same s t (record { left = l; right = m; same = λ k a b. h k b }) 3

-- a list of zeros
pub zeros_are : (l : List ℕ) → zeros l ≡ true → l ≡ replicate (length l) 0
unfolding zeros
zeros_are [] e = refl
zeros_are (x ∷ l) e = go (eqb x 0) refl e (λ f. zeros_are l f)
  where
    go : (b : Bool) → eqb x 0 ≡ b → (b && zeros l) ≡ true → (zeros l ≡ true → l ≡ replicate (length l) 0) → x ∷ l ≡ 0 ∷ replicate (length l) 0
    go true f g h = let p = eqb-true x 0 f in let q = h g in λ i. p i ∷ q i
    go false f g h = false_true g

pub are_zeros : (n : ℕ) → zeros (replicate n 0) ≡ true
unfolding zeros
are_zeros zero = refl
are_zeros (suc n) = are_zeros n

-- the blocks hold the file, and the last of them is needed
pub blocks_hold : (n : ℕ) → (n ≤ blocks_for n * 504) × (blocks_for n * 504 < n + 504 + 1)
unfolding blocks_for
blocks_hold n = (omega arith, omega arith)

pub some_block : (n : ℕ) → 0 < blocks_for n
unfolding blocks_for
some_block n = omega arith

-- a file that says its own length, written and read
module _ (f : List ℕ) (l : 100 ≤ length f) (e : file_number f 3 ≡ length f) (m : blocks_for (length f) ≤ 2 ^ 32) where
  padded : List ℕ
  padded = f ++ replicate (blocks_for (length f) * 504 - length f) 0

  padded_long : length padded ≡ blocks_for (length f) * 504
  unfolding padded
  padded_long = simp (length-append, length-replicate) (omega (arith, blocks_hold (length f)))

  data_is : (i : ℕ) → i < blocks_for (length f) → data_at (card_of f) i ≡ part 504 padded i
  unfolding padded
  data_is i k =
      data_of_law f i k
      ∙ data_padded f (blocks_for (length f) * 504 - length f) i (omega (arith, blocks_hold (length f)))

  end_is : end_of (card_of f) ≡ length f
  unfolding end_of
  end_is =
      let o = some_block (length f) in
      end_agrees (data_at (card_of f) 0) f (rw (data_of_law f 0 o) (omega (arith, length_data f 0))) l
      (λ k p. ap (λ (d : List ℕ). get_or d k 0) (data_of_law f 0 o) ∙ (rw zero-add at (data_at_law f 0 k (omega arith)))) ∙ e

  needed_is : needed (card_of f) ≡ blocks_for (length f)
  unfolding needed
  needed_is = ap blocks_for end_is

  whole_is : whole_of (card_of f) ≡ padded
  unfolding whole_of
  whole_is =
      ap (parts (data_at (card_of f))) needed_is
      ∙ parts_same (data_at (card_of f)) (part 504 padded) (blocks_for (length f)) data_is
      ∙ parts_of 504 padded (blocks_for (length f)) ∙ take_all (blocks_for (length f) * 504) padded (omega (arith, padded_long))

  pub file_back : file_of (card_of f) ≡ f
  unfolding file_of padded
  file_back = rw (end_is, whole_is) (take_at f _ (length f) refl)

  padding_is : padding_of (card_of f) ≡ replicate (blocks_for (length f) * 504 - length f) 0
  unfolding padding_of padded
  padding_is = rw (end_is, whole_is) (drop_at f _ (length f) refl)

  block_fine : (k : ℕ) → k < blocks_for (length f) → block_fault k (block_at (card_of f) k) ≡ 0
  unfolding block_of
  block_fine k b = ap (block_fault k) (block_of_law f k b) ∙ no_fault (block_sound k (data_of f k) (length_data f k) (omega arith))

  pub card_taken : card_fault (card_of f) ≡ 0
  card_taken =
      no_card_fault (card_of f)
      (none (card_of f) (needed (card_of f)) 0 (λ k a b. block_fine k (omega (arith, needed_is))))
      (rw end_is l, (length_card f ∙ ap (λ (n : ℕ). n * 512) (sym needed_is), (ap zeros padding_is ∙ are_zeros (blocks_for (length f) * 504 - length f), tt)))

  pub read_back : CardReadBack f
  unfolding read_in
  read_back room k = rw (card_taken, file_back, le-leb (length f) room k)

-- the data of a block that is there
pub data_there : (c : List ℕ) (i : ℕ) → data_at c i ≡ take 504 (drop (i * 512 + 4) c)
unfolding data_at part
data_there c i = take_drop_take 504 4 512 (drop (i * 512) c) (omega arith) ∙ ap (take 504) (drop-drop 4 (i * 512) c)

pub data_whole : (c : List ℕ) (i : ℕ) → i * 512 + 512 ≤ length c → length (data_at c i) ≡ 504
data_whole c i l =
    ap length (data_there c i) ∙ length-take-le 504 (drop (i * 512 + 4) c) (rw length-drop (omega arith))

-- a card without a faulty block
module _ (c : List ℕ) (t : fault_from c (needed c) 0 ≡ 0) where
  block_good : (i : ℕ) → i < needed c → Sound i (block_at c i)
  block_good i l = sound i (block_at c i) (all_good c (needed c) 0 t i (omega arith) (omega arith))

  block_there : (i : ℕ) → i < needed c → i * 512 + 512 ≤ length c
  unfolding part
  block_there i l = omega (arith, (block_good i l).long, length-take 512 (drop (i * 512) c), length-drop (i * 512) c)

  pub blocks_there : needed c * 512 ≤ length c
  unfolding needed
  blocks_there =
      let o = some_block (end_of c) in
      omega (arith, block_there (needed c - 1) (omega arith))

  data_long : (i : ℕ) → i < needed c → length (data_at c i) ≡ 504
  data_long i l = data_whole c i (block_there i l)

  whole_long : length (whole_of c) ≡ needed c * 504
  unfolding whole_of
  whole_long = length_parts 504 (data_at c) (needed c) data_long

  end_within : end_of c ≤ length (whole_of c)
  unfolding needed
  end_within = omega (arith, whole_long, blocks_hold (end_of c))

  pub file_long : length (file_of c) ≡ end_of c
  unfolding file_of
  file_long = length-take-le (end_of c) (whole_of c) end_within

  -- the padding, as it stands in the card
  pub padding_there : {n from to : ℕ} → n ≡ needed c → from ≡ end_of c + n * 8 - 4 → to ≡ n * 512 - 4
      → padding_of c ≡ take (to - from) (drop from c)
  unfolding padding_of whole_of parts needed
  padding_there {n} {from} {to} u v w =
      let h = blocks_hold (end_of c) in
      let o = some_block (end_of c) in
      let m = needed c - 1 in
      let k = end_of c - m * 504 in
      let e : needed c ≡ suc m = omega arith in
      let a = length_parts 504 (data_at c) m (λ i l. data_long i (omega arith)) in
      let d : end_of c ≡ length (parts (data_at c) m) + k = omega arith in
      let x : 504 - k ≡ to - from = omega arith in
      let y : m * 512 + 4 + k ≡ from = omega arith in
      ap (λ (z : ℕ). drop (end_of c) (parts (data_at c) z)) e
      ∙ ap (λ (z : ℕ). drop z (parts (data_at c) m ++ data_at c m)) d
      ∙ drop-append-add (parts (data_at c) m) (data_at c m) k
      ∙ ap (drop k) (data_there c m) ∙ drop_take k 504 (drop (m * 512 + 4) c)
      ∙ ap (take (504 - k)) (drop-drop k (m * 512 + 4) c)
      ∙ (λ i. take (x i) (drop (y i) c))

-- a card that the reader takes
module _ (c : List ℕ) (t : card_fault c ≡ 0) where
  sound_blocks : fault_from c (needed c) 0 ≡ 0
  sound_blocks = (from_card c t).0

  pub card_long : length c ≡ needed c * 512
  card_long = (from_card c t).1.1.0

  -- the file, then zeros
  whole_padded : whole_of c ≡ file_of c ++ replicate (length (padding_of c)) 0
  unfolding file_of padding_of
  whole_padded =
      sym (take-append-drop (end_of c) (whole_of c))
      ∙ ap (λ (z : List ℕ). take (end_of c) (whole_of c) ++ z) (zeros_are (padding_of c) (from_card c t).1.1.1.0)

  data_again : (i : ℕ) → i < needed c → data_of (file_of c) i ≡ data_at c i
  unfolding whole_of
  data_again i l =
      data_padded (file_of c) (length (padding_of c)) i
      (omega (arith, whole_long c sound_blocks, simp (length-append, length-replicate) at (ap length whole_padded)))
      ∙ ap (λ (z : List ℕ). part 504 z i) (sym whole_padded) ∙ part_of 504 (data_at c) (needed c) (data_long c sound_blocks) i l

  block_same : Bytes c → (i : ℕ) → i < needed c → block_of (file_of c) i ≡ block_at c i
  unfolding block_of data_at part
  block_same b i l = ap (block_with i) (data_again i l) ∙ block_again (block_good c sound_blocks i l) (bytes_part 512 (i * 512) c b)

  pub card_again : Bytes c → card_of (file_of c) ≡ c
  unfolding card_of needed
  card_again b =
      ap (λ (n : ℕ). parts (block_of (file_of c)) (blocks_for n)) (file_long c sound_blocks)
      ∙ parts_same (block_of (file_of c)) (block_at c) (needed c) (block_same b) ∙ parts_of 512 c (needed c)
      ∙ take_all (needed c * 512) c (omega (arith, card_long))

  -- and it is the card of a file that says its length
  says_end : 100 ≤ end_of c
  says_end = (from_card c t).1.0

  end_again : file_number (file_of c) 3 ≡ end_of c
  unfolding end_of needed
  end_again =
      let o = some_block (end_of c) in
      let l = file_long c sound_blocks in
      let e = says_end in
      end_agrees (file_of c) (data_at c 0) (omega arith) (omega (arith, data_long c sound_blocks 0 o))
      (λ k p.
      sym (rw zero-add at (data_at_law (file_of c) 0 k (omega arith))) ∙ ap (λ (d : List ℕ). get_or d k 0) (data_again 0 o))

  few_blocks : Bytes c → needed c ≤ 2 ^ 32
  unfolding part needed
  few_blocks b =
      let o = some_block (end_of c) in
      let i = needed c - 1 in
      let h = block_good c sound_blocks i (omega arith) in
      let v = value_below 4 (block_at c i) 0 (bytes_part 512 (i * 512) c b) in
      omega (arith, h.number, num_in 4 (block_at c i) 0 (omega (arith, h.long)))

  pub is_card : Bytes c → IsCardOf (file_of c) c
  unfolding needed
  is_card b =
      let l = file_long c sound_blocks in
      let e = says_end in
      record { says = (omega arith, (end_again ∙ sym l, tt)); few = rw l (few_blocks b); is = card_again b }

-- a byte changed: blocks before its own stay, and in its own it is changed
before_kept : (c : List ℕ) (j x i : ℕ) → i * 512 + 512 ≤ j → block_at (set c j x) i ≡ block_at c i
unfolding part
before_kept c j x i l =
    let e : i * 512 + (j - i * 512) ≡ j = omega arith in
    ap (λ (k : ℕ). take 512 (drop (i * 512) (set c k x))) (sym e)
    ∙ ap (take 512) (drop-set-add (i * 512) c (j - i * 512) x) ∙ take-set-le 512 (drop (i * 512) c) (j - i * 512) x (omega arith)

own_changed : (c : List ℕ) (i o x : ℕ) → o < 512 → block_at (set c (i * 512 + o) x) i ≡ set (block_at c i) o x
unfolding part
own_changed c i o x l = ap (take 512) (drop-set-add (i * 512) c o x) ∙ take-set-lt 512 (drop (i * 512) c) o x l

-- 29 or 30 is a fault
is_fault : (b : Bool) → pick {A = ℕ} b 29 30 ≡ 0 → ⊥
is_fault true e = omega arith
is_fault false e = omega arith

fault_29_30 : (b : Bool) (c : List ℕ) → fault_from c (needed c) 0 ≡ pick {A = ℕ} b 29 30 → card_fault c ≡ pick {A = ℕ} b 29 30
fault_29_30 true c e = block_fault_law c 28 e
fault_29_30 false c e = block_fault_law c 29 e

module _ (c : List ℕ) (t : card_fault c ≡ 0) (y : Bytes c) (i o x : ℕ) (l : i < needed c) (m : o < 512) (n : x < 256)
    (q : x ≡ get_or c (i * 512 + o) 0 → ⊥) where
  abbrev changed_card : List ℕ
  changed_card = set c (i * 512 + o) x

  own_fault : pick {A = ℕ} (ltb o 4) 29 30 ≡ block_fault i (block_at changed_card i)
  unfolding part
  own_fault =
      found (block_good c (sound_blocks c t) i l) (bytes_part 512 (i * 512) c y) o x m n
      (λ e. q (e ∙ get_or-take 512 (drop (i * 512) c) o 0 m ∙ get_or-drop (i * 512) c o 0))
      ∙ ap (block_fault i) (sym (own_changed c i o x m))

  end_kept : 0 < i → end_of changed_card ≡ end_of c
  unfolding end_of data_at
  end_kept p = ap (λ (b : List ℕ). file_number (take 504 (drop 4 b)) 3) (before_kept c (i * 512 + o) x 0 (omega arith))

  still_needed : i < needed changed_card
  unfolding needed
  still_needed =
      ⊎_elim (λ (p : 0 < i). rw (end_kept p) l) (λ (p : i ≤ 0). omega (arith, some_block (end_of changed_card))) (below_or 0 i)

  pub changed_fault : card_fault changed_card ≡ pick {A = ℕ} (ltb o 4) 29 30
  changed_fault =
      fault_29_30 (ltb o 4) changed_card
      (first changed_card (needed changed_card) 0 i (omega arith) (omega (arith, still_needed))
      (λ k a b. ap (block_fault k) (before_kept c (i * 512 + o) x k (omega arith)) ∙ no_fault (block_good c (sound_blocks c t) k (omega arith)))
      (λ e. is_fault (ltb o 4) (own_fault ∙ e))
      ∙ sym own_fault)

-- what the reader answers to a fault
by_fault : (b : Bool) (c : List ℕ) (room : ℕ) → card_fault c ≡ pick {A = ℕ} b 29 30 → read_in c room ≡ refused (refusal (pick b 29 30) 0)
unfolding read_in
by_fault true c room e = rw e
by_fault false c room e = rw e

-- "a card that the reader takes is refused once any one byte of it, checks included, is changed"
pub guarded : (c : List ℕ) → card_fault c ≡ 0 → Bytes c → Guarded c
guarded c t y j x l m n room =
    let e : j / 512 * 512 + j % 512 ≡ j = omega arith in
    by_fault (ltb (j % 512) 4) (set c j x) room
    (rw e at (changed_fault c t y (j / 512) (j % 512) x (omega (arith, card_long c t)) (omega arith) m (rw e n)))
