-- One block: what is written is read, and what is read is written; one changed byte is found.
use Prim.Native.Nat.{ℕ, ◌+◌, ◌-◌, ◌^◌, ◌<◌, ◌≤◌}
use mathlib.Core.List.{List, [], ◌∷◌, ◌++◌, append_assoc, append-nil}
use mathlib.Core.Logic.{⊎_elim}
use mathlib.Core.Path.{◌≡◌, sym, ap, ◌∙◌}
use native.Mathlib.Omega.{arith}
use lib.ListN.{length, take, drop, get_or, set, length-append, length-set, length-drop, take-append-drop}
use lib.Seq.{take_all, take_at, drop_at, take-add, length-take-le, get_or-take, get_or-drop, get_or-set_same, get_or-set_other}
use lib.Seq.{take-set-lt, take-set-le}
use Rattle.wire.specs.Check.{pick, All, eq}
use Rattle.wire.specs.Number.{be_value, be_bytes, num_at, Bytes}
use borrow.Author.Tests.{lt-ltb, le-ltb}
use lib.Dec.{ltb}
use Rattle.wire.proofs.Agrees.{num_same}
use Rattle.wire.proofs.Checks.{below_or, picked, not_picked, all_or}
use Rattle.wire.proofs.Layouts.{value_drop}
use Rattle.wire.proofs.Numbers.{num_in, length_bytes, value_bytes_law, bytes_value, bytes_set}
use Rattle.checksum.specs.Checksum.{check_of}
use Rattle.card.specs.Card.{block_with}
use Rattle.card.specs.Read.{block_fault}
use Rattle.checksum.proofs.Checksums.{check_below, changed}

-- the three things that are right in a block without fault
pub record Sound (i : ℕ) (b : List ℕ) : Type 0 where
  pub long : length b ≡ 512
  pub number : num_at 4 b 0 ≡ i
  pub check : num_at 4 b 508 ≡ check_of (take 508 b)

pub no_fault : {i : ℕ} {b : List ℕ} → Sound i b → block_fault i b ≡ 0
unfolding block_fault
no_fault {i} {b} h =
    picked (eq (length b) 512 ∷ []) _ _ (h.long, tt)
    ∙ picked (eq (num_at 4 b 0) i ∷ []) _ _ (h.number, tt)
    ∙ picked (eq (num_at 4 b 508) (check_of (take 508 b)) ∷ []) _ _ (h.check, tt)

pub is_28 : (i : ℕ) (b : List ℕ) → (length b ≡ 512 → ⊥) → 28 ≡ block_fault i b
unfolding block_fault
is_28 i b h = sym (not_picked (eq (length b) 512 ∷ []) _ _ (λ f. h f.0))

pub is_29 : (i : ℕ) (b : List ℕ) → length b ≡ 512 → (num_at 4 b 0 ≡ i → ⊥) → 29 ≡ block_fault i b
unfolding block_fault
is_29 i b l h = sym (picked (eq (length b) 512 ∷ []) _ _ (l, tt) ∙ not_picked (eq (num_at 4 b 0) i ∷ []) _ _ (λ f. h f.0))

pub is_30 : (i : ℕ) (b : List ℕ) → length b ≡ 512 → num_at 4 b 0 ≡ i → (num_at 4 b 508 ≡ check_of (take 508 b) → ⊥) → 30 ≡ block_fault i b
unfolding block_fault
is_30 i b l n h =
    sym (picked (eq (length b) 512 ∷ []) _ _ (l, tt) ∙ picked (eq (num_at 4 b 0) i ∷ []) _ _ (n, tt)
    ∙ not_picked (eq (num_at 4 b 508) (check_of (take 508 b)) ∷ []) _ _ (λ f. h f.0))

pub sound : (i : ℕ) (b : List ℕ) → block_fault i b ≡ 0 → Sound i b
sound i b e =
    ⊎_elim (λ (l : All (eq (length b) 512 ∷ [])).
    ⊎_elim (λ (n : All (eq (num_at 4 b 0) i ∷ [])).
    ⊎_elim (λ (k : All (eq (num_at 4 b 508) (check_of (take 508 b)) ∷ [])). record { long = l.0; number = n.0; check = k.0 })
    (λ (k : All (eq (num_at 4 b 508) (check_of (take 508 b)) ∷ []) → ⊥).
    absurd (omega (arith, is_30 i b l.0 n.0 (λ f. k (f, tt)))))
    (all_or (eq (num_at 4 b 508) (check_of (take 508 b)) ∷ [])))
    (λ (n : All (eq (num_at 4 b 0) i ∷ []) → ⊥). absurd (omega (arith, is_29 i b l.0 (λ f. n (f, tt)))))
    (all_or (eq (num_at 4 b 0) i ∷ [])))
    (λ (l : All (eq (length b) 512 ∷ []) → ⊥). absurd (omega (arith, is_28 i b (λ f. l (f, tt)))))
    (all_or (eq (length b) 512 ∷ []))

-- a number that stands at p
number_there : (b : List ℕ) (p v : ℕ) (x : List ℕ) → p + 4 ≤ length b → drop p b ≡ be_bytes 4 v ++ x → v < 2 ^ 32 → num_at 4 b p ≡ v
number_there b p v x l e m =
    num_in 4 b p l ∙ value_drop 4 b p ∙ ap (λ (u : List ℕ). be_value 4 u 0) e ∙ value_bytes_law 4 v x (omega arith)

-- the block with a number and 504 bytes
module _ (i : ℕ) (x : List ℕ) (l : length x ≡ 504) where
  abbrev body : List ℕ
  body = be_bytes 4 i ++ x

  length_body : length body ≡ 508
  length_body = rw (length-append, length_bytes 4 i) (omega arith)

  pub length_block : length (block_with i x) ≡ 512
  unfolding block_with
  length_block = rw (length-append, length_bytes 4 (check_of body)) (omega (arith, length_body))

  pub block_body : take 508 (block_with i x) ≡ body
  unfolding block_with
  block_body = take_at body _ 508 length_body

  pub block_data : take 504 (drop 4 (block_with i x)) ≡ x
  unfolding block_with
  block_data =
      rw (append_assoc (be_bytes 4 i) x (be_bytes 4 (check_of body)), drop_at (be_bytes 4 i) (x ++ be_bytes 4 (check_of body)) 4 (length_bytes 4 i))
      (take_at x _ 504 l)

  block_whole : block_with i x ≡ be_bytes 4 i ++ (x ++ be_bytes 4 (check_of body))
  unfolding block_with
  block_whole = append_assoc (be_bytes 4 i) x (be_bytes 4 (check_of body))

  block_end : drop 508 (block_with i x) ≡ be_bytes 4 (check_of body) ++ []
  unfolding block_with
  block_end = drop_at body (be_bytes 4 (check_of body)) 508 length_body ∙ sym (append-nil (be_bytes 4 (check_of body)))

  pub block_sound : i < 2 ^ 32 → Sound i (block_with i x)
  block_sound m = record {
    long = length_block;
    number = number_there (block_with i x) 0 i (x ++ be_bytes 4 (check_of body)) (omega (arith, length_block)) block_whole m;
    check =
        number_there (block_with i x) 508 (check_of body) [] (omega (arith, length_block)) block_end (check_below body)
        ∙ ap check_of (sym block_body);
  }

-- a block without fault is the block with its number and its data
module _ {i : ℕ} {b : List ℕ} (h : Sound i b) (y : Bytes b) where
  front : take 4 b ≡ be_bytes 4 i
  front =
      sym (bytes_value 4 b 0 y (omega (arith, h.long))) ∙ ap (be_bytes 4) (sym (num_in 4 b 0 (omega (arith, h.long))) ∙ h.number)

  back : drop 508 b ≡ be_bytes 4 (check_of (take 508 b))
  back =
      sym (take_all 4 (drop 508 b) (rw length-drop (omega (arith, h.long)))) ∙ sym (bytes_value 4 b 508 y (omega (arith, h.long)))
      ∙ ap (be_bytes 4) (sym (num_in 4 b 508 (omega (arith, h.long))) ∙ h.check)

  middle : take 508 b ≡ be_bytes 4 i ++ take 504 (drop 4 b)
  middle = take-add 4 504 b ∙ ap (λ (z : List ℕ). z ++ take 504 (drop 4 b)) front

  pub block_again : block_with i (take 504 (drop 4 b)) ≡ b
  unfolding block_with
  block_again = rw (← middle, ← back) (take-append-drop 508 b)

-- one byte changed: the number or the check is wrong
module _ {i : ℕ} {b : List ℕ} (h : Sound i b) (y : Bytes b) (j x : ℕ) (l : j < 512) (m : x < 256) (n : x ≡ get_or b j 0 → ⊥) where
  long_set : length (set b j x) ≡ 512
  long_set = length-set b j x ∙ h.long

  -- four bytes with one of them changed are another number
  other_number : (p : ℕ) → p ≤ j → j < p + 4 → p + 4 ≤ 512 → num_at 4 (set b j x) p ≡ num_at 4 b p → ⊥
  other_number p f g k e =
      let v : be_value 4 (set b j x) p ≡ be_value 4 b p
      = sym (num_in 4 (set b j x) p (omega (arith, long_set))) ∙ e ∙ num_in 4 b p (omega (arith, h.long)) in
      let t : take 4 (drop p (set b j x)) ≡ take 4 (drop p b)
      = sym (bytes_value 4 (set b j x) p (bytes_set b j x y m) (omega (arith, long_set))) ∙ ap (be_bytes 4) v
      ∙ bytes_value 4 b p y (omega (arith, h.long)) in
      let at : p + (j - p) ≡ j = omega arith in
      let u : get_or (set b j x) (p + (j - p)) 0 ≡ get_or b (p + (j - p)) 0
      = sym (get_or-drop p (set b j x) (j - p) 0) ∙ sym (get_or-take 4 (drop p (set b j x)) (j - p) 0 (omega arith))
      ∙ ap (λ (z : List ℕ). get_or z (j - p) 0) t ∙ get_or-take 4 (drop p b) (j - p) 0 (omega arith) ∙ get_or-drop p b (j - p) 0 in
      n (sym (get_or-set_same b j x 0 (omega (arith, h.long))) ∙ (rw at at u))

  same_number : (p : ℕ) → p + 4 ≤ 512 → ((k : ℕ) → p ≤ k → k < p + 4 → k ≡ j → ⊥) → num_at 4 (set b j x) p ≡ num_at 4 b p
  same_number p k o =
      num_same 4 p {a = p} {b = p + 4} (record {
        left = omega (arith, long_set);
        right = omega (arith, h.long);
        same = λ i q r. get_or-set_other b j i x 0 (o i q r);
      }) (omega arith) (omega arith)

  -- a byte of the number
  in_number : j < 4 → 29 ≡ block_fault i (set b j x)
  in_number o = is_29 i (set b j x) long_set (λ e. other_number 0 (omega arith) o (omega arith) (e ∙ sym h.number))

  number_right : 4 ≤ j → num_at 4 (set b j x) 0 ≡ i
  number_right o = same_number 0 (omega arith) (λ k u v e. omega arith) ∙ h.number

  -- a byte of the data: the check is another
  in_data : 4 ≤ j → j < 508 → 30 ≡ block_fault i (set b j x)
  unfolding Bytes
  in_data o q =
      is_30 i (set b j x) long_set (number_right o)
      (λ e. n
      (changed (take 508 b) j x (omega (arith, length-take-le 508 b (omega (arith, h.long)))) (omega arith)
      (rw (get_or-take 508 b j 0 q) (below (y j)))
      (ap check_of (sym (take-set-lt 508 b j x q)) ∙ sym e ∙ same_number 508 (omega arith) (λ k u v f. omega arith) ∙ h.check)
      ∙ get_or-take 508 b j 0 q))
    where
      below : {k : ℕ} → k < 256 → k < 2 ^ 32
      below r = omega arith

  -- a byte of the check
  in_check : 508 ≤ j → 30 ≡ block_fault i (set b j x)
  in_check q =
      is_30 i (set b j x) long_set (number_right (omega arith))
      (λ e. other_number 508 q (omega arith) (omega arith) (e ∙ ap check_of (take-set-le 508 b j x q) ∙ sym h.check))

  pub found : pick {A = ℕ} (ltb j 4) 29 30 ≡ block_fault i (set b j x)
  found =
      ⊎_elim (λ (o : j < 4). rw (lt-ltb j 4 o) (in_number o))
      (λ (o : 4 ≤ j). rw (le-ltb j 4 o) (⊎_elim (λ (q : j < 508). in_data o q) (λ (q : 508 ≤ j). in_check q) (below_or j 508)))
      (below_or j 4)
