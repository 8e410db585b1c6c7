-- Which classes a length leaves, and which of them a byte.
use Prim.Native.Nat.{ℕ, zero, suc, ◌+◌, ◌-◌, ◌<◌, ◌≤◌}
use mathlib.Core.List.{List, [], ◌∷◌}
use mathlib.Core.Path.{◌≡◌, refl, sym, ap, ◌∙◌}
use mathlib.Core.Logic.{⊎_elim}
use native.Mathlib.Omega.{arith}
use borrow.Author.Tests.{lt-ltb}
use lib.ListN.{length, get_or, drop, length-take, length-map}
use lib.Seq.{get_or-take, get_or-drop}
use Rattle.std.specs.Prelude.{Option, Some, None, unwrap_or}
use Rattle.std.proofs.lemmas.Option.{same_Some}
use Rattle.wire.specs.Check.{Check, lt, eq, All}
use Rattle.wire.proofs.Checks.{all_yes, below_or}
use Rattle.wire.proofs.Every.{each_below}
use Rattle.classname.specs.Find.{first_in}
use Rattle.classname.specs.Name.{classes, name_of}
use Rattle.classname.specs.Length.{by_length, shorter_in, shorter, leaves, deciding_byte, deciding_bytes, chosen, candidate_of, In, Leaves, Decides}
use Rattle.classname.proofs.Finds.{first_holds}

abbrev pub length_of : ℕ → ℕ
length_of c = length (name_of c)

-- classes of the twelve whose names have n bytes, and classes whose names have less
abbrev having : ℕ → List ℕ → List Check
having n [] = []
having n (c ∷ cs) = lt c classes ∷ eq (length_of c) n ∷ having n cs

abbrev less : ℕ → List ℕ → List Check
less n [] = []
less n (c ∷ cs) = lt (length_of c) n ∷ less n cs

each_having : (n : ℕ) (cs : List ℕ) → All (having n cs) → (c : ℕ) → In c cs → (c < classes) × (length_of c ≡ n)
each_having n [] h c (i, l, e) = absurd (omega arith)
each_having n (d ∷ cs) h c (zero, l, e) = rw (← e) (h.0, h.1.0)
each_having n (d ∷ cs) h c (suc i, l, e) = each_having n cs h.1.1 c (i, omega arith, e)

all_shorter : (cs : List ℕ) (m n : ℕ) → m ≤ n → All (less m cs) → shorter_in cs n ≡ length cs
unfolding shorter_in
all_shorter [] m n l h = refl
all_shorter (c ∷ cs) m n l h = rw (lt-ltb (length_of c) n (omega (arith, h.0))) (ap suc (all_shorter cs m n l h.1))

-- each of the twelve is what its own length and byte leave
pub own_candidate : (c : ℕ) → c < classes → candidate_of (length_of c) (deciding_byte (name_of c)) ≡ Some c
unfolding name_of shorter_in leaves first_in candidate_of
own_candidate c l =
    go (candidate_of (length_of c) (deciding_byte (name_of c)))
    (each_below (λ d. eq (unwrap_or (candidate_of (length_of d) (deciding_byte (name_of d))) classes) d ∷ []) classes refl c l).0
  where
    go : (x : Option ℕ) → unwrap_or x classes ≡ c → x ≡ Some c
    go (Some d) e = ap Some e
    go None e = absurd (omega arith)

-- a row of those that a length leaves
pub row : (n i : ℕ) → i < length (leaves n) → (get_or (leaves n) i 0 ≡ get_or by_length (shorter n + i) 0) × (shorter n + i < shorter (suc n))
unfolding leaves
row n i l =
    let k : i < shorter (suc n) - shorter n = omega (arith, length-take (shorter (suc n) - shorter n) (drop (shorter n) by_length)) in
    (get_or-take _ (drop (shorter n) by_length) i 0 k ∙ get_or-drop (shorter n) by_length i 0, omega arith)

-- a class that is found is one of those that were looked through
pub candidate_in : (n b c : ℕ) → candidate_of n b ≡ Some c → In c (leaves n)
unfolding candidate_of
candidate_in n b c = go (first_in (deciding_bytes (leaves n)) b) refl
  where
    go : (f : Option ℕ) → first_in (deciding_bytes (leaves n)) b ≡ f → chosen (leaves n) f ≡ Some c → In c (leaves n)
    go (Some i) e h = (i, rw length-map at (first_holds (deciding_bytes (leaves n)) b i e).0, same_Some (get_or (leaves n) i 0) c h)
    go None e h = let z : ◌≡◌ {A = ℕ} 0 1 = cc in absurd (omega arith)

module _ (n : ℕ) where
  leaves_has : (c : ℕ) → c < classes → length_of c ≡ n → In c (leaves n)
  leaves_has c l e =
      candidate_in n (deciding_byte (name_of c)) c (rw (← e) (own_candidate c l))

  leaves_only : (c : ℕ) → In c (leaves n) → (c < classes) × (length_of c ≡ n)
  unfolding name_of shorter_in leaves
  leaves_only =
      ⊎_elim (λ (l : n < 23). each_having n (leaves n) (each_below (λ n. having n (leaves n)) 23 refl n l))
      (λ (l : 23 ≤ n) c (i, k, e).
      let h = all_yes (less 23 by_length) refl in
      absurd (omega (arith, (row n i k).1, all_shorter by_length 23 n l h, all_shorter by_length 23 (suc n) (omega arith) h))) (below_or n 23)

  leaves_parted : (c d : ℕ) → In c (leaves n) → In d (leaves n) → deciding_byte (name_of c) ≡ deciding_byte (name_of d) → c ≡ d
  leaves_parted c d x y e =
      let h = leaves_only c x in
      let k = leaves_only d y in
      let i : candidate_of (length_of c) (deciding_byte (name_of c)) ≡ candidate_of (length_of d) (deciding_byte (name_of d)) = rw (h.1, k.1, e) in
      same_Some c d (sym (own_candidate c h.0) ∙ i ∙ own_candidate d k.0)

-- for every length
pub each_length : (n : ℕ) → Leaves n
each_length n = record { has = leaves_has n; only = leaves_only n; parted = leaves_parted n }

pub decides : {n b : ℕ} {r : Option ℕ} → r ≡ candidate_of n b → Decides n b r
decides {n} e = record { is = e; by = each_length n }
