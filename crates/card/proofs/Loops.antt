-- Loops over a card that is read: zeros tested, blocks looked at.
use Prim.Native.Nat.{ℕ, zero, suc, ◌+◌, ◌-◌, ◌*◌, ◌/◌, ◌<◌, ◌≤◌}
use mathlib.Core.Bool.{Bool, true, false, and-false}
use mathlib.Core.List.{List, [], ◌∷◌}
use mathlib.Core.Path.{◌≡◌, refl, sym, ap, ◌∙◌, subst}
use native.Mathlib.Numerals.{add-one}
use native.Mathlib.Omega.{arith}
use borrow.Author.Tests.{eq-eqb, ne_eqb}
use lib.ListN.{length, take, drop, get_or, length-take, length-drop}
use Rattle.std.specs.Bool.{MatchBool}
use Rattle.std.specs.List.{AllWithin, HoldsAt}
use Rattle.wire.specs.Answer.{refusal}
use Rattle.wire.specs.Fault.{fault, fault_answer}
use Rattle.wire.specs.Parts.{part}
use Rattle.wire.specs.declared.fault.Fault.{Fault}
use Rattle.wire.specs.declared.fault.Reason.{Reason}
use Rattle.card.specs.Read.{block_at, block_fault, first_of, fault_from, zeros, Faults}
use Rattle.card.proofs.Blocks.{is_28}

-- all are zeros, or one is not
all_zeros : (s : List ℕ) → ((k : ℕ) → k < length s → get_or s k 0 ≡ 0) → true ≡ zeros s
unfolding zeros
all_zeros [] h = refl
all_zeros (b ∷ s) h = rw (eq-eqb b 0 (h 0 (omega arith))) (all_zeros s (λ k l. h (suc k) (omega arith)))

no_zero : (s : List ℕ) (k : ℕ) → k < length s → (get_or s k 0 ≡ 0 → ⊥) → false ≡ zeros s
unfolding zeros
no_zero [] k l h = absurd (omega arith)
no_zero (b ∷ s) zero l h = rw (ne_eqb b 0 h)
no_zero (b ∷ s) (suc k) l h = rw (← (no_zero s k (omega arith) h)) (sym (and-false _))

pub zeros_tested : (s : List ℕ) (r : Bool)
    → MatchBool r (AllWithin (λ x. x ≡ 0) s 0 (length s)) ((k : ℕ) × (k < length s) × HoldsAt (λ x. x ≡ 0 → ⊥) s k) → r ≡ zeros s
zeros_tested s true h = all_zeros s (λ k l. h k 0 (omega arith) l)
zeros_tested s false h = no_zero s h.0 h.1 (h.2 0)

-- a fault that was found
pub faults : {f : Fault} {r : Reason} {n : ℕ} (m : ℕ) → f ≡ fault r 0 → fault_answer (fault r 0) ≡ refusal m 0 → (m ≡ 0 → ⊥) → m ≡ n → Faults f n
faults {f} {r} {n} m e a z i = rw (e, ← i) (z, a)

-- a block that is not there, and one that is
pub missing : (c : List ℕ) (i : ℕ) → length c / 512 ≤ i → 28 ≡ block_fault i (block_at c i)
unfolding part
missing c i l = is_28 i (block_at c i) (λ e. omega (arith, length-take 512 (drop (i * 512) c), length-drop (i * 512) c))

pub block_is : (c : List ℕ) (i : ℕ) → take (i * 512 + 512 - i * 512) (drop (i * 512) c) ≡ block_at c i
unfolding part
block_is c i = let e : i * 512 + 512 - i * 512 ≡ 512 = omega arith in rw e refl

pub block_long : (c : List ℕ) (i : ℕ) → i < length c / 512 → length (take (i * 512 + 512 - i * 512) (drop (i * 512) c)) ≡ 512
block_long c i l = omega (arith, length-take (i * 512 + 512 - i * 512) (drop (i * 512) c), length-drop (i * 512) c)

-- while blocks are looked at: what is left decides
abbrev pub Scanning : List ℕ → ℕ → ℕ → Type 0
Scanning c n i = fault_from c n 0 ≡ fault_from c (n - i) i

first_left : (c : List ℕ) (n i : ℕ) → i < n → fault_from c (n - i) i ≡ first_of (block_fault i (block_at c i)) (fault_from c (n - (i + 1)) (i + 1))
unfolding fault_from
first_left c n i l = let e : n - i ≡ suc (n - (i + 1)) = omega arith in rw (e, add-one i)

module _ (c : List ℕ) (n i : ℕ) (h : Scanning c n i) where
  pub scan_turn : i < n → block_fault i (block_at c i) ≡ 0 → Scanning c n (i + 1)
  scan_turn l z = h ∙ first_left c n i l ∙ ap (λ (k : ℕ). first_of k (fault_from c (n - (i + 1)) (i + 1))) z

  pub scan_found : (f : Fault) → i < n → Faults f (block_fault i (block_at c i)) → Faults f (fault_from c n 0)
  scan_found f l g =
      subst (Faults f) (sym (h ∙ first_left c n i l ∙ stays (block_fault i (block_at c i)) (fault_from c (n - (i + 1)) (i + 1)) g.0)) g
    where
      stays : (x y : ℕ) → (x ≡ 0 → ⊥) → first_of x y ≡ x
      stays zero y e = absurd (e refl)
      stays (suc x) y e = refl

  pub scan_ended : n ≤ i → fault_from c n 0 ≡ 0
  unfolding fault_from
  scan_ended l = let e : n - i ≡ 0 = omega arith in h ∙ rw e refl
