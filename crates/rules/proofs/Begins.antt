-- The parts and owners before the first directory.
use Prim.Native.Nat.{ℕ, zero, suc, ◌<◌, ◌≤◌}
use mathlib.Core.List.{List, [], ◌∷◌, map}
use mathlib.Core.Logic.{inl, ⊎_elim}
use mathlib.Core.Path.{◌≡◌, refl, sym, ap, ◌∙◌, subst}
use native.Mathlib.Omega.{arith}
use lib.ListN.{length, get_or, replicate, length-replicate}
use Rattle.wire.proofs.Patches.{repeated_at}
use Rattle.fileheader.specs.declared.FileHead.{FileHead}
use Rattle.rules.specs.Partition.{Partition}
use Rattle.rules.specs.Rules.{Directory}
use Rattle.rules.specs.Turn.{first_part, first_parts}
use Rattle.rules.proofs.Agreement.{Agree}
use Rattle.rules.proofs.Directories.{graph, first_early}
use Rattle.rules.proofs.Graph.{State, Early, final, final_low}

pub length_map : (f : ℕ → ℕ) (xs : List ℕ) → length (map f xs) ≡ length xs
length_map f [] = refl
length_map f (x ∷ xs) = ap suc (length_map f xs)

pub map_at : (f : ℕ → ℕ) (xs : List ℕ) (i : ℕ) → i < length xs → get_or (map f xs) i 0 ≡ f (get_or xs i 0)
map_at f [] i l = absurd (omega arith)
map_at f (x ∷ xs) zero l = refl
map_at f (x ∷ xs) (suc i) l = map_at f xs i (omega arith)

early_mark : (k : ℕ) → Early k → (Directory k → ⊥) × (8 ≤ k → k ≡ 9)
early_mark k =
    ⊎_elim
    (λ (e : k ≡ 7). (⊎_elim (λ (y : k ≡ 1). omega arith) (λ (y : k ≡ 6). omega arith), λ l. absurd (omega arith)))
    (⊎_elim
    (λ (e : k ≡ 9). (⊎_elim (λ (y : k ≡ 1). omega arith) (λ (y : k ≡ 6). omega arith), λ l. e))
    (⊎_elim
    (λ (e : k ≡ 0). (⊎_elim (λ (y : k ≡ 1). omega arith) (λ (y : k ≡ 6). omega arith), λ l. absurd (omega arith)))
    (⊎_elim
    (λ (e : k ≡ 2). (⊎_elim (λ (y : k ≡ 1). omega arith) (λ (y : k ≡ 6). omega arith), λ l. absurd (omega arith)))
    (λ (e : k ≡ 3). (⊎_elim (λ (y : k ≡ 1). omega arith) (λ (y : k ≡ 6). omega arith), λ l. absurd (omega arith))))))

module _ (s : List ℕ) (h : FileHead) (qs : List ℕ) (p : Partition s 100 (length s) qs) where
  is_first : (i : ℕ) → i < length qs → get_or (first_parts s h qs) i 0 ≡ first_part s h (get_or qs i 0)
  is_first i l = map_at (first_part s h) qs i l

  pub begins : State qs (graph s h qs p) (first_parts s h qs) (replicate (length qs) 0)
  unfolding graph
  begins = record {
    parts = length_map (first_part s h) qs;
    owners = length-replicate (length qs) 0;
    fixed = λ i l b. (ap final (is_first i l), repeated_at 0 (length qs) i);
    alone = λ i l e. repeated_at 0 (length qs) i;
    back = λ i l b n. absurd (n (is_first i l ∙ b));
    done = λ i l d. absurd ((early_mark (first_part s h (get_or qs i 0)) (first_early s h (get_or qs i 0))).0 (subst Directory (is_first i l) d));
    shape = λ i l k. inl (is_first i l ∙ (early_mark (first_part s h (get_or qs i 0)) (first_early s h (get_or qs i 0))).1
        (subst (λ (x : ℕ). 8 ≤ x) (is_first i l) k));
    leads = λ i l b n. absurd (n (is_first i l ∙ b));
  }

  -- every assignment agrees with them
  pub begin_agrees : (gs hs : List ℕ) (w : State qs (graph s h qs p) gs hs) (all : (i : ℕ) → i < length qs → get_or gs i 0 < 8)
      → Agree qs (graph s h qs p) gs hs w all (first_parts s h qs) (replicate (length qs) 0)
  unfolding graph
  begin_agrees gs hs w all i l n =
      let f = w.fixed i l (λ e. n (is_first i l ∙ e)) in
      (ap final (is_first i l) ∙ sym f.0 ∙ final_low (get_or gs i 0) (all i l), repeated_at 0 (length qs) i ∙ sym f.1)
