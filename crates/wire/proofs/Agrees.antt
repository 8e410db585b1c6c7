-- What is read of bytes that agree is the same: numbers and strings.
use Prim.Native.Nat.{ℕ, zero, suc, ◌+◌, ◌≤◌, ◌<◌}
use mathlib.Core.List.{List, [], ◌∷◌}
use mathlib.Core.Logic.{⊎_elim}
use mathlib.Core.Path.{◌≡◌, refl, sym, ap, ◌∙◌}
use native.Mathlib.Omega.{arith}
use borrow.Author.Tests.{lt-ltb, le-ltb}
use lib.ListN.{length}
use Rattle.wire.specs.Agree.{Agree}
use Rattle.wire.specs.Check.{All, Holds}
use Rattle.wire.specs.Layout.{extent, values_at}
use Rattle.wire.specs.Number.{be_value, num_at}
use Rattle.wire.specs.Text.{least_long, prefix_size, text_size, text_of, length_at, form_fits, text_at, text_checks, text_in}
use Rattle.wire.specs.declared.text.Text.{Text}
use Rattle.std.specs.Prelude.{Some, None}
use Rattle.wire.proofs.Checks.{picked, below_or}
use Rattle.wire.proofs.Numbers.{num_in}
use Rattle.wire.proofs.Texts.{Stands, long_size, size_least}

module _ {s t : List ℕ} where
  -- fewer bytes agree too
  pub within : {a b : ℕ} (c d : ℕ) → Agree s t a b → a ≤ c → d ≤ b → Agree s t c d
  within c d h l m = record {
    left = omega (arith, h.left);
    right = omega (arith, h.right);
    same = λ i x y. h.same i (omega arith) (omega arith);
  }

  value_same : (w p : ℕ) {a b : ℕ} → Agree s t a b → a ≤ p → p + w ≤ b → be_value w s p ≡ be_value w t p
  unfolding be_value
  value_same zero p h l m = refl
  value_same (suc w) p h l m = rw (value_same w p h l (omega arith), h.same (p + w) (omega arith) (omega arith))

  pub num_same : (w p : ℕ) {a b : ℕ} → Agree s t a b → a ≤ p → p + w ≤ b → num_at w s p ≡ num_at w t p
  num_same w p h l m =
      num_in w s p (omega (arith, h.left)) ∙ value_same w p h l m ∙ sym (num_in w t p (omega (arith, h.right)))

  pub values_same : (ws : List ℕ) (p : ℕ) {a b : ℕ} → Agree s t a b → a ≤ p → p + extent ws ≤ b → values_at ws s p ≡ values_at ws t p
  values_same [] p h l m = refl
  values_same (w ∷ ws) p h l m = rw (num_same w p h l (omega arith), values_same ws (p + w) h (omega arith) (omega arith))

  -- the length of a string
  module _ (p end : ℕ) {x : Text} (e : Stands s p end x) {a b : ℕ} (h : Agree s t a b) (l : a ≤ p) (m : x.next ≤ b) where
    short : num_at 1 s p < least_long → length_at s p ≡ length_at t p
    unfolding length_at
    short k =
        let n = num_same 1 p h l (omega (arith, e.next, size_least x.len)) in
        rw (lt-ltb (num_at 1 s p) least_long k, lt-ltb (num_at 1 t p) least_long (omega arith)) n

    long : least_long ≤ num_at 1 s p → length_at s p ≡ length_at t p
    unfolding length_at text_at text_of text_size
    long k =
        let z = ap (λ (y : Text). y.next) e.is in
        let n = num_same 1 p h l (omega (arith, e.next, size_least x.len)) in
        let w = num_same 4 (p + 1) h (omega arith) (omega (arith, z, e.form, long_size (num_at 1 s p) k)) in
        rw (le-ltb (num_at 1 s p) least_long k, le-ltb (num_at 1 t p) least_long (omega arith)) w

    length_same : length_at s p ≡ length_at t p
    length_same = ⊎_elim (λ (k : num_at 1 s p < least_long). short k) (λ (k : least_long ≤ num_at 1 s p). long k) (below_or (num_at 1 s p) least_long)

    form_same : Holds (form_fits t p)
    form_same =
        let n = num_same 1 p h l (omega (arith, e.next, size_least x.len)) in
        ap prefix_size (sym n) ∙ e.form ∙ ap prefix_size length_same

    there_same : x ≡ text_at t p
    unfolding text_at
    there_same = e.is ∙ ap (text_of p) length_same

    -- a string that was read is read, within any end
    pub text_kept : (end' : ℕ) → x.next ≤ end' → end' ≤ length t → Some x ≡ text_in t p end'
    unfolding text_in
    text_kept end' f r =
        let c : All (text_checks t p end') = (r, (form_same, (omega (arith, ap (λ (y : Text). y.next) there_same), tt))) in
        ap Some there_same ∙ sym (picked (text_checks t p end') (Some (text_at t p)) None c)
