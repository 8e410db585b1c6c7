-- Tags: which classes may stand there.
use Prim.Native.Nat.{ℕ, ◌≤◌}
use mathlib.Core.List.{List}
use mathlib.Core.Bool.{true, false}
use mathlib.Core.Path.{◌≡◌, sym, ◌∙◌}
use native.Mathlib.Omega.{arith}
use lib.ListN.{get_or}
use Rattle.wire.specs.Check.{all}
use Rattle.wire.proofs.Checks.{all_yes, yes_all, not_all, false_true}
use Rattle.infotag.specs.Tag.{allowed, fresh}
use Rattle.infotag.specs.declared.tag.Classes.{Classes}

module _ (k : Classes) (c : ℕ) where
  pub allowed_high : all (allowed k c) ≡ true → c ≤ k.high
  allowed_high e = omega (arith, all_yes (allowed k c) e)

  module _ (ts : List ℕ) where
    pub not_allowed : all (allowed k c) ≡ false → all (fresh ts k c) ≡ false
    not_allowed e = not_all (fresh ts k c) (λ h. false_true (sym e ∙ yes_all (allowed k c) (h.0, (h.1.0, tt))))

    pub repeated : (get_or ts c 0 ≡ 0 → ⊥) → all (fresh ts k c) ≡ false
    repeated n = not_all (fresh ts k c) (λ h. n h.1.1.0)

    pub is_fresh : all (allowed k c) ≡ true → get_or ts c 0 ≡ 0 → all (fresh ts k c) ≡ true
    is_fresh e z = let h = all_yes (allowed k c) e in yes_all (fresh ts k c) (h.0, (h.1.0, (z, tt)))
