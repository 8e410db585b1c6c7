-- Three strings in a row: what the reader answers, from what each gives, and back.
use Prim.Native.Nat.{ℕ}
use mathlib.Core.List.{List}
use mathlib.Core.Path.{◌≡◌, refl, sym}
use native.Mathlib.Omega.{arith}
use Rattle.wire.specs.Text.{text_in, on_text}
use Rattle.key.specs.Header.{names_in}
use Rattle.wire.specs.declared.text.Text.{Text}
use Rattle.std.specs.Prelude.{Option, Some, None}
use Rattle.key.specs.declared.header.Names.{Names}

-- names that were read go through a string that was
from_text : {n : Names} (x : Option Text) (f : Text → Option Names) → Some n ≡ on_text None f x
    → (t : Text) × ((Some t ≡ x) × (Some n ≡ f t))
unfolding on_text
from_text (Some t) f e = (t, (refl, e))
from_text {n} None f e = let z : ◌≡◌ {A = ℕ} 0 1 = cc in absurd (omega arith)

module _ (s : List ℕ) (p end : ℕ) where
  pub no_class : None ≡ text_in s p end → None ≡ names_in s p end
  unfolding names_in on_text
  no_class e = rw (sym e)

  pub no_name : {a : Text} → Some a ≡ text_in s p end → None ≡ text_in s a.next end → None ≡ names_in s p end
  unfolding names_in on_text
  no_name d e = rw (sym d, sym e)

  pub no_title : {a b : Text} → Some a ≡ text_in s p end → Some b ≡ text_in s a.next end → None ≡ text_in s b.next end
      → None ≡ names_in s p end
  unfolding names_in on_text
  no_title d e f = rw (sym d, sym e, sym f)

  pub all_names : {a b d : Text} → Some a ≡ text_in s p end → Some b ≡ text_in s a.next end → Some d ≡ text_in s b.next end
      → ◌≡◌ {A = (Option Names)} (Some (record { class = a; name = b; title = d })) (names_in s p end)
  unfolding names_in on_text
  all_names e f g = rw (sym e, sym f, sym g)

  -- what was read of three strings: each of them
  pub record Chained (n : Names) : Type 0 where
    pub class : Some n.class ≡ text_in s p end
    pub name : Some n.name ≡ text_in s n.class.next end
    pub title : Some n.title ≡ text_in s n.name.next end

  pub from_names : {n : Names} → Some n ≡ names_in s p end → Chained n
  unfolding names_in on_text
  from_names {n} e =
      let a = from_text (text_in s p end) _ e in
      let b = from_text (text_in s a.0.next end) _ a.1.1 in
      let d = from_text (text_in s b.0.next end) _ b.1.1 in
      let g = d.1.1 in
      let f : n ≡ record { class = a.0; name = b.0; title = d.0 } = cc in
      rw f (record { class = a.1.0; name = b.1.0; title = d.1.0 })
