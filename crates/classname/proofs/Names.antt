-- The class that a byte string names.
use Prim.Native.Nat.{ℕ, ◌<◌}
use mathlib.Core.List.{List, []}
use mathlib.Core.Path.{◌≡◌, refl, sym, ap, ◌∙◌}
use lib.ListN.{length, get_or}
use Rattle.std.specs.Prelude.{Option, Some, None, position}
use Rattle.std.proofs.lemmas.List.Quantifiers.{position-Some}
use Rattle.std.proofs.lemmas.Option.{same_Some}
use Rattle.wire.specs.Equal.{eq_bytes}
use Rattle.wire.proofs.Checks.{false_true}
use Rattle.wire.proofs.Equal.{eq_same, same_eq}
use Rattle.classname.specs.Name.{class_names, classes, name_of, class_of, Classified}
use Rattle.classname.specs.Length.{deciding_byte, candidate_of}
use Rattle.classname.proofs.Finds.{position_None}
use Rattle.classname.proofs.Lengths.{own_candidate}

-- a byte string has no class past the last of a list
class_most : (ns : List (List ℕ)) (x : List ℕ) {i : ℕ} → position (eq_bytes x) ns ≡ Some i → i < length ns
class_most ns x {i} e = (position-Some (eq_bytes x) ns i [] e).0

-- two classes with one name are one
same_class : (c d : ℕ) → c < classes → d < classes → name_of c ≡ name_of d → c ≡ d
same_class c d l m e =
    same_Some c d (sym (own_candidate c l) ∙ ap (λ (x : List ℕ). candidate_of (length x) (deciding_byte x)) e ∙ own_candidate d m)

-- for every byte string
pub each_name : (s : List ℕ) → Classified s
unfolding name_of class_of
each_name s = record { named = named; only = only; none = none }
  where
    only : (c : ℕ) → class_of s ≡ Some c → (c < classes) × (name_of c ≡ s)
    only c e =
        let h = position-Some (eq_bytes s) class_names c [] e in
        (class_most class_names s e, sym (eq_same s (get_or class_names c []) h.1))

    other : class_of s ≡ None → (c : ℕ) → c < classes → name_of c ≡ s → ⊥
    other e c l i =
        let h = position_None (eq_bytes s) class_names [] e c l in
        false_true (sym h ∙ rw i (same_eq s))

    named : (c : ℕ) → c < classes → name_of c ≡ s → class_of s ≡ Some c
    named c l e = go (class_of s) refl
      where
        go : (x : Option ℕ) → class_of s ≡ x → class_of s ≡ Some c
        go (Some d) i = let h = only d i in i ∙ ap Some (same_class d c h.0 l (h.1 ∙ sym e))
        go None i = absurd (other i c l e)

    none : ((c : ℕ) → c < classes → name_of c ≡ s → ⊥) → class_of s ≡ None
    none h = go (class_of s) refl
      where
        go : (x : Option ℕ) → class_of s ≡ x → class_of s ≡ None
        go (Some d) i = let k = only d i in absurd (h d k.0 k.1)
        go None i = i
