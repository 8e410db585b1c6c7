-- The code's tables: each right by one test over all of it, so that no law repeats a table's entries.
use Prim.Native.Nat.{ℕ, zero, suc, ◌+◌, ◌-◌, ◌<◌, ◌≤◌}
use mathlib.Core.List.{List, [], ◌∷◌}
use mathlib.Core.Bool.{Bool, true, false}
use mathlib.Core.Path.{◌≡◌, refl, sym, ap, ◌∙◌}
use native.Mathlib.Omega.{arith}
use lib.ListN.{length, get_or, take, drop, length-map}
use Rattle.std.specs.Prelude.{Option, Some, None}
use Rattle.std.proofs.lemmas.Option.{none-some, same_Some}
use Rattle.wire.specs.Check.{Check, le, eq, yes, all, All}
use Rattle.wire.specs.Equal.{eq_bytes}
use Rattle.wire.specs.Number.{num_at}
use Rattle.wire.proofs.Checks.{false_true}
use Rattle.wire.proofs.Every.{every, each_below}
use Rattle.wire.proofs.Equal.{eq_same, same_eq}
use Rattle.classname.specs.Find.{first_in}
use Rattle.classname.specs.Name.{classes, name_of, class_of}
use Rattle.classname.specs.Length.{by_length, shorter, leaves, deciding_byte, deciding_bytes, chosen, candidate_of, In, Counted, Decides}
use Rattle.classname.proofs.Finds.{byte_at, first_holds}
use Rattle.classname.proofs.Lengths.{length_of, own_candidate, each_length, candidate_in, row}
use Rattle.classname.proofs.Names.{each_name}

-- every name has 9 to 22 bytes
abbrev lengths : ℕ → List Check
lengths c = le 9 (length_of c) ∷ le (length_of c) 22 ∷ []

within : (c : ℕ) → c < classes → All (lengths c)
unfolding name_of
within = each_below lengths classes refl

-- a length that no name has leaves none
no_members : (cs : List ℕ) (b : ℕ) → ((c : ℕ) → In c cs → ⊥) → None ≡ chosen cs (first_in (deciding_bytes cs) b)
unfolding first_in
no_members [] b h = refl
no_members (c ∷ cs) b h = absurd (h c (0, omega arith, refl))

pub no_class : (n b : ℕ) → ((c : ℕ) → All (lengths c) → length_of c ≡ n → ⊥) → None ≡ candidate_of n b
unfolding candidate_of
no_class n b h = no_members (leaves n) b (λ c i. let o = (each_length n).only c i in h c (within c o.0) o.1)

-- the table of how many names are shorter, from 9 bytes on
abbrev pub counts : List ℕ → ℕ → List Check
counts t k =
    eq (get_or t k 0) (shorter (k + 9)) ∷ eq (get_or t (k + 1) 0) (shorter (suc (k + 9))) ∷ le (get_or t k 0) (get_or t (k + 1) 0)
    ∷ le (get_or t (k + 1) 0) classes ∷ []

pub counted : (t : List ℕ) → all (every (counts t) 14) ≡ true → (n : ℕ) → 9 ≤ n → n ≤ 22 → {a z : ℕ} → a ≡ num_at 1 t (n - 9)
    → z ≡ num_at 1 t (n - 9 + 1) → Counted n a z
counted t h n l m {a} {z} i j =
    let f = each_below (counts t) 14 h (n - 9) (omega arith) in
    let e : n - 9 + 9 ≡ n = omega arith in
    let x = i ∙ byte_at t (n - 9) in
    let y = j ∙ byte_at t (n - 9 + 1) in
    record {
      first = x ∙ f.0 ∙ ap shorter e;
      end = y ∙ f.1.0 ∙ ap (λ (k : ℕ). shorter (suc k)) e;
      rising = rw (x, y) f.1.1.0;
      most = rw y f.1.1.1.0;
    }

take_bytes : (m : ℕ) (cs : List ℕ) → take m (deciding_bytes cs) ≡ deciding_bytes (take m cs)
take_bytes zero cs = refl
take_bytes (suc m) [] = refl
take_bytes (suc m) (c ∷ cs) = ap (λ (r : List ℕ). deciding_byte (name_of c) ∷ r) (take_bytes m cs)

drop_bytes : (m : ℕ) (cs : List ℕ) → drop m (deciding_bytes cs) ≡ deciding_bytes (drop m cs)
drop_bytes zero cs = refl
drop_bytes (suc m) [] = refl
drop_bytes (suc m) (c ∷ cs) = drop_bytes m cs

-- the first of the rows a to z with a byte
module _ (n b : ℕ) {a z : ℕ} (h : Counted n a z) (t : List ℕ) (is : t ≡ deciding_bytes by_length) {y : Option ℕ}
    (found : y ≡ first_in (take (z - a) (drop a t)) b) where
  rows : take (z - a) (drop a t) ≡ deciding_bytes (leaves n)
  unfolding leaves
  rows = rw (is, drop_bytes a by_length, take_bytes (z - a) (drop a by_length), h.first, h.end)

  candidate_is : candidate_of n b ≡ chosen (leaves n) y
  unfolding candidate_of
  candidate_is = rw (found, rows)

  pub no_candidate : y ≡ None → None ≡ candidate_of n b
  no_candidate g = sym (candidate_is ∙ ap (chosen (leaves n)) g)

  module _ {i : ℕ} (g : y ≡ Some i) where
    at_row : i < length (leaves n)
    at_row = rw (rows, length-map) at (first_holds _ b i (sym found ∙ g)).0

    pub row_below : a + i < classes
    row_below = let r = (row n i at_row).1 in omega (arith, h.first, h.end, h.most)

    pub candidate_at : (cs : List ℕ) → cs ≡ by_length → {k : ℕ} → k ≡ num_at 1 cs (a + i) → Some k ≡ candidate_of n b
    candidate_at cs j f =
        let e : get_or by_length (shorter n + i) 0 ≡ get_or cs (a + i) 0 = rw (h.first, j) in
        ap Some (f ∙ byte_at cs (a + i)) ∙ sym (candidate_is ∙ ap (chosen (leaves n)) g ∙ ap Some ((row n i at_row).0 ∙ e))

-- the name of each class stands in the table of names, and ends at or before m
abbrev pub spelled : List ℕ → List ℕ → ℕ → List Check
spelled names starts c = yes (eq_bytes (take (length_of c) (drop (get_or starts c 0) names)) (name_of c)) ∷ []

abbrev pub ended : ℕ → List ℕ → ℕ → List Check
ended m starts c = le (get_or starts c 0 + length_of c) m ∷ []

-- no class is left
pub none_named : (s : List ℕ) {b : ℕ} → b ≡ num_at 1 s 9 → Decides (length s) b None → None ≡ class_of s
none_named s e h =
    sym ((each_name s).none (λ c l i.
    none-some c (h.is ∙ rw (e, byte_at s 9, ← i) (own_candidate c l))))

-- the class that a name's length and byte leave
module _ (s : List ℕ) {b d : ℕ} (is : b ≡ num_at 1 s 9) (decided : Decides (length s) b (Some d)) where
  own : (c : ℕ) → c < classes → name_of c ≡ s → d ≡ c
  own c l e = same_Some d c (decided.is ∙ rw (is, byte_at s 9, ← e) (own_candidate c l))

  left : (d < classes) × (length_of d ≡ length s)
  left = decided.by.only d (candidate_in (length s) b d (sym decided.is))

  -- the rest is tested against the table
  module _ (starts : List ℕ) {a : ℕ} (i : a ≡ num_at 1 starts d) where
    start : a ≡ get_or starts d 0
    start = i ∙ byte_at starts d

    pub part_within : (m : ℕ) → all (every (ended m starts) classes) ≡ true → a + length s ≤ m
    part_within m h = omega (arith, (each_below (ended m starts) classes h d left.0).0, start, left)

    module _ (names : List ℕ) (spells : all (every (spelled names starts) classes) ≡ true) where
      part : take (a + length s - a) (drop a names) ≡ name_of d
      part =
          let k : a + length s - a ≡ length_of d = omega (arith, left) in
          rw (k, start) (eq_same _ _ (each_below (spelled names starts) classes spells d left.0).0)

      module _ {y : Bool} (e : y ≡ eq_bytes s (take (a + length s - a) (drop a names))) where
        pub rest_same : y ≡ true → Some d ≡ class_of s
        rest_same g = sym ((each_name s).named d left.0 (sym (eq_same s (name_of d) (rw (← part) (sym e ∙ g)))))

        pub rest_other : y ≡ false → None ≡ class_of s
        rest_other g = sym ((each_name s).none other)
          where
            other : (c : ℕ) → c < classes → name_of c ≡ s → ⊥
            other c m f =
                let j : name_of d ≡ s = ap name_of (own c m f) ∙ f in
                false_true (sym g ∙ e ∙ rw (part, j) (same_eq s))
