-- Key headers: what the reader answers, from facts, and back.
use Prim.Native.Nat.{ℕ, ◌+◌, ◌-◌, ◌<◌, ◌≤◌}
use mathlib.Core.Bool.{Bool, true, false, not}
use mathlib.Core.List.{List}
use mathlib.Core.Path.{◌≡◌, refl, sym, ap, ◌∙◌}
use native.Mathlib.Omega.{arith}
use lib.Dec.{ltb}
use lib.ListN.{length}
use Rattle.wire.specs.Check.{All, all, pick}
use Rattle.wire.specs.Layout.{offset_width, values_at}
use Rattle.wire.specs.Number.{num_at, signed_of}
use Rattle.key.specs.Header.{key_layout, fixed_part, width_at, key_from, key_at, names_in, sum_of, limits, in_limits, well_formed, header_of, header_in}
use Rattle.key.specs.declared.header.Key.{Key}
use Rattle.key.specs.declared.header.Names.{Names}
use Rattle.std.specs.Prelude.{Option, Some, None}
use Rattle.wire.proofs.Checks.{yes_all, all_yes, not_all, from_picked, false_true}
use Rattle.wire.proofs.Layouts.{width_within}
use Rattle.wire.proofs.Texts.{Stands, stands, is_cut, none_left}
use Rattle.key.proofs.Names.{no_class, from_names}

-- where the numbers of a header at p stand, over the width of an offset
pub record Placed (w : ℕ) (s : List ℕ) (p : ℕ) (k : Key) : Type 0 where
  pub nbytes : k.nbytes ≡ num_at 4 s p
  pub version : k.version ≡ num_at 2 s (p + 4)
  pub objlen : k.objlen ≡ num_at 4 s (p + 6)
  pub datime : k.datime ≡ num_at 4 s (p + 10)
  pub keylen : k.keylen ≡ num_at 2 s (p + 14)
  pub cycle : k.cycle ≡ signed_of 2 (num_at 2 s (p + 16))
  pub seekkey : k.seekkey ≡ num_at w s (p + 18)
  pub seekpdir : k.seekpdir ≡ num_at w s (p + (18 + w))

pub placed : (w : ℕ) (s : List ℕ) (p : ℕ) (n : Names) → Placed w s p (key_from (values_at (key_layout w) s p) n)
placed w s p n =
    let a : p + 4 + 2 ≡ p + 6 = omega arith in
    let b : p + 6 + 4 ≡ p + 10 = omega arith in
    let c : p + 10 + 4 ≡ p + 14 = omega arith in
    let d : p + 14 + 2 ≡ p + 16 = omega arith in
    let e : p + 16 + 2 ≡ p + 18 = omega arith in
    let f : p + 18 + w ≡ p + (18 + w) = omega arith in
    rw (a, b, c, d, e, f)
    (record { nbytes = refl; version = refl; objlen = refl; datime = refl; keylen = refl; cycle = refl; seekkey = refl; seekpdir = refl })

-- the bytes before the strings, as they are worked out of the Version that was read
pub fixed_at : (s : List ℕ) (p : ℕ) {v n : ℕ} → v ≡ num_at 2 s (p + 4) → n ≡ fixed_part (offset_width v) → n ≡ fixed_part (width_at s p)
fixed_at s p e f = f ∙ ap (λ (v : ℕ). fixed_part (offset_width v)) e

-- numbers within the limits, or not
module _ {nbytes version objlen keylen sum : ℕ} where
  pub within : All (limits nbytes version objlen keylen sum) → true ≡ in_limits nbytes version objlen keylen sum
  unfolding in_limits
  within h = sym (yes_all (limits nbytes version objlen keylen sum) h)

  pub not_within : (All (limits nbytes version objlen keylen sum) → ⊥) → false ≡ in_limits nbytes version objlen keylen sum
  unfolding in_limits
  not_within h = sym (not_all (limits nbytes version objlen keylen sum) h)

  -- as `if !is_formed(..)` knows it
  pub from_within : (b : Bool) → b ≡ in_limits nbytes version objlen keylen sum → not b ≡ false
      → All (limits nbytes version objlen keylen sum)
  unfolding in_limits
  from_within true e h = all_yes (limits nbytes version objlen keylen sum) (sym e)
  from_within false e h = false_true (sym h)

  pub from_not_within : (b : Bool) → b ≡ in_limits nbytes version objlen keylen sum → not b ≡ true
      → All (limits nbytes version objlen keylen sum) → ⊥
  unfolding in_limits
  from_not_within true e h l = false_true h
  from_not_within false e h l = false_true (e ∙ yes_all (limits nbytes version objlen keylen sum) l)

-- the strings n of the header at p, as read within end: they end where the sum does
pub record Strings (s : List ℕ) (p end : ℕ) (n : Names) : Type 0 where
  pub read : Some n ≡ names_in s (p + fixed_part (width_at s p)) end
  pub class : Stands s (p + fixed_part (width_at s p)) end n.class
  pub name : Stands s n.class.next end n.name
  pub title : Stands s n.name.next end n.title
  pub sum : n.title.next ≡ p + sum_of (key_at s p n)

-- the strings of a key
abbrev pub names_of : Key → Names
names_of k = record { class = k.class; name = k.name; title = k.title }

module _ (s : List ℕ) (p end : ℕ) where
  strings_in : {n : Names} → Some n ≡ names_in s (p + fixed_part (width_at s p)) end → Strings s p end n
  unfolding key_at
  strings_in e =
      let f = from_names s (p + fixed_part (width_at s p)) end e in
      let a = stands s _ end f.class in
      let b = stands s _ end f.name in
      let c = stands s _ end f.title in
      record { read = e; class = a; name = b; title = c; sum = omega arith }

  cut_strings : None ≡ names_in s (p + fixed_part (width_at s p)) end → None ≡ header_in s p end
  unfolding header_in
  cut_strings e = ap (header_of (key_at s p)) e

  -- the same at a place q that is theirs
  module _ {q : ℕ} (i : q ≡ p + fixed_part (width_at s p)) where
    pub strings : {n : Names} → Some n ≡ names_in s q end → Strings s p end n
    strings e = strings_in (rw i at e)

    pub no_strings : None ≡ names_in s q end → None ≡ header_in s p end
    no_strings e = cut_strings (rw i at e)

  -- the same, where the bytes before them were worked out of the Version that was read
  module _ {v m : ℕ} (e : v ≡ num_at 2 s (p + 4)) (f : m ≡ fixed_part (offset_width v)) where
    pub strings_read : {n : Names} → Some n ≡ names_in s (p + m) end → Strings s p end n
    strings_read g = let i = fixed_at s p e f in strings (omega (arith, i)) g

    pub no_strings_read : None ≡ names_in s (p + m) end → None ≡ header_in s p end
    no_strings_read g = let i = fixed_at s p e f in no_strings (omega (arith, i)) g

  -- no byte is left for strings
  pub too_short : end ≤ p + fixed_part (width_at s p) → None ≡ header_in s p end
  too_short l = cut_strings (no_class s (p + fixed_part (width_at s p)) end (none_left s (p + fixed_part (width_at s p)) end l))

  -- nor is there any past the file
  pub past_file : length s < end → None ≡ header_in s p end
  past_file l =
      let q = p + fixed_part (width_at s p) in
      cut_strings (no_class s q end (is_cut s q end (λ h. omega (arith, h.0))))

  -- nor where fewer than the narrow form has are left
  pub shorter : end ≤ p + 26 → None ≡ header_in s p end
  shorter l = too_short (omega (arith, width_within (ltb 1000 (num_at 2 s (p + 4)))))

  -- the key k of strings n that were read, and the test of its limits
  module _ {n : Names} {k : Key} (f : Strings s p end n) (is : k ≡ key_at s p n) where
    header_is : header_in s p end ≡ pick (all (well_formed k)) (Some k) None
    unfolding header_in
    header_is = ap (header_of (key_at s p)) (sym f.read) ∙ ap (λ (l : Key). pick (all (well_formed l)) (Some l) None) (sym is)

    pub good : All (well_formed k) → Some k ≡ header_in s p end
    good h = sym (header_is ∙ rw (yes_all (well_formed k) h))

    module _ {b : Bool} (e : b ≡ in_limits k.nbytes k.version k.objlen k.keylen (n.title.next - p)) where
      tested : header_in s p end ≡ pick b (Some k) None
      unfolding in_limits
      tested =
          let m : n.title.next - p ≡ sum_of k = omega (arith, f.sum, ap sum_of is) in
          header_is ∙ ap (λ (b : Bool). pick b (Some k) None) (sym (rw m at e))

      pub is_good : b ≡ true → Some k ≡ header_in s p end
      is_good i = sym (tested ∙ rw i)

      pub is_bad : b ≡ false → None ≡ header_in s p end
      is_bad i = sym (tested ∙ rw i)

  -- what a header that was read says
  pub record Formed (k : Key) : Type 0 where
    pub is : k ≡ key_at s p (names_of k)
    pub strings : Strings s p end (names_of k)
    pub sum : k.title.next ≡ p + sum_of k
    pub fits : All (well_formed k)

  pub from_good : {k : Key} → Some k ≡ header_in s p end → Formed k
  unfolding header_in key_at
  from_good {k} e = go (names_in s (p + fixed_part (width_at s p)) end) refl e
    where
      go : (x : Option Names) → x ≡ names_in s (p + fixed_part (width_at s p)) end → Some k ≡ header_of (key_at s p) x → Formed k
      go (Some n) i e =
          let f = from_picked (well_formed (key_at s p n)) (Some (key_at s p n)) None e (λ j. let z : ◌≡◌ {A = ℕ} 0 1 = cc in omega arith) in
          let g : k ≡ key_at s p n = let h = f.0 in cc in
          rw g (record { is = refl; strings = strings_in i; sum = (strings_in i).sum; fits = f.1 })
      go None i e = let z : ◌≡◌ {A = ℕ} 0 1 = cc in absurd (omega arith)

  -- its strings end at the sum, before the end, and in the file
  pub header_lies : {k : Key} → Some k ≡ header_in s p end
      → (k.title.next ≡ p + sum_of k) × (k.title.next ≤ end) × (end ≤ length s)
  header_lies e = let f = from_good e in (f.sum, f.strings.title.fits, f.strings.title.room)
