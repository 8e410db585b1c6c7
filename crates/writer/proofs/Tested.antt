-- The tests of a header before it is written: from the facts of each branch, and back.
use Prim.Native.Nat.{ℕ, ◌+◌, ◌-◌, ◌^◌, ◌<◌, ◌≤◌}
use mathlib.Core.Bool.{true, false}
use mathlib.Core.List.{List, [], ◌∷◌, ◌++◌}
use mathlib.Core.Logic.{⊎_elim}
use mathlib.Core.Path.{◌≡◌, refl, sym, ap, subst, ◌∙◌}
use native.Mathlib.Omega.{arith}
use borrow.Rule.Slice.PartMut.{mid_of, put_mid}
use lib.Signed.{mag}
use lib.ListN.{length, length-take, length-drop}
use Rattle.std.specs.Prelude.{Ok, Err, Option, Some, None, ℤ}
use Rattle.wire.specs.Check.{le, All, all, pick}
use Rattle.wire.specs.Fault.{fault, answer_of}
use Rattle.wire.specs.Layout.{offset_width, value_bytes}
use Rattle.wire.specs.Number.{bits_of, bits16}
use Rattle.wire.specs.Patch.{patch}
use Rattle.wire.specs.Text.{text_of}
use Rattle.wire.specs.declared.fault.Fault.{Fault}
use Rattle.wire.specs.declared.fault.Reason.TheVariants as reason
use Rattle.wire.specs.Answer.{done}
use Rattle.wire.proofs.Layouts.{length_values}
use Rattle.wire.proofs.Patches.{patch_part, part_then}
use Rattle.wire.proofs.Checks.{picked, not_picked, from_picked, all_or, yes_all, all_yes, false_true}
use Rattle.key.specs.Header.{key_layout, fixed_part, bounded_sum, most_key_len, limits, in_limits}
use Rattle.key.specs.Writer.{Writes, sum_bytes, numbers_of, name_bytes, header_bytes, key_of, sum_fits, key_fits}
use Rattle.key.specs.declared.header.Fields.{Fields}
use Rattle.key.proofs.RoundTrips.{keeps}
use Rattle.key.proofs.Sums.{sum_held, sum_above}
use Rattle.key.proofs.Writes.{Accepted, from_bits, from_wide, length_names, inside, long_sum, bad_field, no_room, wrote}
use Rattle.writer.specs.Tested.{fields_fit, tested}

-- bits that are not refused are those of a number that they hold
from_some : (z : ℤ) → (bits16 z ≡ None → ⊥) → mag z < 32768
from_some z h = go (bits16 z) refl
  where
    go : (o : Option ℕ) → o ≡ bits16 z → mag z < 32768
    go (Some c) e = (from_bits refl e).1
    go None e = absurd (h (sym e))

module _ (f : Fields) (sum room : ℕ) where
  pub too_long : most_key_len < sum → Err (fault reason.Name 0) ≡ tested f sum room
  unfolding tested
  too_long l = sym (not_picked (le sum most_key_len ∷ []) _ _ (λ h. omega (arith, h)))

  unfit : sum ≤ most_key_len → (All (fields_fit f sum) → ⊥) → Err (fault reason.Field 0) ≡ tested f sum room
  unfolding tested
  unfit l h = sym (picked (le sum most_key_len ∷ []) _ _ (l, tt) ∙ not_picked (fields_fit f sum) _ _ h)

  pub wide_cycle : sum ≤ most_key_len → None ≡ bits16 f.cycle → Err (fault reason.Field 0) ≡ tested f sum room
  wide_cycle l e = unfit l (λ h. from_wide refl e h.0)

  pub not_formed : sum ≤ most_key_len → false ≡ in_limits f.nbytes f.version f.objlen sum sum → Err (fault reason.Field 0) ≡ tested f sum room
  unfolding in_limits
  not_formed l e = unfit l (λ h. false_true (e ∙ yes_all (limits f.nbytes f.version f.objlen sum sum) h.1.1.1))

  pub wide_key : sum ≤ most_key_len → 256 ^ offset_width f.version ≤ f.seekkey → Err (fault reason.Field 0) ≡ tested f sum room
  wide_key l m = unfit l (λ h. omega (arith, h.1))

  pub wide_dir : sum ≤ most_key_len → 256 ^ offset_width f.version ≤ f.seekpdir → Err (fault reason.Field 0) ≡ tested f sum room
  wide_dir l m = unfit l (λ h. omega (arith, h.1))

  module _ (l : sum ≤ most_key_len) (seekkey : f.seekkey < 256 ^ offset_width f.version) (seekpdir : f.seekpdir < 256 ^ offset_width f.version)
      (formed : true ≡ in_limits f.nbytes f.version f.objlen sum sum) where
    fit : mag f.cycle < 32768 → All (fields_fit f sum)
    unfolding in_limits
    fit m = (m, (seekkey, (seekpdir, all_yes (limits f.nbytes f.version f.objlen sum sum) (sym formed))))

    left : mag f.cycle < 32768
        → tested f sum room ≡ pick (all (le (f.seekkey + f.nbytes) room ∷ [])) (Ok (bits_of 2 f.cycle)) (Err (fault reason.Room 0))
    unfolding tested
    left m = picked (le sum most_key_len ∷ []) _ _ (l, tt) ∙ picked (fields_fit f sum) _ _ (fit m)

    pub past_room : (bits16 f.cycle ≡ None → ⊥) → room < f.seekkey + f.nbytes → Err (fault reason.Room 0) ≡ tested f sum room
    past_room e n = sym (left (from_some f.cycle e) ∙ not_picked (le (f.seekkey + f.nbytes) room ∷ []) _ _ (λ h. omega (arith, h)))

    pub passed : {y : ℤ} {c : ℕ} → y ≡ f.cycle → Some c ≡ bits16 y → f.seekkey + f.nbytes ≤ room → Ok c ≡ tested f sum room
    passed i e n =
        let b = from_bits i e in
        ap Ok b.0 ∙ sym (left b.1 ∙ picked (le (f.seekkey + f.nbytes) room ∷ []) _ _ (n, tt))

-- and back: what is known where nothing is refused
module _ (f : Fields) (sum room c : ℕ) (e : Ok c ≡ tested f sum room) where
  told : (c ≡ bits_of 2 f.cycle) × (sum ≤ most_key_len) × All (fields_fit f sum) × (f.seekkey + f.nbytes ≤ room)
  unfolding tested
  told =
      let a = from_picked (le sum most_key_len ∷ []) _ _ e (λ z. let y : ◌≡◌ {A = ℕ} 0 1 = cc in omega arith) in
      let b = from_picked (fields_fit f sum) _ _ a.0 (λ z. let y : ◌≡◌ {A = ℕ} 0 1 = cc in omega arith) in
      let d = from_picked (le (f.seekkey + f.nbytes) room ∷ []) _ _ b.0 (λ z. let y : ◌≡◌ {A = ℕ} 0 1 = cc in omega arith) in
      let i = d.0 in
      (cc, a.1.0, b.1, d.1.0)

  pub bits_told : c ≡ bits_of 2 f.cycle
  bits_told = told.0

  pub sum_told : sum ≤ most_key_len
  sum_told = told.1

  pub room_told : f.seekkey + sum ≤ room
  room_told = let t = told in omega (arith, t.2, t.3)

-- the same of a header's own strings, where n is their sum up to its bound
module _ (f : Fields) (class name title buf : List ℕ) {n : ℕ} (is : n ≡ bounded_sum f.version (length class) (length name) (length title)) where
  the_sum : n ≤ most_key_len → n ≡ sum_bytes f.version class name title
  the_sum l = is ∙ sym (sum_held f.version (length class) (length name) (length title) (omega arith))

  same_fields : n ≤ most_key_len → fields_fit f n ≡ key_fits f class name title
  unfolding key_of text_of
  same_fields l = ap (fields_fit f) (the_sum l)

  -- a header that is written: c are the two bytes of Cycle
  accepted : {c : ℕ} → Ok c ≡ tested f n (length buf) → Accepted f class name title buf
  accepted {c} e =
      let t = told f n (length buf) c e in
      record { sum = omega (arith, the_sum t.1, t.1); key = subst All (same_fields t.1) t.2; room = t.3 }

  pub strings_fit : {c : ℕ} → Ok c ≡ tested f n (length buf) → f.seekkey + sum_bytes f.version class name title ≤ length buf
  strings_fit {c} e = omega (arith, the_sum (sum_told f n (length buf) c e), room_told f n (length buf) c e)

  -- its numbers and then its strings stand at the front of the part from SeekKey on
  pub written : {c k : ℕ} {u v w : List ℕ} → Ok c ≡ tested f n (length buf) → k ≡ fixed_part (offset_width f.version) → f.datime < 4294967296
      → u ≡ patch (mid_of f.seekkey (length buf - f.seekkey) buf) 0 (value_bytes (key_layout (offset_width f.version)) (numbers_of f n))
      → v ≡ patch (mid_of k (length u - k) u) 0 (name_bytes class name title)
      → w ≡ put_mid f.seekkey (length buf - f.seekkey) buf (put_mid k (length u - k) u v)
      → Writes f class name title buf w (answer_of (Ok n))
  unfolding header_bytes
  written {c} {k} {u} {v} {w} e p d i j o =
      let h = accepted e in
      let sum = the_sum (sum_told f n (length buf) c e) in
      let room = room_told f n (length buf) c e in
      let part = mid_of f.seekkey (length buf - f.seekkey) buf in
      let numbers = value_bytes (key_layout (offset_width f.version)) (numbers_of f n) in
      let names = name_bytes class name title in
      let a = length_values (key_layout (offset_width f.version)) (numbers_of f n) in
      let b = length_names class name title in
      let l : length part ≡ length buf - f.seekkey = simp (length-take, length-drop) (omega arith) in
      let g : put_mid k (length u - k) u v ≡ patch part 0 (header_bytes f class name title)
      = part_then part 0 numbers names k i (omega arith) (omega arith) j
      ∙ ap (λ (m : ℕ). patch part 0 (value_bytes (key_layout (offset_width f.version)) (numbers_of f m) ++ names)) sum in
      keeps f class name title buf d
      (wrote f class name title buf h (ap done sum) (o ∙ patch_part buf _ _ f.seekkey (inside f class name title buf h) g))

  -- and one that is refused
  pub refused : {g : Fault} → Err g ≡ tested f n (length buf) → f.datime < 4294967296
      → Writes f class name title buf buf (answer_of (Err g))
  unfolding tested
  refused {g} e d =
      ⊎_elim
      (λ (l : All (le n most_key_len ∷ [])).
      let s : All (sum_fits f.version class name title) = omega (arith, the_sum l.0, l) in
      let e1 = e ∙ picked (le n most_key_len ∷ []) _ _ l in
      ⊎_elim
      (λ (h : All (fields_fit f n)).
      let e2 = e1 ∙ picked (fields_fit f n) _ _ h in
      ⊎_elim
      (λ (m : All (le (f.seekkey + f.nbytes) (length buf) ∷ [])).
      let e3 = e2 ∙ picked (le (f.seekkey + f.nbytes) (length buf) ∷ []) _ _ m in
      absurd cc)
      (λ (m : All (le (f.seekkey + f.nbytes) (length buf) ∷ []) → ⊥).
      let i : g ≡ fault reason.Room 0 = let j = e2 ∙ not_picked (le (f.seekkey + f.nbytes) (length buf) ∷ []) _ _ m in cc in
      let k = λ (o : f.seekkey + f.nbytes ≤ length buf). m (o, tt) in
      rw i (keeps f class name title buf d (no_room f class name title buf s (subst All (same_fields l.0) h) (omega (arith, k)) refl)))
      (all_or (le (f.seekkey + f.nbytes) (length buf) ∷ [])))
      (λ (h : All (fields_fit f n) → ⊥).
      let i : g ≡ fault reason.Field 0 = let j = e1 ∙ not_picked (fields_fit f n) _ _ h in cc in
      rw i (keeps f class name title buf d (bad_field f class name title buf s (λ k. h (subst All (sym (same_fields l.0)) k)) refl)))
      (all_or (fields_fit f n)))
      (λ (l : All (le n most_key_len ∷ []) → ⊥).
      let i : g ≡ fault reason.Name 0 = let j = e ∙ not_picked (le n most_key_len ∷ []) _ _ l in cc in
      let o = λ (p : n ≤ most_key_len). l (p, tt) in
      let m : most_key_len < n = omega (arith, o) in
      let k = sum_above f.version (length class) (length name) (length title) most_key_len is m in
      rw i (keeps f class name title buf d (long_sum f class name title buf (λ h. omega (arith, h, k)) refl)))
      (all_or (le n most_key_len ∷ []))
