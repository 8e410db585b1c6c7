-- The data of records that are pointed to, and the copies of a keys list: which answer, from facts, and back.
use Prim.Native.Nat.{ℕ, ◌+◌, ◌≤◌}
use mathlib.Core.Bool.{Bool, true, false}
use mathlib.Core.List.{List}
use mathlib.Core.Path.{◌≡◌, refl, sym, ap, ◌∙◌}
use native.Mathlib.Omega.{arith}
use lib.ListN.{length}
use Rattle.wire.specs.Check.{Check, All}
use Rattle.wire.specs.Name.{t_file, t_directory}
use Rattle.wire.specs.declared.text.Text.{Text}
use Rattle.wire.proofs.Checks.{false_true, all_yes, picked, not_picked, from_picked}
use Rattle.key.specs.Header.{plain, sum_of, header_in}
use Rattle.key.specs.Piece.{piece_at}
use Rattle.key.specs.declared.header.Key.{Key}
use Rattle.std.specs.Prelude.{Option, Some, None}
use Rattle.std.specs.Prelude.{Ok}
use Rattle.key.specs.declared.piece.Piece.TheVariants.{Record}
use Rattle.key.proofs.Headers.{header_lies}
use Rattle.key.proofs.Others.{on_record_law, from_on, record_there_law}
use Rattle.record.specs.Name.{named}
use Rattle.keylist.specs.Keys.{span, data_in, free_fits, free_in, info_fits, info_in, list_class, list_fits, list_in, plain_or, copy_in}
use Rattle.keylist.specs.declared.Data.{Data}

-- the class of a keys list
module _ (s : List ℕ) (t : Text) {b : Bool} (e : b ≡ named s t t_file) where
  pub is_first : b ≡ true → true ≡ list_class s t
  unfolding list_class
  is_first h = rw (sym e ∙ h)

  pub is_second : {r : Bool} → b ≡ false → r ≡ named s t t_directory → r ≡ list_class s t
  unfolding list_class
  is_second h i = rw (sym e ∙ h) i

-- the data of a record
module _ (fits : Key → List Check) (s : List ℕ) (p : ℕ) where
  -- where the record k stands at p
  module _ {k : Key} (e : piece_at s p ≡ Ok (Record k)) where
    pub no_data : (All (fits k) → ⊥) → None ≡ data_in fits s p
    unfolding data_in
    no_data h = on_record_law _ _ e (sym (not_picked (fits k) _ _ h))

    pub a_data : All (fits k) → Some (span (p + k.keylen) (p + k.nbytes)) ≡ data_in fits s p
    unfolding data_in
    a_data h = on_record_law _ _ e (sym (picked (fits k) _ _ h))

  -- and back: it is that of a record that passes
  pub record Passed (d : Data) : Type 0 where
    pub key : Key
    pub is : piece_at s p ≡ Ok (Record key)
    pub passed : All (fits key)
    pub first : d.from ≡ p + key.keylen
    pub last : d.end ≡ p + key.nbytes

  pub from_data : {d : Data} → Some d ≡ data_in fits s p → Passed d
  unfolding data_in
  from_data {d} e =
      let r = from_on _ _ (piece_at s p) e (λ i. let z : ◌≡◌ {A = ℕ} 0 1 = cc in omega arith) in
      let k = r.0 in
      let f = from_picked (fits k) (Some (span (p + k.keylen) (p + k.nbytes))) None r.2 (λ i. let z : ◌≡◌ {A = ℕ} 0 1 = cc in omega arith) in
      let g = f.0 in
      record { key = k; is = r.1; passed = f.1; first = cc; last = cc }

  -- it lies in the file
  pub data_lies : {d : Data} → Some d ≡ data_in fits s p → (d.from ≤ d.end) × (d.end ≤ length s)
  data_lies e = let d = from_data e in let l = record_there_law s p d.is in (omega arith, omega arith)

pub from_free : (s : List ℕ) (p n : ℕ) {d : Data} → Some d ≡ free_in s p n → Passed (free_fits s n) s p d
unfolding free_in
from_free s p n e = from_data (free_fits s n) s p e

pub free_lies : (s : List ℕ) (p n : ℕ) {d : Data} → Some d ≡ free_in s p n → (d.from ≤ d.end) × (d.end ≤ length s)
unfolding free_in
free_lies s p n e = data_lies (free_fits s n) s p e

pub list_lies : (s : List ℕ) (p n parent : ℕ) {d : Data} → Some d ≡ list_in s p n parent → (d.from ≤ d.end) × (d.end ≤ length s)
unfolding list_in
list_lies s p n parent e = data_lies (list_fits s n parent) s p e

-- the info record is one that passes
pub from_info : (s : List ℕ) (p n : ℕ) → true ≡ info_in s p n → (k : Key) × (piece_at s p ≡ Ok (Record k)) × All (info_fits s n k)
unfolding info_in
from_info s p n e =
    let r = from_on _ _ (piece_at s p) e (λ i. false_true (sym i)) in
    (r.0, r.1, all_yes (info_fits s n r.0) (sym r.2))

-- a copy
module _ (s : List ℕ) (p end : ℕ) where
  pub no_copy : None ≡ header_in s p end → None ≡ copy_in s p end
  unfolding copy_in
  no_copy e = ap plain_or e

  module _ {k : Key} (e : Some k ≡ header_in s p end) where
    pub not_plain : (All (plain k) → ⊥) → None ≡ copy_in s p end
    unfolding copy_in
    not_plain h = sym (not_picked (plain k) (Some k) None h) ∙ ap plain_or e

    pub a_copy : All (plain k) → Some k ≡ copy_in s p end
    unfolding copy_in
    a_copy h = sym (picked (plain k) (Some k) None h) ∙ ap plain_or e

  -- and back: it is a header, and plain
  from_copy_by : (x : Option Key) {k : Key} → header_in s p end ≡ x → Some k ≡ plain_or x → (Some k ≡ header_in s p end) × (k.keylen ≡ sum_of k)
  from_copy_by (Some l) {k} i e =
      let f = from_picked (plain l) (Some l) None e (λ i. let z : ◌≡◌ {A = ℕ} 0 1 = cc in omega arith) in
      let g = f.0 in
      let y : k ≡ l = cc in
      (g ∙ sym i, rw y f.1.0)
  from_copy_by None i e = let z : ◌≡◌ {A = ℕ} 0 1 = cc in absurd (omega arith)

  pub from_copy : {k : Key} → Some k ≡ copy_in s p end → (Some k ≡ header_in s p end) × (k.keylen ≡ sum_of k)
  unfolding copy_in
  from_copy e = from_copy_by (header_in s p end) refl e

  -- it lies before the end, and in the file
  pub copy_lies : {k : Key} → Some k ≡ copy_in s p end → (p + k.keylen ≤ end) × (end ≤ length s)
  copy_lies e =
      let f = from_copy e in
      let g = header_lies s p end f.0 in
      (omega (arith, f.1, g), g.2)
