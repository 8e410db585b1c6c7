-- File headers of bytes that agree.
use Prim.Native.Nat.{ℕ}
use mathlib.Core.Bool.{Bool}
use mathlib.Core.List.{List}
use mathlib.Core.Path.{◌≡◌, sym, ap, ◌∙◌}
use native.Mathlib.Omega.{arith}
use lib.Dec.{leb}
use lib.ListN.{length, get_or}
use Rattle.std.specs.Prelude.{Ok}
use Rattle.wire.specs.Agree.{Agree}
use Rattle.wire.specs.Layout.{width_of, values_at}
use Rattle.wire.proofs.Agrees.{num_same, values_same}
use Rattle.wire.proofs.Checks.{yes_all}
use Rattle.wire.proofs.Layouts.{width_within}
use Rattle.fileheader.specs.File.{file_layout, is_wide, file_width, file_number, file_head, end_fits, long_enough, magic, units, bounds, opened_as}
use Rattle.fileheader.specs.declared.FileHead.{FileHead}
use Rattle.fileheader.proofs.Opens.{Opens, from_opened}

module _ (s : List ℕ) {h : FileHead} where
  opened_is : Opens s h → Ok h ≡ opened_as s
  unfolding opened_as
  opened_is o = rw (yes_all (long_enough s) o.long, yes_all (magic s) o.magic_is, yes_all (units s) o.units_is, yes_all (bounds s) o.bounds_is) (ap Ok o.is)

-- the numbers of two headers of 100 bytes that agree
module _ (s t : List ℕ) (g : Agree s t 0 100) where
  wide_same : is_wide s ≡ is_wide t
  wide_same = ap (leb 1000000) (num_same 4 4 g (omega arith) (omega arith))

  pub number_same : (i : ℕ) → file_number s i ≡ file_number t i
  number_same i =
      let w = width_within (is_wide s) in
      ap (λ (v : List ℕ). get_or v i 0) (values_same (file_layout (file_width s)) 0 g (omega arith) (omega arith))
      ∙ ap (λ (b : Bool). get_or (values_at (file_layout (width_of b)) t 0) i 0) wide_same

  file_same : file_head s ≡ file_head t
  unfolding file_head
  file_same i = record {
    wide = wide_same i;
    seekfree = number_same 4 i;
    nbytesfree = number_same 5 i;
    nfree = number_same 6 i;
    nbytesname = number_same 7 i;
    seekinfo = number_same 10 i;
    nbytesinfo = number_same 11 i;
  }

-- and in a file of the same length the one is good where the other is
module _ (s t : List ℕ) (len : length s ≡ length t) (g : Agree s t 0 100) where
  pub opened_same : {h : FileHead} → Ok h ≡ opened_as s → Ok h ≡ opened_as t
  opened_same e =
      let o = from_opened s e in
      opened_is t (record {
        long = omega (arith, o.long);
        magic_is = omega (arith, o.magic_is, number_same s t g 0);
        units_is = (sym (number_same s t g 8) ∙ o.units_is.0 ∙ ap width_of (wide_same s t g), tt);
        bounds_is = (
          sym (number_same s t g 2) ∙ o.bounds_is.0,
          (sym (number_same s t g 3) ∙ o.bounds_is.1.0 ∙ len, (sym (λ i. end_fits (wide_same s t g i) (len i)) ∙ o.bounds_is.1.1.0, tt)),
        );
        is = o.is ∙ file_same s t g;
      })
