-- The four bytes of a gap, and the gap that they give.
use Prim.Native.Nat.{ℕ, ◌+◌, ◌-◌, ◌≤◌}
use mathlib.Core.List.{List, [], ◌∷◌, ◌++◌, append-nil}
use mathlib.Core.Path.{◌≡◌, sym, ap, ◌∙◌}
use native.Mathlib.Omega.{arith}
use lib.ListN.{length, get_or, drop}
use borrow.Rule.Slice.PartMut.{mid_of, put_mid}
use Rattle.wire.specs.Agree.{Agree}
use Rattle.wire.specs.Number.{num_at, be_bytes}
use Rattle.wire.specs.Patch.{patch}
use Rattle.wire.proofs.Agrees.{within}
use Rattle.wire.proofs.Layouts.{read_written}
use Rattle.wire.proofs.Numbers.{length_bytes}
use Rattle.wire.proofs.Patches.{length_patch, drop_patch, patch_part, patch_before, patch_after}
use Rattle.buffer.specs.Store.{put_front}
use Rattle.buffer.proofs.Stores.{front_part}
use Rattle.key.specs.Piece.{piece_at}
use Rattle.std.specs.Prelude.{Ok}
use Rattle.key.specs.declared.piece.Piece.TheVariants.{Gap}
use Rattle.key.proofs.Pieces.{size_minus, gap_there}
use Rattle.salvage.specs.Salvage.{most_gap, gap_bytes}

module _ (b : List ℕ) (at : ℕ) (l : at + 4 ≤ length b) where
  -- a gap's bytes, put at the front of the part from at on
  pub gap_put : (ys : List ℕ) (n : ℕ) → ys ≡ put_front (mid_of at (length b - at) b) (gap_bytes n)
      → put_mid at (length b - at) b ys ≡ patch b at (gap_bytes n)
  gap_put ys n e =
      let k : at + length (gap_bytes n) ≤ length b = omega (arith, length_bytes 4 (4294967296 - n)) in
      patch_part b ys (gap_bytes n) at k (front_part b (gap_bytes n) at k e)

  -- what was written, and what was not
  module _ (n : ℕ) where
    abbrev t : List ℕ
    t = patch b at (gap_bytes n)

    four : length (gap_bytes n) ≡ 4
    four = length_bytes 4 (4294967296 - n)

    fits : at + length (gap_bytes n) ≤ length b
    fits = omega (arith, four)

    pub written_length : length b ≡ length t
    written_length = sym (length_patch b at (gap_bytes n) fits)

    pub before_same : (p : ℕ) → Agree b t p at
    before_same p = within p at (patch_before b at (gap_bytes n) fits) (omega arith) (omega arith)

    pub after_same : Agree b t (at + 4) (length b)
    after_same = within (at + 4) (length b) (patch_after b at (gap_bytes n) fits) (omega (arith, four)) (omega arith)

    number_there : n ≤ most_gap → 4 ≤ n → num_at 4 t at ≡ 4294967296 - n
    number_there k m =
        let d : drop at t ≡ (be_bytes 4 (4294967296 - n) ++ []) ++ drop (at + length (gap_bytes n)) b =
        drop_patch b at (gap_bytes n) fits ∙ ap (λ (v : List ℕ). v ++ drop (at + length (gap_bytes n)) b) (sym (append-nil (gap_bytes n))) in
        let r = read_written (4 ∷ []) ((4294967296 - n) ∷ []) t at (drop (at + length (gap_bytes n)) b) (omega arith, tt) (omega (arith, written_length)) d in
        ap (λ (v : List ℕ). get_or v 0 0) r

    pub gap_written : 4 ≤ n → n ≤ most_gap → at + n ≤ length b → piece_at t at ≡ Ok (Gap n)
    gap_written m k f =
        let v = number_there k m in
        let z = size_minus t at (omega arith) (omega arith) in
        sym (gap_there t at (omega arith) (omega arith, (omega (arith, written_length), tt)) {n = n} (omega arith)).0
