-- Laws of bytes that are stored at the front of a part.
use Prim.Native.Nat.{ℕ, ◌+◌, ◌-◌, ◌/◌, ◌%◌, ◌<◌, ◌≤◌}
use mathlib.Core.List.{List}
use mathlib.Core.Path.{◌≡◌, refl, sym, ap, ◌∙◌}
use native.Mathlib.Numerals.{add-one}
use native.Mathlib.Omega.{arith}
use borrow.Author.Tests.{le-leb, lt-leb}
use borrow.Rule.Slice.PartMut.{mid_of}
use lib.ListN.{length, take, drop, get_or, set, length-take, length-drop}
use lib.Seq.{take_all, take-suc, length-take-le}
use Rattle.std.specs.Int.{w32, to_be_bytes}
use Rattle.wire.specs.Number.{be_bytes}
use Rattle.wire.specs.Patch.{patch}
use Rattle.wire.proofs.Patches.{length_patch, patch_nil, patch_set}
use Rattle.buffer.specs.Store.{put_front}

-- there is room, or not
pub put_in : (b x : List ℕ) → length x ≤ length b → put_front b x ≡ patch b 0 x
unfolding put_front
put_in b x l = rw (le-leb (length x) (length b) l)

pub put_out : (b x : List ℕ) → length b < length x → b ≡ put_front b x
unfolding put_front
put_out b x l = rw (lt-leb (length x) (length b) l)

-- the part from k on was lent, and came back with x at its front
pub front_part : (w x : List ℕ) (k : ℕ) {ys : List ℕ} → k + length x ≤ length w → ys ≡ put_front (mid_of k (length w - k) w) x
    → ys ≡ patch (mid_of k (length w - k) w) 0 x
front_part w x k l e =
    e ∙ put_in (mid_of k (length w - k) w) x (omega (arith, length-take (length w - k) (drop k w), length-drop k w))

-- while bytes are stored: w is b with the first i bytes of t
pub record Storing (b t w : List ℕ) (i : ℕ) : Type 0 where
  pub done : i ≤ length t
  pub room : length t ≤ length b
  pub is : w ≡ patch b 0 (take i t)

pub store_began : (b t : List ℕ) → length t ≤ length b → Storing b t b 0
store_began b t l = record { done = omega arith; room = l; is = sym (patch_nil b 0) }

module _ {b t w : List ℕ} {i : ℕ} (h : Storing b t w i) where
  pub store_length : length w ≡ length b
  store_length = ap length h.is ∙ length_patch b 0 (take i t) (omega (arith, length-take-le i t h.done, h.room))

  pub store_turn : i < length t → Storing b t (set w i (get_or t i 0)) (i + 1)
  store_turn l =
      record {
        done = omega arith;
        room = h.room;
        is =
            rw (h.is, add-one i, take-suc t i 0 l)
            (patch_set b 0 (take i t) i (get_or t i 0) (omega (arith, length-take-le i t h.done)) (omega (arith, h.room)));
      }

  pub store_ended : length t ≤ i → w ≡ put_front b t
  store_ended l = h.is ∙ ap (patch b 0) (take_all i t l) ∙ sym (put_in b t h.room)

-- the bytes of a number, as std makes them
pub four_bytes : (v : ℕ) → to_be_bytes w32 v ≡ be_bytes 4 v
unfolding be_bytes
four_bytes v =
    let a : v / 16777216 % 256 ≡ v / 256 / 256 / 256 % 256 = omega arith in
    let b : v / 65536 % 256 ≡ v / 256 / 256 % 256 = omega arith in
    rw (a, b) refl
