-- What is written: a number from its last byte on, numbers one after the other, a string after its length.
use Prim.Native.Nat.{ℕ, zero, suc, ◌+◌, ◌-◌, ◌/◌, ◌%◌, ◌<◌, ◌≤◌}
use mathlib.Core.List.{List, [], ◌∷◌, ◌++◌, append_assoc, append-nil}
use mathlib.Core.Path.{◌≡◌, refl, sym, ap, ◌∙◌}
use native.Mathlib.Nat.{zero-add}
use native.Mathlib.Numerals.{add-one}
use native.Mathlib.Omega.{arith}
use borrow.Rule.Slice.PartMut.{mid_of, put_mid}
use lib.ListN.{length, take, drop, set, get_or, length-append, length-set}
use lib.Seq.{take_all, length-take-le, drop_at, set_split}
use Rattle.buffer.specs.Store.{put_front}
use Rattle.buffer.proofs.Stores.{front_part}
use Rattle.wire.specs.Number.{be_bytes}
use Rattle.wire.specs.Patch.{patch}
use Rattle.wire.specs.Text.{prefix_bytes, prefix_size, text_bytes}
use Rattle.wire.proofs.Numbers.{length_bytes}
use Rattle.wire.proofs.Patches.{length_patch, patch_nil, part_then}
use Rattle.wire.proofs.Texts.{length_prefix}
use Rattle.writer.specs.Sized.{sized_extent, sized_bytes}

-- a byte, and then all before it
patch_before : (b y : List ℕ) (j a : ℕ) → length y ≡ j → j < length b → patch (set b j a) 0 y ≡ patch b 0 (y ++ (a ∷ []))
unfolding patch
patch_before b y j a e l =
    let d : drop j (set b j a) ≡ a ∷ drop (suc j) b
    = ap (drop j) (set_split b j a l) ∙ drop_at (take j b) (a ∷ drop (suc j) b) j (length-take-le j b (omega arith)) in
    rw (zero-add, zero-add, length-append, e, d, append_assoc, add-one j)

-- while a number of w bytes is written, from its last byte on: writing the first i bytes of what is left completes it
pub record Storing (b : List ℕ) (w v : ℕ) (u : List ℕ) (i x : ℕ) : Type 0 where
  pub long : length u ≡ length b
  pub low : i ≤ length b
  pub is : patch u 0 (be_bytes i x) ≡ patch b 0 (be_bytes w v)

pub store_turn : {b : List ℕ} {w v : ℕ} {u : List ℕ} (i : ℕ) {x : ℕ} → Storing b w v u i x → 0 < i
    → Storing b w v (set u (i - 1) (x % 256)) (i - 1) (x / 256)
unfolding be_bytes
store_turn zero h l = absurd (omega arith)
store_turn {u = u} (suc j) {x = x} h l =
    let e : suc j - 1 ≡ j = omega arith in
    rw e
    (record {
      long = length-set u j (x % 256) ∙ h.long;
      low = omega (arith, h.low);
      is = patch_before u (be_bytes j (x / 256)) j (x % 256) (length_bytes j (x / 256)) (omega (arith, h.long, h.low)) ∙ h.is;
    })

pub store_ended : {b : List ℕ} {w v : ℕ} {u : List ℕ} {i x : ℕ} → Storing b w v u i x → i ≡ 0 → u ≡ patch b 0 (be_bytes w v)
unfolding be_bytes
store_ended {u = u} {x = x} h e = sym (patch_nil u 0) ∙ rw e at h.is

length_sized : (ns : List (ℕ × ℕ)) → length (sized_bytes ns) ≡ sized_extent ns
length_sized [] = refl
length_sized (n ∷ ns) = rw (length-append, length_bytes n.0 n.1, length_sized ns)

-- one number more
sized_more : (ns : List (ℕ × ℕ)) (i : ℕ) → i < length ns
    → sized_bytes (take (suc i) ns) ≡ sized_bytes (take i ns) ++ be_bytes (get_or ns i (0, 0)).0 (get_or ns i (0, 0)).1
sized_more [] i l = absurd (omega arith)
sized_more (n ∷ ns) zero l = append-nil (be_bytes n.0 n.1)
sized_more (n ∷ ns) (suc i) l =
    rw (sized_more ns i (omega arith))
    (sym (append_assoc (be_bytes n.0 n.1) (sized_bytes (take i ns)) (be_bytes (get_or ns i (0, 0)).0 (get_or ns i (0, 0)).1)))

extent_more : (ns : List (ℕ × ℕ)) (i : ℕ) → i < length ns
    → (sized_extent (take (suc i) ns) ≡ sized_extent (take i ns) + (get_or ns i (0, 0)).0) × (sized_extent (take (suc i) ns) ≤ sized_extent ns)
extent_more [] i l = absurd (omega arith)
extent_more (n ∷ ns) zero l = (omega arith, omega arith)
extent_more (n ∷ ns) (suc i) l = let h = extent_more ns i (omega arith) in (omega arith, omega arith)

-- while numbers are written one after the other: u is b with the first i of them, which end at at
pub record Laying (b : List ℕ) (ns : List (ℕ × ℕ)) (u : List ℕ) (at i : ℕ) : Type 0 where
  pub room : sized_extent ns ≤ length b
  pub place : at ≡ sized_extent (take i ns)
  pub within : at ≤ length b
  pub is : u ≡ patch b 0 (sized_bytes (take i ns))

pub lay_began : (b : List ℕ) (ns : List (ℕ × ℕ)) → sized_extent ns ≤ length b → Laying b ns b 0 0
lay_began b ns l = record { room = l; place = refl; within = omega arith; is = sym (patch_nil b 0) }

module _ {b : List ℕ} {ns : List (ℕ × ℕ)} {u : List ℕ} {at i : ℕ} (h : Laying b ns u at i) where
  pub lay_length : length u ≡ length b
  lay_length = ap length h.is ∙ length_patch b 0 (sized_bytes (take i ns)) (omega (arith, length_sized (take i ns), h.place, h.within))

  -- the next number has its place
  pub lay_room : i < length ns → at + (get_or ns i (0, 0)).0 ≤ length u
  lay_room l = let e = extent_more ns i l in omega (arith, h.place, h.room, lay_length)

  pub lay_turn : {ys : List ℕ} → i < length ns
      → ys ≡ patch (mid_of at (length u - at) u) 0 (be_bytes (get_or ns i (0, 0)).0 (get_or ns i (0, 0)).1)
      → Laying b ns (put_mid at (length u - at) u ys) (at + (get_or ns i (0, 0)).0) (i + 1)
  lay_turn l e =
      let m = extent_more ns i l in
      let j = length_sized (take i ns) in
      let k = length_bytes (get_or ns i (0, 0)).0 (get_or ns i (0, 0)).1 in
      rw (add-one i)
      (record {
        room = h.room;
        place = omega (arith, h.place);
        within = omega (arith, h.place, h.room);
        is =
            part_then b 0 (sized_bytes (take i ns)) (be_bytes (get_or ns i (0, 0)).0 (get_or ns i (0, 0)).1) at h.is (omega (arith, h.place))
            (omega (arith, h.place, h.room)) e
            ∙ ap (patch b 0) (sym (sized_more ns i l));
      })

  pub lay_ended : length ns ≤ i → u ≡ patch b 0 (sized_bytes ns)
  lay_ended l = h.is ∙ ap (λ (x : List (ℕ × ℕ)). patch b 0 (sized_bytes x)) (take_all i ns l)

-- the length, then the string
pub text_whole : (b t : List ℕ) {at : ℕ} {u ys : List ℕ} → at ≡ prefix_size (length t) → u ≡ patch b 0 (prefix_bytes (length t))
    → at + length t ≤ length b → ys ≡ put_front (mid_of at (length u - at) u) t → put_mid at (length u - at) u ys ≡ patch b 0 (text_bytes t)
unfolding text_bytes
text_whole b t {at} {u} {ys} e i l g =
    let n : length (prefix_bytes (length t)) ≡ at = length_prefix (length t) ∙ sym e in
    let m : length u ≡ length b = ap length i ∙ length_patch b 0 (prefix_bytes (length t)) (omega (arith, n, l)) in
    part_then b 0 (prefix_bytes (length t)) t at i (omega (arith, n)) (omega (arith, l)) (front_part u t at (omega (arith, m, l)) g)
