-- Laws of `Put`: one text after another.
use Prim.Native.Nat.{ℕ, ◌+◌, ◌-◌, ◌<◌, ◌≤◌}
use mathlib.Core.List.{List, [], ◌∷◌, ◌++◌}
use mathlib.Core.Path.{◌≡◌, refl, sym, ap, ◌∙◌}
use native.Mathlib.Omega.{arith}
use lib.ListN.{length, set, length-append}
use lib.Seq.{drop-drop}
use borrow.Rule.Slice.PartMut.{put_mid}
use Rattle.wire.specs.Patch.{patch}
use Rattle.wire.proofs.Patches.{patch_nil, patch_set, patch_then, length_patch}
use Rattle.report.specs.Put.{Room, Put}

puts : (b : List ℕ) (at : ℕ) (x : List ℕ) {w : List ℕ} {r : ℕ} → w ≡ patch b at x → r ≡ at + length x → r ≤ length b → Put b at x w r
puts b at x {w} {r} e n l = record { text = e; next = n; room = l; same = ap length e ∙ length_patch b at x (omega arith) }

pub put_nothing : (b : List ℕ) (at : ℕ) → at ≤ length b → Put b at [] b at
put_nothing b at l = puts b at [] (sym (patch_nil b at)) (omega arith) l

module _ {b : List ℕ} {at : ℕ} {x w : List ℕ} {r : ℕ} (p : Put b at x w r) where
  pub put_byte : (a : ℕ) → r < length b → Put b at (x ++ a ∷ []) (set w r a) (r + 1)
  put_byte a l =
      puts b at (x ++ a ∷ []) (ap (λ (u : List ℕ). set u r a) p.text ∙ patch_set b at x r a p.next l)
      (simp length-append (omega (arith, p.next))) (omega arith)

  pub put_then : {y v : List ℕ} {q : ℕ} → Put w r y v q → Put b at (x ++ y) v q
  put_then {y} {v} {q} s =
      puts b at (x ++ y)
      (patch_then b at x y p.text (s.text ∙ ap (λ (i : ℕ). patch w i y) p.next) (omega (arith, p.next, p.room)))
      (simp length-append (omega (arith, p.next, s.next))) (omega (arith, s.room, p.same))

  -- room for two texts is room for the second after the first
  pub room_then : (y : List ℕ) → Room b at (x ++ y) → Room w r y
  room_then y l = let k = simp length-append at l.fits in record { fits = omega (arith, p.next, p.same) }

pub room_front : {b : List ℕ} {at : ℕ} {x : List ℕ} (y : List ℕ) → Room b at (x ++ y) → Room b at x
room_front y l = let k = simp length-append at l.fits in record { fits = omega arith }

-- the same text by another name
pub room_as : {b x y : List ℕ} {at : ℕ} → x ≡ y → Room b at x → Room b at y
room_as e l = rw (← e) l

pub put_as : {b x y w : List ℕ} {at r : ℕ} → x ≡ y → Put b at y w r → Put b at x w r
put_as e p = rw e p

-- a part of the buffer that was lent, of the text's length, came back with the text
pub put_part : (b : List ℕ) (at : ℕ) (x : List ℕ) {y : List ℕ} → Room b at x → y ≡ x → Put b at x (put_mid at (at + length x - at) b y) (at + length x)
unfolding patch
put_part b at x l e =
    let k : at + length x - at ≡ length x = omega arith in
    puts b at x (rw (e, k, drop-drop)) refl l.fits
