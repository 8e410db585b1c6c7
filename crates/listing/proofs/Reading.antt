-- Bytes read into a buffer, one read after another.
use Prim.Native.Nat.{ℕ, ◌+◌, ◌-◌, ◌≤◌}
use mathlib.Core.List.{List, ◌++◌, append_assoc}
use mathlib.Core.Bool.{Bool, true, false}
use mathlib.Core.Path.{◌≡◌, refl, sym, ap, ◌∙◌}
use native.Mathlib.Omega.{arith}
use lib.Dec.{leb}
use lib.ListN.{length, take, length-append}
use lib.Seq.{length-take-le, take-append-add, take-append_seam}
use Rattle.std.proofs.lemmas.List.{take-append-le}
use borrow.Rule.Slice.PartMut.{put_mid}
use Rattle.std.specs.Prelude.{Option, None, Some, IfSome}
use Rattle.std.specs.Io.KnownBytes.{Consumes, Appends}
use Rattle.wire.specs.Answer.{done}
use Rattle.wire.specs.Patch.{patch}
use Rattle.wire.specs.declared.Answer.{Answer}
use Rattle.report.specs.Report.{put_answer, put_buffer}
use Rattle.listing.specs.Listing.{listing_of, input_room, Lists}

-- the part from n on was lent, and the first k bytes of it were read
front_more : (b y : List ℕ) (n k : ℕ) → n ≤ length b → k ≤ length y → take (n + k) (put_mid n (length b - n) b y) ≡ take n b ++ take k y
front_more b y n k l m =
    ap (λ (i : ℕ). take (i + k) (put_mid n (length b - n) b y)) (sym (length-take-le n b l))
    ∙ take-append-add (take n b) _ k ∙ ap (λ (u : List ℕ). take n b ++ u) (take-append-le k y _ m)

pub reads_on : (r s t : Option (List ℕ)) (b y : List ℕ) (n k : ℕ) → length y ≡ length b - n → k ≤ length y → n ≤ length b → Consumes r s (take n b)
    → Consumes s t (take k y) → (n + k ≤ length (put_mid n (length b - n) b y)) × Consumes r t (take (n + k) (put_mid n (length b - n) b y))
reads_on r s t b y n k e m l f g = (simp length-append (omega (arith, length-take-le n b l)), go r s t f g)
  where
    go : (r s t : Option (List ℕ)) → Consumes r s (take n b) → Consumes s t (take k y) → Consumes r t (take (n + k) (put_mid n (length b - n) b y))
    go None s t f g = tt
    go (Some xs) None t f g = absurd f
    go (Some xs) (Some ys) None f g = absurd g
    go (Some xs) (Some ys) (Some zs) f g =
        rw (front_more b y n k l m) (f ∙ ap (λ (u : List ℕ). take n b ++ u) g ∙ sym (append_assoc (take n b) (take k y) zs))

-- a list stands whole at the front of its buffer
list_text : {s out out' : List ℕ} {n : ℕ} → Lists s out out' (done n) → take n out' ≡ listing_of s
unfolding put_answer put_buffer patch
list_text {s} {out} {out'} {n} h = go (leb (length (listing_of s)) (length out)) refl h.answer h.buffer
  where
    go : (t : Bool) → leb (length (listing_of s)) (length out) ≡ t → done n ≡ put_answer (listing_of s) out → out' ≡ put_buffer (listing_of s) out
        → take n out' ≡ listing_of s
    go true e f g =
        let k : n ≡ length (listing_of s) = rw e at (ap (λ (a : Answer). a.count) f) in
        rw (k, g, e) (take-append_seam (listing_of s) _)
    go false e f g = let k : 0 ≡ 17 = rw e at (ap (λ (a : Answer). a.number) f) in absurd (omega (arith, k))

-- what was read is listed, and the list written
pub lists_input : (r w v : Option (List ℕ)) {s out out' : List ℕ} {m n : ℕ} → m ≡ input_room → IfSome r (λ t. s ≡ take m t)
    → Lists s out out' (done n) → Appends w v (take n out') → IfSome r (λ t. Appends w v (listing_of t))
lists_input None w v e f h a = tt
lists_input (Some t) w v e f h a = rw (list_text h ∙ h.whole t (rw e at f)) at a
