-- The size that is printed is the piece's own: pieces of a partition end where the next one starts.
use Prim.Native.Nat.{ℕ, zero, suc, ◌+◌, ◌-◌, ◌<◌}
use mathlib.Core.Bool.{Bool, true, false}
use mathlib.Core.List.{List, [], ◌∷◌, ◌++◌}
use mathlib.Core.Path.{◌≡◌, refl, sym, ap, subst, ◌∙◌}
use native.Mathlib.Numerals.{add-one}
use native.Mathlib.Omega.{arith}
use borrow.Author.Tests.{ltb-true, ltb-false}
use lib.Dec.{ltb}
use lib.ListN.{length, get_or, get_or-append}
use lib.Seq.{get_or-append_seam}
use Rattle.wire.specs.Check.{pick}
use Rattle.key.specs.Piece.{piece_at, size_of}
use Rattle.report.specs.Report.{next_place}
use Rattle.rules.proofs.Demands.{demand}
use Rattle.rules.specs.Free.{compared}
use Rattle.rules.specs.Order.{Verdict, passed, refused, verdict, starts_of, number_of}
use Rattle.rules.specs.Partition.{Partition}
use Rattle.listing.specs.Listing.{room, Sizes}

-- the start after a piece's own, or the end
next_start : (s : List ℕ) (p : ℕ) (qs : List ℕ) (e : ℕ) → Partition s p e qs → (i : ℕ) → i < length qs
    → get_or (qs ++ e ∷ []) (suc i) 0 ≡ get_or qs i 0 + size_of (piece_at s (get_or qs i 0))
next_start s p [] e h i l = absurd (omega arith)
next_start s p (q ∷ []) e h zero l = rw h.0 (sym h.1.1)
next_start s p (q ∷ r ∷ rs) e h zero l = rw h.0 h.1.1.0
next_start s p (q ∷ qs) e h (suc i) l = next_start s (p + size_of (piece_at s p)) qs e h.1.1 i (omega arith)

-- where a row's piece ends, from a table that begins with the starts
next_place_law : (qs rest : List ℕ) (e i : ℕ) → i < length qs → next_place (qs ++ rest) (length qs) e i ≡ get_or (qs ++ e ∷ []) (suc i) 0
unfolding next_place
next_place_law qs rest e i l = go (ltb (i + 1) (length qs)) refl
  where
    go : (b : Bool) → ltb (i + 1) (length qs) ≡ b → pick b (get_or (qs ++ rest) (i + 1) 0) e ≡ get_or (qs ++ e ∷ []) (suc i) 0
    go true h =
        let m = ltb-true (i + 1) (length qs) h in
        rw (get_or-append qs rest 0 (i + 1) m, add-one i, get_or-append qs (e ∷ []) 0 (suc i) (omega arith))
    go false h =
        let m = ltb-false (i + 1) (length qs) h in
        let k : suc i ≡ length qs = omega arith in
        rw (k, get_or-append_seam qs e [] 0)

pub own_sizes : (s qs : List ℕ) → Partition s 100 (length s) qs → (rest : List ℕ) (i : ℕ) → i < length qs
    → next_place (qs ++ rest) (length qs) (length s) i - get_or qs i 0 ≡ size_of (piece_at s (get_or qs i 0))
own_sizes s qs h rest i l = rw (next_place_law qs rest (length s) i l, next_start s 100 qs (length s) h i l) (omega arith)

pub printed_sizes : (s : List ℕ) → Sizes s (verdict compared s room)
printed_sizes s = go (verdict compared s room) refl
  where
    go : (v : Verdict) → verdict compared s room ≡ v → Sizes s v
    go (refused c p n) e i l = absurd (omega arith)
    go (passed qs ps os) e i l =
        let d = (demand compared s room).sound (ap number_of e) in
        let same : d.0 ≡ qs = sym (ap starts_of d.3) ∙ ap starts_of e in
        own_sizes s qs (subst (Partition s 100 (length s)) same d.4.partition.1) _ i l
