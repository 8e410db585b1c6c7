-- The free list rule: the test that the order makes holds exactly where the rule does; and which bytes a gap's segment has.
use Rattle.std.specs.Prelude.{Option, Some, None, Ok}
use Prim.Native.Nat.{ℕ, ◌+◌, ◌-◌, ◌≤◌, ◌<◌}
use mathlib.Core.Bool.{Bool, true, false, ◌&&◌}
use mathlib.Core.List.{List, [], ◌∷◌, ◌++◌}
use mathlib.Core.Path.{◌≡◌, refl, sym, ap}
use native.Mathlib.Omega.{arith}
use borrow.Author.Tests.{eq-eqb, ne_eqb, eqb-true, eqb-false}
use lib.Dec.{eqb}
use lib.ListN.{length, length-append}
use lib.Seq.{take_at}
use Rattle.wire.specs.Check.{all, pick}
use Rattle.wire.proofs.Checks.{yes_all, all_yes, false_true}
use Rattle.key.specs.Piece.{piece_at}
use Rattle.key.specs.declared.piece.Piece.TheVariants.{Gap}
use Rattle.key.proofs.Pieces.{from_gap}
use Rattle.keylist.specs.Keys.{free_in}
use Rattle.keylist.specs.declared.Data.{Data}
use Rattle.fileheader.specs.declared.FileHead.{FileHead}
use Rattle.rules.specs.Free.{Mode, compared, segments_at, segments_fit, gap_last, gaps, last_fits, Free, list_gaps, held_to, free_data, free_holds}
use Rattle.rules.specs.Row.{starts}

-- x is one of the bytes from first to last, both included; and one of the n bytes at q
abbrev Between : ℕ → ℕ → ℕ → Type 0
Between first last x = (first ≤ x) × (x ≤ last)

abbrev Within : ℕ → ℕ → ℕ → Type 0
Within q n x = (q ≤ x) × (x < q + n)

-- from first to last the segment of a gap has the bytes of the gap, and no others
pub gap_bytes_law : (s : List ℕ) (q n x : ℕ) → piece_at s q ≡ Ok (Gap n)
    → (Between q (gap_last q n) x → Within q n x) × (Within q n x → Between q (gap_last q n) x)
gap_bytes_law s q n x e =
    let size = (from_gap s q e).0 in
    (λ h. omega arith, λ h. omega arith)

pub and_both : (a b : Bool) → (a && b) ≡ true → (a ≡ true) × (b ≡ true)
and_both true b e = (refl, e)
and_both false b e = false_true e

-- the segments are the gaps and the final one: the test, and the list
list_gaps_law : (wide : Bool) (end : ℕ) (ys : List ℕ) (last : ℕ) → last_fits wide end last ≡ true
    → list_gaps wide end ys (ys ++ (end ∷ last ∷ [])) ≡ true
unfolding list_gaps
list_gaps_law wide end [] last l = rw (eq-eqb end end refl) l
list_gaps_law wide end (y ∷ ys) last l = rw (eq-eqb y y refl) (list_gaps_law wide end ys last l)

gaps_listed : (wide : Bool) (end : ℕ) (ys xs : List ℕ) → list_gaps wide end ys xs ≡ true
    → (last : ℕ) × (xs ≡ ys ++ (end ∷ last ∷ [])) × (last_fits wide end last ≡ true)
unfolding list_gaps
gaps_listed wide end [] [] e = false_true e
gaps_listed wide end [] (a ∷ []) e = false_true e
gaps_listed wide end [] (a ∷ b ∷ []) e =
    let f = and_both (eqb a end) (last_fits wide end b) e in
    (b, ap (λ (x : ℕ). x ∷ b ∷ []) (eqb-true a end f.0), f.1)
gaps_listed wide end [] (a ∷ b ∷ x ∷ xs) e = false_true e
gaps_listed wide end (y ∷ ys) [] e = false_true e
gaps_listed wide end (y ∷ ys) (x ∷ xs) e =
    let f = and_both (eqb x y) (list_gaps wide end ys xs) e in
    let r = gaps_listed wide end ys xs f.1 in
    (r.0, (λ i. eqb-true x y f.0 i ∷ r.1 i), r.2)

-- all but the final one are what they are held to exactly where the audit that compares finds the gaps in them
held_is : (mode : Mode) (ys us xs : List ℕ) (end last : ℕ) → xs ≡ us ++ (end ∷ last ∷ []) → (mode ≡ compared → us ≡ ys)
    → held_to mode ys xs ≡ us
unfolding held_to
held_is true ys us xs end last e f = sym (f refl)
held_is false ys us xs end last e f =
    let n : length us ≡ length (us ++ (end ∷ last ∷ [])) - 2 = rw length-append (omega arith) in
    rw e (take_at us (end ∷ last ∷ []) (length (us ++ (end ∷ last ∷ [])) - 2) n)

held_gaps : (mode : Mode) (ys xs : List ℕ) → mode ≡ compared → held_to mode ys xs ≡ ys
unfolding held_to
held_gaps true ys xs e = refl
held_gaps false ys xs e = false_true e

module _ (mode : Mode) (s qs : List ℕ) (h : FileHead) where
  pub free_holds_law : Free mode s qs h → free_holds mode s qs h ≡ true
  unfolding free_holds
  free_holds_law f =
      rw (
        ne_eqb h.seekfree 100 f.other,
        f.place,
        f.held,
        yes_all (segments_fit h.wide s h.nfree f.from f.end) f.fit,
        held_is mode (gaps s qs) f.segments (segments_at s h.nfree f.from) (length s) f.last f.final f.equal,
        f.final,
      )
      (list_gaps_law h.wide (length s) f.segments f.last f.beyond)

  by_data : (x : Option Data) → free_in s h.seekfree h.nbytesfree ≡ x → (h.seekfree ≡ 100 → ⊥) → starts qs h.seekfree ≡ true
      → free_data mode h.wide s qs h.nfree x ≡ true → Free mode s qs h
  by_data (Some l) e o p t =
      let a = l.from in
      let end = l.end in
      let xs = segments_at s h.nfree a in
      let us = held_to mode (gaps s qs) xs in
      let f = and_both (all (segments_fit h.wide s h.nfree a end)) (list_gaps h.wide (length s) us xs) t in
      let g = gaps_listed h.wide (length s) us xs f.1 in
      record {
        other = o;
        place = p;
        from = a;
        end = end;
        held = e;
        fit = all_yes (segments_fit h.wide s h.nfree a end) f.0;
        segments = us;
        last = g.0;
        final = g.1;
        beyond = g.2;
        equal = held_gaps mode (gaps s qs) xs;
      }
  by_data None e o p t = false_true t

  pub free_there : free_holds mode s qs h ≡ true → Free mode s qs h
  unfolding free_holds
  free_there e = go (eqb h.seekfree 100) refl e
    where
      go : (b : Bool) → eqb h.seekfree 100 ≡ b
          → pick b false (starts qs h.seekfree && free_data mode h.wide s qs h.nfree (free_in s h.seekfree h.nbytesfree)) ≡ true
          → Free mode s qs h
      go true f e = false_true e
      go false f e =
          let x = and_both (starts qs h.seekfree) (free_data mode h.wide s qs h.nfree (free_in s h.seekfree h.nbytesfree)) e in
          by_data (free_in s h.seekfree h.nbytesfree) refl (eqb-false h.seekfree 100 f) x.0 x.1
