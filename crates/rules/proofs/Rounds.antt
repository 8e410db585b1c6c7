-- All directories, one after the other: they go through exactly where an assignment meets the rules.
use Prim.Native.Nat.{ℕ, zero, suc, ◌-◌, ◌<◌, ◌≤◌}
use mathlib.Core.Bool.{Bool, true, false}
use mathlib.Core.List.{List}
use mathlib.Core.Logic.{⊎_elim}
use mathlib.Core.Path.{◌≡◌, refl, subst}
use native.Mathlib.Omega.{arith}
use borrow.Author.Tests.{ltb-true, ltb-false}
use lib.Dec.{ltb}
use lib.ListN.{length, get_or, set}
use Rattle.wire.specs.Check.{pick}
use Rattle.fileheader.specs.declared.FileHead.{FileHead}
use Rattle.rules.specs.Partition.{Partition}
use Rattle.rules.specs.Turn.{going, and_then, settle, dir_turn, round_turn, next_row, rounds}
use Rattle.rules.proofs.Agreement.{Agree, gives, says, goes_on, agrees, equal}
use Rattle.rules.proofs.Counts.{count, count_none, fewer}
use Rattle.rules.proofs.Directories.{graph, zero_place}
use Rattle.rules.proofs.Graph.{State, given_not, stepped}
use Rattle.rules.proofs.Items.{Item, Assign, Assigned, Proper, assigned}
use Rattle.rules.proofs.Rows.{next_row_law}
use Rattle.rules.proofs.Runs.{Said, dir_went, dir_goes, and_then_law, from_there}

module _ (s : List ℕ) (h : FileHead) (qs : List ℕ) (p : Partition s 100 (length s) qs) where
  abbrev S : List ℕ → List ℕ → Type 0
  S ps os = State qs (graph s h qs p) ps os

  abbrev Over : List ℕ → Type 0
  Over ps = (i : ℕ) → i < length qs → get_or ps i 0 < 8

  -- one directory
  module _ (ps os : List ℕ) (v : S ps os) (j : ℕ) (l : j < length qs) (todo : 8 ≤ get_or ps j 0) (its : List Item)
      (w : Said s qs h j (get_or os j 0) its) (us vs : List ℕ) (a : Assign (get_or qs j 0) its ps os us vs) where
    proper : Proper its (length ps) (length os)
    unfolding graph
    proper i m k =
        let x = (graph s h qs p).within j (get_or os j 0) i m its w k in
        (omega (arith, v.parts, x.0), (omega (arith, v.owners, x.0), (given_not m x.1).0))

    done_all : Assigned (get_or qs j 0) its ps os us vs
    done_all = assigned (get_or qs j 0) its ps os us vs proper a

    after : S (set us j (get_or ps j 0 - 8)) vs
    unfolding graph
    after = stepped qs (graph s h qs p) ps os v us vs j l todo its w done_all

    less : count (set us j (get_or ps j 0 - 8)) < count ps
    less =
        let b = done_all in
        let e = b.out_part j (λ m k. let x = b.free j m k in omega arith) in
        fewer (get_or qs j 0) its ps os us vs j (get_or ps j 0 - 8) a (omega (arith, b.parts, v.parts)) (omega arith) low
      where
        low : get_or ps j 0 - 8 < 7
        low = ⊎_elim (λ (e : get_or ps j 0 ≡ 9). omega arith) (λ (e : get_or ps j 0 ≡ 14). omega arith) (v.shape j l todo)

  next_inside : (ps os : List ℕ) → S ps os → next_row ps < length ps → next_row ps < length qs
  next_inside ps os v l = omega (arith, v.parts)

  abbrev Finished : List ℕ → List ℕ → Type 0
  Finished us vs = S us vs × Over us

  at_rest : (ps os us vs : List ℕ) (c e : ℕ) → S ps os → Over ps → going ps os c ≡ going us vs e → Finished us vs
  at_rest ps os us vs c e v o g =
      let a : ps ≡ us = cc in
      let b : os ≡ vs = cc in
      (subst (S us) b (subst (λ (t : List ℕ). S t os) a v), subst Over a o)

  pub rounds_went : (f : ℕ) (ps os us vs : List ℕ) (c e : ℕ) → S ps os → count ps ≤ f → rounds s h qs f ps os c ≡ going us vs e
      → Finished us vs
  unfolding rounds round_turn
  rounds_went zero ps os us vs c e v k g =
      at_rest ps os us vs c e v (λ i l. count_none ps (omega arith) i (omega (arith, v.parts))) g
  rounds_went (suc f) ps os us vs c e v k g = go (ltb (next_row ps) (length ps)) refl (rounds_went f) g
    where
      go : (b : Bool) → ltb (next_row ps) (length ps) ≡ b
          → ((ps os us vs : List ℕ) (c e : ℕ) → S ps os → count ps ≤ f → rounds s h qs f ps os c ≡ going us vs e → Finished us vs)
          → pick b (and_then (rounds s h qs f) (and_then (settle (next_row ps) (get_or ps (next_row ps) 0 - 8)) (dir_turn s h qs (next_row ps) ps os)))
          (going ps os c) ≡ going us vs e
          → Finished us vs
      go true t more g =
          let r = next_row ps in
          let l = ltb-true r (length ps) t in
          let m = next_inside ps os v l in
          let todo = (next_row_law ps).found l in
          let x = and_then_law (rounds s h qs f) (and_then (settle r (get_or ps r 0 - 8)) (dir_turn s h qs r ps os)) g in
          let y = and_then_law (settle r (get_or ps r 0 - 8)) (dir_turn s h qs r ps os) x.3 in
          let w = dir_went s qs h r ps os y.0 y.1 y.2 y.3 in
          let z = y.4 in
          let a : x.0 ≡ set y.0 r (get_or ps r 0 - 8) = cc in
          let b : x.1 ≡ y.1 = cc in
          more (set y.0 r (get_or ps r 0 - 8)) y.1 us vs x.2 e
          (after ps os v r m todo w.0 w.1 y.0 y.1 w.2)
          (omega (arith, less ps os v r m todo w.0 w.1 y.0 y.1 w.2))
          (from_there (rounds s h qs f) (set y.0 r (get_or ps r 0 - 8)) y.1 x.0 x.1 x.2 x.2 (going us vs e) a b refl x.4)
      go false t more g =
          at_rest ps os us vs c e v (λ i l. (next_row_law ps).before i (omega (arith, v.parts, ltb-false (next_row ps) (length ps) t))) g

  module _ (gs hs : List ℕ) (w : S gs hs) (whole : Over gs) where
    abbrev A : List ℕ → List ℕ → Type 0
    A ps os = Agree qs (graph s h qs p) gs hs w whole ps os

    rest_there : (ps os : List ℕ) (c : ℕ) → S ps os → A ps os → Over ps → (e : ℕ) × (going ps os c ≡ going gs hs e)
    rest_there ps os c v k o =
        let x = equal qs (graph s h qs p) gs hs w whole ps os v k o in
        (c, λ i. going (x.0 i) (x.1 i) c)

    pub rounds_go : (f : ℕ) (ps os : List ℕ) (c : ℕ) → S ps os → A ps os → count ps ≤ f
        → (e : ℕ) × (rounds s h qs f ps os c ≡ going gs hs e)
    unfolding rounds round_turn graph
    rounds_go zero ps os c v k n = rest_there ps os c v k (λ i l. count_none ps (omega arith) i (omega (arith, v.parts)))
    rounds_go (suc f) ps os c v k n = go (ltb (next_row ps) (length ps)) refl (rounds_go f)
      where
        go : (b : Bool) → ltb (next_row ps) (length ps) ≡ b
            → ((ps os : List ℕ) (c : ℕ) → S ps os → A ps os → count ps ≤ f → (e : ℕ) × (rounds s h qs f ps os c ≡ going gs hs e))
            → (e : ℕ)
            × (pick b (and_then (rounds s h qs f) (and_then (settle (next_row ps) (get_or ps (next_row ps) 0 - 8)) (dir_turn s h qs (next_row ps) ps os)))
            (going ps os c) ≡ going gs hs e)
        go true t more =
            let r = next_row ps in
            let l = ltb-true r (length ps) t in
            let m = next_inside ps os v l in
            let todo = (next_row_law ps).found l in
            let its = gives qs (graph s h qs p) gs hs w whole ps os v k r m todo in
            let d = says qs (graph s h qs p) gs hs w whole ps os v k r m todo in
            let x = goes_on qs (graph s h qs p) gs hs w whole ps os v k r m todo in
            let y = dir_goes s qs h r ps os x.0 x.1 (zero_place s qs (length s) p) its d x.2 in
            let z =
            more (set x.0 r (get_or ps r 0 - 8)) x.1 y.0
            (after ps os v r m todo its d x.0 x.1 x.2)
            (agrees qs (graph s h qs p) gs hs w whole ps os v k r m todo x.0 x.1 (done_all ps os v r m todo its d x.0 x.1 x.2))
            (omega (arith, less ps os v r m todo its d x.0 x.1 x.2)) in
            (z.0, rw y.1 z.1)
        go false t more = rest_there ps os c v k (λ i l. (next_row_law ps).before i (omega (arith, v.parts, ltb-false (next_row ps) (length ps) t)))
