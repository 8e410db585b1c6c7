-- An assignment that meets the rules, as a state of the graph.
use Rattle.std.specs.Prelude.{Some}
use Prim.Native.Nat.{ℕ, ◌+◌, ◌<◌, ◌≤◌}
use mathlib.Core.List.{List, [], ◌∷◌}
use mathlib.Core.Logic.{◌⊎◌, inl, inr, ⊎_elim}
use mathlib.Core.Path.{◌≡◌, refl, sym, ap, ◌∙◌, subst}
use native.Mathlib.Omega.{arith}
use lib.ListN.{length, get_or}
use Rattle.wire.proofs.Checks.{false_true}
use Rattle.wire.specs.Check.{All}
use Rattle.key.specs.declared.header.Key.{Key}
use Rattle.directory.specs.Dir.{dir_of, no_keys}
use Rattle.directory.specs.declared.DirHead.{DirHead}
use Rattle.fileheader.specs.declared.FileHead.{FileHead}
use Rattle.rules.specs.Free.{Mode}
use Rattle.rules.specs.Entry.{listed_part}
use Rattle.rules.specs.Partition.{Partition}
use Rattle.rules.specs.Rules.{Rules, In, Directory, Listed, Leads, root, up, DirectoryAt, KeysAre, Filled, places}
use Rattle.rules.specs.Turn.{row_of, first_part, listed_mark}
use Rattle.rules.proofs.Directories.{graph, below_first}
use Rattle.rules.proofs.Fixed.{Place, head, free, info, gap, other, place}
use Rattle.rules.proofs.Graph.{State, Back, Done, final, final_low, final_high}
use Rattle.rules.proofs.Items.{item, Has, same?}
use Rattle.rules.proofs.Listed.{mark_part, in_has, has_in, entry_starts, distinct_fresh, row_is}
use Rattle.rules.proofs.Partitions.{rises}
use Rattle.rules.proofs.Places.{row_in}
use Rattle.rules.proofs.Runs.{copied}

module _ (s : List ℕ) (h : FileHead) (qs : List ℕ) (p : Partition s 100 (length s) qs) (gs hs : List ℕ) {mode : Mode} (r : Rules s h qs gs hs mode) where
  -- rows of the header's records and gaps
  abbrev FixedAt : ℕ → Type 0
  FixedAt i = (final (get_or gs i 0) ≡ final (first_part s h (get_or qs i 0))) × ((get_or gs i 0 ≤ 3) × (get_or hs i 0 ≡ 0))

  set_early : (i k b : ℕ) → i < length qs → get_or gs i 0 ≡ k → k ≤ 3 → first_part s h (get_or qs i 0) ≡ b → final b ≡ k → FixedAt i
  set_early i k b l e z f g = (
    final_low (get_or gs i 0) (omega arith) ∙ e ∙ sym (ap final f ∙ g),
    (omega arith, r.no_owner i l (inl (omega arith))),
  )

  fixed_at : (i : ℕ) → i < length qs → (first_part s h (get_or qs i 0) ≡ 7 → ⊥) → Place s h (get_or qs i 0) → FixedAt i
  fixed_at i l n (head a b) = set_early i 1 9 l ((r.head_part i l).1 a) (omega arith) b (final_high 9 (omega arith))
  fixed_at i l n (free z a b) = set_early i 2 2 l ((r.free_part i l).1 a) (omega arith) b (final_low 2 (omega arith))
  fixed_at i l n (info y z a b) = set_early i 3 3 l ((r.info_part i l).1 a) (omega arith) b (final_low 3 (omega arith))
  fixed_at i l n (gap x y z a b) = set_early i 0 0 l ((r.gap_part i l).1 a) (omega arith) b (final_low 0 (omega arith))
  fixed_at i l n (other x y z a b) = absurd (n b)

  -- a row that a directory was given is none of them
  loose_at : (i : ℕ) → i < length qs → 4 ≤ get_or gs i 0 → Place s h (get_or qs i 0) → first_part s h (get_or qs i 0) ≡ 7
  loose_at i l k (head a b) = absurd (omega (arith, (r.head_part i l).1 a))
  loose_at i l k (free z a b) = absurd (omega (arith, (r.free_part i l).1 a))
  loose_at i l k (info y z a b) = absurd (omega (arith, (r.info_part i l).1 a))
  loose_at i l k (gap x y z a b) = absurd (omega (arith, (r.gap_part i l).1 a))
  loose_at i l k (other x y z a b) = b

  -- and the other way
  four_up : (i : ℕ) → i < length qs → first_part s h (get_or qs i 0) ≡ 7 → Place s h (get_or qs i 0) → 4 ≤ get_or gs i 0
  four_up i l e (head a b) = absurd (omega arith)
  four_up i l e (free z a b) = absurd (omega arith)
  four_up i l e (info y z a b) = absurd (omega arith)
  four_up i l e (gap x y z a b) = absurd (omega arith)
  four_up i l e (other x y z a b) =
      big (get_or gs i 0) (λ f. false_true (sym a ∙ (r.gap_part i l).0 f)) (λ f. x ((r.head_part i l).0 f)) (λ f. y ((r.free_part i l).0 f))
      (λ f. z ((r.info_part i l).0 f))
    where
      big : (k : ℕ) → (k ≡ 0 → ⊥) → (k ≡ 1 → ⊥) → (k ≡ 2 → ⊥) → (k ≡ 3 → ⊥) → 4 ≤ k
      big k a b c d = omega arith

  up_to : (i : ℕ) → i < length qs → first_part s h (get_or qs i 0) ≡ 7 → (get_or gs i 0 ≡ 7 → ⊥) → (get_or gs i 0 ≡ 4) ⊎ Listed (get_or gs i 0)
  up_to i l e n = which (get_or gs i 0) (four_up i l e (place s h (get_or qs i 0))) (r.known i l) n
    where
      which : (k : ℕ) → 4 ≤ k → k ≤ 7 → (k ≡ 7 → ⊥) → (k ≡ 4) ⊎ Listed k
      which k a b n =
          ⊎_elim
          (λ (e : k ≡ 4). inl e)
          (λ (e : k ≡ 4 → ⊥). inr (⊎_elim (λ (f : k ≡ 5). inl f) (λ (f : k ≡ 5 → ⊥). inr (omega arith)) (same? k 5)))
          (same? k 4)

  listed_four : (k : ℕ) → Listed k → 4 ≤ k
  listed_four k = ⊎_elim (λ (e : k ≡ 5). omega arith) (λ (e : k ≡ 6). omega arith)

  abbrev At : ℕ → DirHead → Type 0
  At d dh = DirectoryAt s h qs gs hs d dh

  stands : (j : ℕ) (dh : DirHead) → j < length qs → Directory (get_or gs j 0) → dir_of s h (get_or qs j 0) (get_or hs j 0) ≡ Some dh
      → At (get_or qs j 0) dh
  stands j dh l d e = record { row = j; within = l; here = refl; is = d; header = e }

  head_of : (d : ℕ) (dh : DirHead) → (a : At d dh) → dir_of s h (get_or qs a.row 0) (get_or hs a.row 0) ≡ Some dh
  head_of d dh a = subst (λ (x : ℕ). dir_of s h x (get_or hs a.row 0) ≡ Some dh) (sym a.here) a.header

  keys_of : (d : ℕ) (dh : DirHead) → (a : At d dh) → (ks : List Key) × KeysAre s qs (get_or qs a.row 0) dh ks
  keys_of d dh a =
      let x = r.directory a.row a.within a.is in
      let y = head_of d dh a in
      let z = x.2 in
      let e : x.0 ≡ dh = cc in
      (x.1, subst (λ (g : DirHead). KeysAre s qs (get_or qs a.row 0) g x.1) e x.3)

  abbrev B : ℕ → Type 0
  B i = Back qs (graph s h qs p) gs hs i

  module _ (i : ℕ) (l : i < length qs) where
    back_to : (dh : DirHead) (ks : List Key) (m : ℕ) → (a : At (get_or hs i 0) dh) → (f : Filled s qs (get_or qs a.row 0) dh ks)
        → Has i m (item (row_of qs dh.seekkeys) 4 ∷ copied s qs ks) → final (get_or gs i 0) ≡ final m → B i
    unfolding graph
    back_to dh ks m a f x e = record {
      row = a.row;
      inside = a.within;
      part = a.is;
      owner = sym a.here;
      items = item (row_of qs dh.seekkeys) 4 ∷ copied s qs ks;
      says = record { dirhead = dh; keys = ks; header = head_of (get_or hs i 0) dh a; items = inr (f, refl) };
      mark = m;
      has = x;
      same = e;
    }

    list_back : get_or gs i 0 ≡ 4 → B i
    list_back e =
        let k = (r.keys_part i (get_or hs i 0) l).0 (e, refl) in
        let ks = keys_of (get_or hs i 0) k.0 k.1 in
        ⊎_elim
        (λ (x : All (no_keys k.0) × (ks.0 ≡ [])). absurd (omega (arith, x.0.0, k.2, below_first s h qs p i l)))
        (λ (f : Filled s qs (get_or qs k.1.row 0) k.0 ks.0).
        back_to k.0 ks.0 4 k.1 f
        (inl (row_is qs (rises s 100 qs (length s) p) i k.0.seekkeys l f.place (sym k.2), refl)) (ap final e))
        ks.1

    copy_back : Listed (get_or gs i 0) → B i
    copy_back e =
        let k = (r.copied i (get_or hs i 0) l).0 (e, refl) in
        ⊎_elim
        (λ (x : All (no_keys k.0) × (k.1 ≡ [])). absurd (subst (λ (z : List Key). In (get_or qs i 0) (places z)) x.1 k.4))
        (λ (f : Filled s qs (get_or hs i 0) k.0 k.1).
        let g = subst (λ (d : ℕ). Filled s qs d k.0 k.1) (sym k.2.here) f in
        let n = row_is qs (rises s 100 qs (length s) p) i (get_or qs i 0) l
        (entry_starts s qs (get_or hs i 0) (f.from + 4) (get_or qs i 0) k.1 f.entries k.4) refl in
        back_to k.0 k.1 (listed_mark s (get_or qs i 0)) k.2 g
        (inr (subst (λ (z : ℕ). Has z (listed_mark s (get_or qs i 0)) (copied s qs k.1)) (sym n) (in_has s qs (get_or qs i 0) k.1 k.4)))
        (ap final (r.class i l e) ∙ final_low (listed_part s (get_or qs i 0)) (low (listed_part s (get_or qs i 0)) (subst Listed (r.class i l e) e))
        ∙ sym (mark_part s (get_or qs i 0))))
        k.3
      where
        low : (k : ℕ) → Listed k → k < 8
        low k = ⊎_elim (λ (e : k ≡ 5). omega arith) (λ (e : k ≡ 6). omega arith)

  -- a directory and what it gives
  module _ (j : ℕ) (l : j < length qs) (d : Directory (get_or gs j 0)) where
    abbrev Kid : ℕ → ℕ → Type 0
    Kid i m =
        (first_part s h (get_or qs i 0) ≡ 7) × ((final (get_or gs i 0) ≡ final m) × (get_or hs i 0 ≡ get_or qs j 0))

    module _ (dh : DirHead) (ks : List Key) (e : dir_of s h (get_or qs j 0) (get_or hs j 0) ≡ Some dh)
        (f : Filled s qs (get_or qs j 0) dh ks) where
      list_row : (get_or gs (row_of qs dh.seekkeys) 0 ≡ 4) × (get_or hs (row_of qs dh.seekkeys) 0 ≡ get_or qs j 0)
      list_row =
          let x = row_in qs dh.seekkeys f.place in
          (r.keys_part (row_of qs dh.seekkeys) (get_or qs j 0) x.0).1 (dh, stands j dh l d e, sym x.1)

      copy_row : (q : ℕ) → In q (places ks) → Listed (get_or gs (row_of qs q) 0) × (get_or hs (row_of qs q) 0 ≡ get_or qs j 0)
      copy_row q k =
          let x = row_in qs q (entry_starts s qs (get_or qs j 0) (f.from + 4) q ks f.entries k) in
          (r.copied (row_of qs q) (get_or qs j 0) x.0).1
          (dh, ks, stands j dh l d e, inr f, subst (λ (z : ℕ). In z (places ks)) (sym x.1) k)

      list_fresh : (m : ℕ) → Has (row_of qs dh.seekkeys) m (copied s qs ks) → ⊥
      list_fresh m x =
          let y = has_in s qs (row_of qs dh.seekkeys) m ks x in
          let z = subst (λ (i : ℕ). Listed (get_or gs i 0)) (sym y.2) (copy_row y.0 y.1).0 in
          ⊎_elim
          (λ (w : get_or gs (row_of qs dh.seekkeys) 0 ≡ 5). omega (arith, list_row.0))
          (λ (w : get_or gs (row_of qs dh.seekkeys) 0 ≡ 6). omega (arith, list_row.0))
          z

      list_kid : (i m : ℕ) → i ≡ row_of qs dh.seekkeys → m ≡ 4 → Kid i m
      list_kid i m a b =
          let x = row_in qs dh.seekkeys f.place in
          let i-in : i < length qs = omega (arith, x.0) in
          let g = subst (λ (z : ℕ). get_or gs z 0 ≡ 4) (sym a) list_row.0 in (
            loose_at i i-in (omega arith) (place s h (get_or qs i 0)),
            (ap final (g ∙ sym b), subst (λ (z : ℕ). get_or hs z 0 ≡ get_or qs j 0) (sym a) list_row.1),
          )

      copy_kid : (i m : ℕ) → Has i m (copied s qs ks) → Kid i m
      copy_kid i m k =
          let y = has_in s qs i m ks k in
          let x = row_in qs y.0 (entry_starts s qs (get_or qs j 0) (f.from + 4) y.0 ks f.entries y.1) in
          let c = copy_row y.0 y.1 in
          let i-in : i < length qs = omega (arith, x.0, y.2) in
          let g = subst (λ (z : ℕ). Listed (get_or gs z 0)) (sym y.2) c.0 in
          let q : get_or qs i 0 ≡ y.0 = ap (λ (z : ℕ). get_or qs z 0) y.2 ∙ x.1 in (
            loose_at i i-in (listed_four (get_or gs i 0) g) (place s h (get_or qs i 0)),
            (
              final_low (get_or gs i 0) (omega (arith, r.known i i-in)) ∙ r.class i i-in g ∙ ap (listed_part s) q
                  ∙ sym (ap final y.3 ∙ mark_part s y.0),
              subst (λ (z : ℕ). get_or hs z 0 ≡ get_or qs j 0) (sym y.2) c.1,
            ),
          )

    done_at : Done qs (graph s h qs p) gs hs j
    unfolding graph
    done_at =
        let x = r.directory j l d in
        ⊎_elim
        (λ (y : All (no_keys x.0) × (x.1 ≡ [])). record {
          items = [];
          says = record { dirhead = x.0; keys = x.1; header = x.2; items = inl (y.0, (y.1, refl)) };
          fresh = tt;
          kids = λ i m k. absurd k;
        })
        (λ (f : Filled s qs (get_or qs j 0) x.0 x.1). record {
          items = item (row_of qs x.0.seekkeys) 4 ∷ copied s qs x.1;
          says = record { dirhead = x.0; keys = x.1; header = x.2; items = inr (f, refl) };
          fresh = (
            list_fresh x.0 x.1 x.2 f,
            distinct_fresh s qs (get_or qs j 0) (f.from + 4) x.1 f.entries
                (r.once (get_or qs j 0) x.0 x.1 (stands j x.0 l d x.2) (inr f)),
          );
          kids = λ i m. ⊎_elim
              (λ (k : (i ≡ row_of qs x.0.seekkeys) × (m ≡ 4)). list_kid x.0 x.1 x.2 f i m k.0 k.1)
              (λ (k : Has i m (copied s qs x.1)). copy_kid x.0 x.1 x.2 f i m k);
        })
        x.3

  leads_at : (i : ℕ) → i < length qs → (get_or gs i 0 ≡ 4) ⊎ Listed (get_or gs i 0) → Leads qs hs (get_or qs i 0)
  leads_at i l =
      ⊎_elim
      (λ (e : get_or gs i 0 ≡ 4).
      let k = (r.keys_part i (get_or hs i 0) l).0 (e, refl) in
      let a = k.1 in
      up i l refl (subst (Leads qs hs) a.here (⊎_elim
      (λ (x : get_or gs a.row 0 ≡ 1). root ((r.head_part a.row a.within).0 x))
      (λ (x : get_or gs a.row 0 ≡ 6). r.leads a.row a.within (inr x))
      a.is)))
      (λ (e : Listed (get_or gs i 0)). r.leads i l e)

  pub all_known : (i : ℕ) → i < length qs → get_or gs i 0 < 8
  all_known i l = omega (arith, r.known i l)

  pub as_state : State qs (graph s h qs p) gs hs
  unfolding graph
  as_state = record {
    parts = r.parts;
    owners = r.owners;
    fixed = λ i l n. let x = fixed_at i l n (place s h (get_or qs i 0)) in (x.0, x.1.1);
    alone = λ i l e. r.no_owner i l (inr e);
    back = λ i l b n. ⊎_elim
        (λ (e : get_or gs i 0 ≡ 4). list_back i l e)
        (λ (e : Listed (get_or gs i 0)). copy_back i l e)
        (up_to i l b n);
    done = done_at;
    shape = λ i l k. absurd (omega (arith, r.known i l));
    leads = λ i l b n. leads_at i l (up_to i l b n);
  }
