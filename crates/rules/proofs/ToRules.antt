-- A state of the graph in which every directory is done meets the rules.
use Rattle.std.specs.Prelude.{Some}
use Prim.Native.Nat.{ℕ, ◌+◌, ◌<◌, ◌≤◌}
use mathlib.Core.Bool.{true}
use mathlib.Core.List.{List, [], ◌∷◌}
use mathlib.Core.Logic.{◌⊎◌, inl, inr, ⊎_elim}
use mathlib.Core.Path.{◌≡◌, refl, sym, ap, ◌∙◌, subst}
use native.Mathlib.Omega.{arith}
use lib.ListN.{length, get_or}
use Rattle.wire.specs.Check.{All}
use Rattle.key.specs.Piece.{piece_at}
use Rattle.key.specs.declared.header.Key.{Key}
use Rattle.directory.specs.Dir.{head_in, dir_of, no_keys}
use Rattle.wire.specs.Name.{t_file, t_list}
use Rattle.directory.specs.declared.DirHead.{DirHead}
use Rattle.fileheader.specs.declared.FileHead.{FileHead}
use Rattle.wire.proofs.Checks.{false_true}
use Rattle.rules.specs.Entry.{listed_part}
use Rattle.rules.specs.Free.{Mode, is_gap, Free, info_holds}
use Rattle.rules.specs.Partition.{Partition}
use Rattle.rules.specs.Row.{starts}
use Rattle.rules.specs.Rules.{Rules, In, Distinct, Directory, Listed, DirectoryAt, KeysOf, Lists, KeysAre, Filled, places}
use Rattle.rules.specs.Turn.{row_of, first_part, listed_mark}
use Rattle.rules.proofs.Classes.{Named, no_gap, two_records, head_file, free_file, info_list}
use Rattle.rules.proofs.Directories.{graph, zero_place, below_first, same_keys}
use Rattle.rules.proofs.Fixed.{Place, head, free, info, gap, other, place}
use Rattle.rules.proofs.Graph.{State, Back, Done, Given, final, final_low, final_high}
use Rattle.rules.proofs.Items.{Item, item, Has, Fresh, same?}
use Rattle.rules.proofs.Listed.{mark_part, part_listed, in_has, has_in, entry_starts, fresh_distinct, row_is}
use Rattle.rules.proofs.Partitions.{rises}
use Rattle.rules.proofs.Places.{row_in}
use Rattle.rules.proofs.Runs.{Said, Gives, copied}

-- which part a mark becomes
given_part : (m : ℕ) → Given m → ((m ≡ 4) × (final m ≡ 4)) ⊎ ((m ≡ 4 → ⊥) × Listed (final m))
given_part m =
    ⊎_elim
    (λ (e : m ≡ 4). inl (e, final_low m (omega arith) ∙ e))
    (⊎_elim
    (λ (e : m ≡ 5). inr (λ f. omega arith, inl (final_low m (omega arith) ∙ e)))
    (λ (e : m ≡ 14). inr (λ f. omega arith, inr (ap final e ∙ final_high 14 (omega arith)))))

module _ (s : List ℕ) (h : FileHead) (qs : List ℕ) (p : Partition s 100 (length s) qs) (ps os : List ℕ)
    (v : State qs (graph s h qs p) ps os) (over : (i : ℕ) → i < length qs → get_or ps i 0 < 8) where
  is_final : (i : ℕ) → i < length qs → final (get_or ps i 0) ≡ get_or ps i 0
  is_final i l = final_low (get_or ps i 0) (over i l)

  -- a row of the header's records and gaps
  fixed_part_law : (i b : ℕ) → i < length qs → first_part s h (get_or qs i 0) ≡ b → (b ≡ 7 → ⊥) → (get_or ps i 0 ≡ final b) × (get_or os i 0 ≡ 0)
  unfolding graph
  fixed_part_law i b l e n =
      let f = v.fixed i l (λ x. n (sym e ∙ x)) in
      (sym (is_final i l) ∙ f.0 ∙ ap final e, f.1)

  -- a row that a directory gave, or that has no part
  loose_part : (i : ℕ) → i < length qs → first_part s h (get_or qs i 0) ≡ 7 → (4 ≤ get_or ps i 0)
  unfolding graph
  loose_part i l e =
      ⊎_elim
      (λ (f : get_or ps i 0 ≡ 7). omega arith)
      (λ (f : get_or ps i 0 ≡ 7 → ⊥).
      let b = v.back i l e f in
      let w = (graph s h qs p).within b.row (get_or os b.row 0) i b.mark b.items b.says b.has in
      let x = sym (is_final i l) ∙ b.same in
      ⊎_elim
      (λ (y : (b.mark ≡ 4) × (final b.mark ≡ 4)). omega (arith, y.1))
      (λ (y : (b.mark ≡ 4 → ⊥) × Listed (final b.mark)). ⊎_elim (λ (z : final b.mark ≡ 5). omega arith)
      (λ (z : final b.mark ≡ 6). omega arith) y.1)
      (given_part b.mark w.1))
      (same? (get_or ps i 0) 7)

  -- what a part says of its row
  abbrev Says : ℕ → Type 0
  Says i =
      ((get_or ps i 0 ≡ 1) × (get_or qs i 0 ≡ 100))
      ⊎ (((get_or ps i 0 ≡ 2) × (get_or qs i 0 ≡ h.seekfree))
      ⊎ (((get_or ps i 0 ≡ 3) × (get_or qs i 0 ≡ h.seekinfo))
      ⊎ (((get_or ps i 0 ≡ 0) × (is_gap (piece_at s (get_or qs i 0)) ≡ true)) ⊎ ((4 ≤ get_or ps i 0) × (first_part s h (get_or qs i 0) ≡ 7)))))

  says_by : (i : ℕ) → i < length qs → Place s h (get_or qs i 0) → Says i
  says_by i l (head a b) = inl ((fixed_part_law i 9 l b (λ e. omega arith)).0 ∙ final_high 9 (omega arith), a)
  says_by i l (free x a b) = inr (inl ((fixed_part_law i 2 l b (λ e. omega arith)).0 ∙ final_low 2 (omega arith), a))
  says_by i l (info x y a b) = inr (inr (inl ((fixed_part_law i 3 l b (λ e. omega arith)).0 ∙ final_low 3 (omega arith), a)))
  says_by i l (gap x y z a b) = inr (inr (inr (inl ((fixed_part_law i 0 l b (λ e. omega arith)).0 ∙ final_low 0 (omega arith), a))))
  says_by i l (other x y z a b) = inr (inr (inr (inr (loose_part i l b, b))))

  says : (i : ℕ) → i < length qs → Says i
  says i l = says_by i l (place s h (get_or qs i 0))

  -- a row's part decides its place
  module _ (i : ℕ) (l : i < length qs) where
    abbrev Q : Type 0
    Q = (get_or ps i 0 ≡ 1 → get_or qs i 0 ≡ 100)
        × ((get_or ps i 0 ≡ 2 → get_or qs i 0 ≡ h.seekfree)
        × ((get_or ps i 0 ≡ 3 → get_or qs i 0 ≡ h.seekinfo)
        × ((get_or ps i 0 ≡ 0 → is_gap (piece_at s (get_or qs i 0)) ≡ true) × (4 ≤ get_or ps i 0 → first_part s h (get_or qs i 0) ≡ 7))))

    told : Q
    told =
        ⊎_elim
        (λ (x : (get_or ps i 0 ≡ 1) × (get_or qs i 0 ≡ 100)). (
          λ e. x.1,
          (
            λ e. absurd (omega (arith, x.0)),
            (λ e. absurd (omega (arith, x.0)), (λ e. absurd (omega (arith, x.0)), λ e. absurd (omega (arith, x.0)))),
          ),
        ))
        (⊎_elim
        (λ (x : (get_or ps i 0 ≡ 2) × (get_or qs i 0 ≡ h.seekfree)). (
          λ e. absurd (omega (arith, x.0)),
          (λ e. x.1, (λ e. absurd (omega (arith, x.0)), (λ e. absurd (omega (arith, x.0)), λ e. absurd (omega (arith, x.0))))),
        ))
        (⊎_elim
        (λ (x : (get_or ps i 0 ≡ 3) × (get_or qs i 0 ≡ h.seekinfo)). (
          λ e. absurd (omega (arith, x.0)),
          (λ e. absurd (omega (arith, x.0)), (λ e. x.1, (λ e. absurd (omega (arith, x.0)), λ e. absurd (omega (arith, x.0))))),
        ))
        (⊎_elim
        (λ (x : (get_or ps i 0 ≡ 0) × (is_gap (piece_at s (get_or qs i 0)) ≡ true)). (
          λ e. absurd (omega (arith, x.0)),
          (λ e. absurd (omega (arith, x.0)), (λ e. absurd (omega (arith, x.0)), (λ e. x.1, λ e. absurd (omega (arith, x.0))))),
        ))
        (λ (x : (4 ≤ get_or ps i 0) × (first_part s h (get_or qs i 0) ≡ 7)). (
          λ e. absurd (omega (arith, x.0)),
          (λ e. absurd (omega (arith, x.0)), (λ e. absurd (omega (arith, x.0)), (λ e. absurd (omega (arith, x.0)), λ e. x.1))),
        )))))
        (says i l)

  abbrev At : ℕ → DirHead → Type 0
  At d dh = DirectoryAt s h qs ps os d dh

  -- where the part of a row comes from
  pub record Origin (i : ℕ) : Type 0 where
    pub dirhead : DirHead
    pub keys : List Key
    pub stands : At (get_or os i 0) dirhead
    pub filled : Filled s qs (get_or os i 0) dirhead keys
    pub how : ((get_or ps i 0 ≡ 4) × (dirhead.seekkeys ≡ get_or qs i 0))
        ⊎ (In (get_or qs i 0) (places keys) × (get_or ps i 0 ≡ listed_part s (get_or qs i 0)))

  module _ (i : ℕ) (l : i < length qs) (some : 4 ≤ get_or ps i 0) (not7 : get_or ps i 0 ≡ 7 → ⊥) where
    back : Back qs (graph s h qs p) ps os i
    unfolding graph
    back = v.back i l ((told i l).1.1.1.1 some) not7

    said : Said s qs h back.row (get_or os back.row 0) back.items
    unfolding graph
    said = back.says

    same : get_or ps i 0 ≡ final back.mark
    same = sym (is_final i l) ∙ back.same

    stands_there : At (get_or os i 0) said.dirhead
    stands_there = record {
      row = back.row;
      within = back.inside;
      here = sym back.owner;
      is = back.part;
      header = subst (λ (x : ℕ). dir_of s h x (get_or os back.row 0) ≡ Some said.dirhead) (sym back.owner) said.header;
    }

    origin_by : (f : Filled s qs (get_or qs back.row 0) said.dirhead said.keys)
        → Has i back.mark (item (row_of qs said.dirhead.seekkeys) 4 ∷ copied s qs said.keys) → Origin i
    origin_by f x = record {
      dirhead = said.dirhead;
      keys = said.keys;
      stands = stands_there;
      filled = subst (λ (d : ℕ). Filled s qs d said.dirhead said.keys) (sym back.owner) f;
      how = ⊎_elim
          (λ (y : (i ≡ row_of qs said.dirhead.seekkeys) × (back.mark ≡ 4)).
          inl (
            same ∙ ap final y.1 ∙ final_low 4 (omega arith),
            sym (ap (λ (z : ℕ). get_or qs z 0) y.0 ∙ (row_in qs said.dirhead.seekkeys f.place).1),
          ))
          (λ (y : Has i back.mark (copied s qs said.keys)).
          let z = has_in s qs i back.mark said.keys y in
          let w = row_in qs z.0 (entry_starts s qs (get_or qs back.row 0) (f.from + 4) z.0 said.keys f.entries z.1) in
          let q : z.0 ≡ get_or qs i 0 = sym (ap (λ (n : ℕ). get_or qs n 0) z.2 ∙ w.1) in
          inr (subst (λ (n : ℕ). In n (places said.keys)) q z.1, same ∙ ap final z.3 ∙ mark_part s z.0 ∙ ap (listed_part s) q))
          x;
    }

    origin : Origin i
    origin =
        ⊎_elim
        (λ (x : All (no_keys said.dirhead) × ((said.keys ≡ []) × (back.items ≡ []))). absurd (subst (Has i back.mark) x.1.1 back.has))
        (λ (x : Filled s qs (get_or qs back.row 0) said.dirhead said.keys
        × (back.items ≡ item (row_of qs said.dirhead.seekkeys) 4 ∷ copied s qs said.keys)).
        origin_by x.0 (subst (Has i back.mark) x.1 back.has))
        said.items

  -- what a directory gives
  pub record Gift (d : ℕ) (dh : DirHead) : Type 0 where
    pub keys : List Key
    pub items : List Item
    pub gives : Gives s qs d dh keys items
    pub fresh : Fresh items
    pub kids : (i m : ℕ) → Has i m items → (final (get_or ps i 0) ≡ final m) × (get_or os i 0 ≡ d)

  module _ (d : ℕ) (dh : DirHead) (a : At d dh) where
    gift_by : (w : Done qs (graph s h qs p) ps os a.row) → Said s qs h a.row (get_or os a.row 0) w.items → Gift d dh
    gift_by w x =
        let y = x.header in
        let z = subst (λ (n : ℕ). dir_of s h n (get_or os a.row 0) ≡ Some dh) (sym a.here) a.header in
        let e : x.dirhead ≡ dh = cc in
        record {
          keys = x.keys;
          items = w.items;
          gives = subst (λ (g : DirHead). Gives s qs d g x.keys w.items) e
              (subst (λ (n : ℕ). Gives s qs n x.dirhead x.keys w.items) a.here x.items);
          fresh = w.fresh;
          kids = λ i m k. let c = w.kids i m k in (c.1.0, c.1.1 ∙ a.here);
        }

    gift : Gift d dh
    unfolding graph
    gift = let w = v.done a.row a.within a.is in gift_by w w.says

    both : {A : Type 0} (ks : List Key) → All (no_keys dh) → Filled s qs d dh ks → A
    both ks n f = absurd (zero_place s qs (length s) p (subst (λ (x : ℕ). starts qs x ≡ true) n.0 f.place))

    -- the gift of a filled list
    abbrev Full : List Key → Type 0
    Full ks =
        (gift.items ≡ item (row_of qs dh.seekkeys) 4 ∷ copied s qs ks)

    full : (ks : List Key) → Filled s qs d dh ks → Full ks
    full ks f =
        ⊎_elim
        (λ (x : All (no_keys dh) × ((gift.keys ≡ []) × (gift.items ≡ []))). both ks x.0 f)
        (λ (x : Filled s qs d dh gift.keys × (gift.items ≡ item (row_of qs dh.seekkeys) 4 ∷ copied s qs gift.keys)).
        x.1 ∙ ap (λ (ls : List Key). item (row_of qs dh.seekkeys) 4 ∷ copied s qs ls)
        (same_keys s qs (zero_place s qs (length s) p) d dh gift.keys ks x.0 f))
        gift.gives

    list_of : (i : ℕ) → i < length qs → dh.seekkeys ≡ get_or qs i 0 → (get_or ps i 0 ≡ 4) × (get_or os i 0 ≡ d)
    list_of i l e =
        ⊎_elim
        (λ (x : All (no_keys dh) × ((gift.keys ≡ []) × (gift.items ≡ []))). absurd (omega (arith, x.0.0, below_first s h qs p i l)))
        (λ (x : Filled s qs d dh gift.keys × (gift.items ≡ item (row_of qs dh.seekkeys) 4 ∷ copied s qs gift.keys)).
        let n = row_is qs (rises s 100 qs (length s) p) i dh.seekkeys l x.0.place (sym e) in
        let c = gift.kids i 4 (subst (Has i 4) (sym x.1) (inl (n, refl))) in
        (sym (is_final i l) ∙ c.0 ∙ final_low 4 (omega arith), c.1))
        gift.gives

    copy_of : (i : ℕ) (ks : List Key) → i < length qs → KeysAre s qs d dh ks → In (get_or qs i 0) (places ks)
        → (get_or ps i 0 ≡ listed_part s (get_or qs i 0)) × (get_or os i 0 ≡ d)
    copy_of i ks l k x =
        ⊎_elim
        (λ (y : All (no_keys dh) × (ks ≡ [])). absurd (subst (λ (z : List Key). In (get_or qs i 0) (places z)) y.1 x))
        (λ (f : Filled s qs d dh ks).
        let n = row_is qs (rises s 100 qs (length s) p) i (get_or qs i 0) l (entry_starts s qs d (f.from + 4) (get_or qs i 0) ks f.entries x) refl in
        let m = subst (λ (z : ℕ). Has z (listed_mark s (get_or qs i 0)) (copied s qs ks)) (sym n) (in_has s qs (get_or qs i 0) ks x) in
        let c = gift.kids i (listed_mark s (get_or qs i 0)) (subst (Has i (listed_mark s (get_or qs i 0))) (sym (full ks f)) (inr m)) in
        (sym (is_final i l) ∙ c.0 ∙ mark_part s (get_or qs i 0), c.1))
        k

    once_of : (ks : List Key) → KeysAre s qs d dh ks → Distinct (places ks)
    once_of ks k =
        ⊎_elim
        (λ (y : All (no_keys dh) × (ks ≡ [])). subst (λ (z : List Key). Distinct (places z)) (sym y.1) tt)
        (λ (f : Filled s qs d dh ks). fresh_distinct s qs ks (subst Fresh (full ks f) gift.fresh).1)
        k

  keys_are : (i : ℕ) → i < length qs → Directory (get_or ps i 0)
      → (dh : DirHead) × (ks : List Key) × (dir_of s h (get_or qs i 0) (get_or os i 0) ≡ Some dh) × KeysAre s qs (get_or qs i 0) dh ks
  unfolding graph
  keys_are i l d =
      let x = (v.done i l d).says in (
        x.dirhead,
        x.keys,
        x.header,
        ⊎_elim
            (λ (y : All (no_keys x.dirhead) × ((x.keys ≡ []) × ((v.done i l d).items ≡ []))). inl (y.0, y.1.0))
            (λ (y : Filled s qs (get_or qs i 0) x.dirhead x.keys
            × ((v.done i l d).items ≡ item (row_of qs x.dirhead.seekkeys) 4 ∷ copied s qs x.keys)). inr y.0)
            x.items,
      )

  listed_some : (k : ℕ) → Listed k → (4 ≤ k) × ((k ≡ 7 → ⊥) × (k ≡ 4 → ⊥))
  listed_some k = ⊎_elim (λ (e : k ≡ 5). (omega arith, (λ x. omega arith, λ x. omega arith)))
      (λ (e : k ≡ 6). (omega arith, (λ x. omega arith, λ x. omega arith)))

  list_from : (i : ℕ) → i < length qs → get_or ps i 0 ≡ 4 → KeysOf s h qs ps os (get_or os i 0) (get_or qs i 0)
  list_from i l e =
      let o = origin i l (omega arith) (λ x. omega arith) in
      ⊎_elim
      (λ (x : (get_or ps i 0 ≡ 4) × (o.dirhead.seekkeys ≡ get_or qs i 0)). (o.dirhead, o.stands, x.1))
      (λ (x : In (get_or qs i 0) (places o.keys) × (get_or ps i 0 ≡ listed_part s (get_or qs i 0))).
      absurd ((listed_some (listed_part s (get_or qs i 0)) (part_listed s (get_or qs i 0))).1.1 (sym x.1 ∙ e)))
      o.how

  abbrev Copied : ℕ → Type 0
  Copied i = Lists s h qs ps os (get_or os i 0) (get_or qs i 0) × (get_or ps i 0 ≡ listed_part s (get_or qs i 0))

  copy_from : (i : ℕ) → i < length qs → Listed (get_or ps i 0) → Copied i
  copy_from i l e =
      let n = listed_some (get_or ps i 0) e in
      let o = origin i l n.0 n.1.0 in
      ⊎_elim
      (λ (x : (get_or ps i 0 ≡ 4) × (o.dirhead.seekkeys ≡ get_or qs i 0)). absurd (n.1.1 x.0))
      (λ (x : In (get_or qs i 0) (places o.keys) × (get_or ps i 0 ≡ listed_part s (get_or qs i 0))).
      ((o.dirhead, o.keys, o.stands, inr o.filled, x.0), x.1))
      o.how

  module _ {mode : Mode} (dh : DirHead) (hd : head_in s h.nbytesname ≡ Some dh) (fr : Free mode s qs h) (nf : info_holds s qs h ≡ true) where
    info_there : (i : ℕ) → i < length qs → get_or qs i 0 ≡ h.seekinfo → Named s h.seekinfo t_list
    info_there i l e = info_list s qs h nf (λ z. omega (arith, below_first s h qs p i l))

    -- the rows of the header's records have their parts
    first_row : (i : ℕ) → i < length qs → get_or qs i 0 ≡ 100 → Place s h (get_or qs i 0) → get_or ps i 0 ≡ 1
    first_row i l e (head a b) = (fixed_part_law i 9 l b (λ x. omega arith)).0 ∙ final_high 9 (omega arith)
    first_row i l e (free x a b) = absurd (x e)
    first_row i l e (info x y a b) = absurd (x e)
    first_row i l e (gap x y z a b) = absurd (x e)
    first_row i l e (other x y z a b) = absurd (x e)

    second_row : (i : ℕ) → i < length qs → get_or qs i 0 ≡ h.seekfree → Place s h (get_or qs i 0) → get_or ps i 0 ≡ 2
    second_row i l e (head a b) = absurd (fr.other (sym e ∙ a))
    second_row i l e (free x a b) = (fixed_part_law i 2 l b (λ y. omega arith)).0 ∙ final_low 2 (omega arith)
    second_row i l e (info x y a b) = absurd (y e)
    second_row i l e (gap x y z a b) = absurd (y e)
    second_row i l e (other x y z a b) = absurd (y e)

    third_row : (i : ℕ) → i < length qs → get_or qs i 0 ≡ h.seekinfo → Place s h (get_or qs i 0) → get_or ps i 0 ≡ 3
    third_row i l e (head a b) =
        absurd (two_records s 100 (head_file s h.nbytesname dh hd) (subst (λ (x : ℕ). Named s x t_list) (sym e ∙ a) (info_there i l e)))
    third_row i l e (free x a b) =
        absurd (two_records s h.seekfree (free_file s qs h fr) (subst (λ (y : ℕ). Named s y t_list) (sym e ∙ a) (info_there i l e)))
    third_row i l e (info x y a b) = (fixed_part_law i 3 l b (λ z. omega arith)).0 ∙ final_low 3 (omega arith)
    third_row i l e (gap x y z a b) = absurd (z e)
    third_row i l e (other x y z a b) = absurd (z e)

    at_gap : {A : Type 0} (q n : ℕ) (name : List ℕ) → q ≡ n → Named s n name → is_gap (piece_at s q) ≡ true → A
    at_gap q n name e f g = absurd (no_gap s n name f (ap (λ (x : ℕ). is_gap (piece_at s x)) (sym e) ∙ g))

    gap_row : (i : ℕ) → i < length qs → is_gap (piece_at s (get_or qs i 0)) ≡ true → Place s h (get_or qs i 0) → get_or ps i 0 ≡ 0
    gap_row i l n (head a b) = at_gap (get_or qs i 0) 100 t_file a (head_file s h.nbytesname dh hd) n
    gap_row i l n (free x a b) = at_gap (get_or qs i 0) h.seekfree t_file a (free_file s qs h fr) n
    gap_row i l n (info x y a b) = at_gap (get_or qs i 0) h.seekinfo t_list a (info_there i l a) n
    gap_row i l n (gap x y z a b) = (fixed_part_law i 0 l b (λ w. omega arith)).0 ∙ final_low 0 (omega arith)
    gap_row i l n (other x y z a b) = false_true (sym a ∙ n)

    alone_row : (i : ℕ) → i < length qs → get_or ps i 0 ≤ 3 → Place s h (get_or qs i 0) → get_or os i 0 ≡ 0
    alone_row i l k (head a b) = (fixed_part_law i 9 l b (λ x. omega arith)).1
    alone_row i l k (free x a b) = (fixed_part_law i 2 l b (λ y. omega arith)).1
    alone_row i l k (info x y a b) = (fixed_part_law i 3 l b (λ z. omega arith)).1
    alone_row i l k (gap x y z a b) = (fixed_part_law i 0 l b (λ w. omega arith)).1
    alone_row i l k (other x y z a b) = absurd (omega (arith, loose_part i l b))

    pub meets : Rules s h qs ps os mode
    unfolding graph
    meets = record {
      parts = v.parts;
      owners = v.owners;
      known = λ i l. omega (arith, over i l);
      head_rule = (dh, hd);
      free_rule = fr;
      info_rule = nf;
      gap_part = λ i l. ((told i l).1.1.1.0, λ n. gap_row i l n (place s h (get_or qs i 0)));
      head_part = λ i l. ((told i l).0, λ e. first_row i l e (place s h (get_or qs i 0)));
      free_part = λ i l. ((told i l).1.0, λ e. second_row i l e (place s h (get_or qs i 0)));
      info_part = λ i l. ((told i l).1.1.0, λ e. third_row i l e (place s h (get_or qs i 0)));
      directory = keys_are;
      keys_part = λ i d l. (
        λ x. subst (λ (n : ℕ). KeysOf s h qs ps os n (get_or qs i 0)) x.1 (list_from i l x.0),
        λ x. list_of d x.0 x.1 i l x.2,
      );
      copied = λ i d l. (
        λ x. subst (λ (n : ℕ). Lists s h qs ps os n (get_or qs i 0)) x.1 (copy_from i l x.0).0,
        λ x.
            let c = copy_of d x.0 x.2 i x.1 l x.3 x.4 in
            (subst Listed (sym c.0) (part_listed s (get_or qs i 0)), c.1),
      );
      class = λ i l e. (copy_from i l e).1;
      once = λ d g ks a k. once_of d g a ks k;
      no_owner = λ i l. ⊎_elim (λ (e : get_or ps i 0 ≤ 3). alone_row i l e (place s h (get_or qs i 0))) (λ (e : get_or ps i 0 ≡ 7). v.alone i l e);
      leads = λ i l e. let n = listed_some (get_or ps i 0) e in v.leads i l ((told i l).1.1.1.1 n.0) n.1.0;
    }
