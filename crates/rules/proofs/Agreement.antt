-- An assignment that meets the rules, and the parts and owners given so far: they agree, so no directory stops, and at the end they
-- are the same.
use Prim.Native.Nat.{ℕ, zero, suc, ◌-◌, ◌<◌, ◌≤◌}
use mathlib.Core.List.{List, [], ◌∷◌}
use mathlib.Core.Logic.{inl, inr, ⊎_elim}
use mathlib.Core.Path.{◌≡◌, refl, sym, ap, ◌∙◌, subst}
use native.Mathlib.Omega.{arith}
use lib.ListN.{length, get_or, set}
use Rattle.rules.specs.Rules.{Directory, Leads, root, up}
use Rattle.rules.proofs.Items.{Item, Has, Assign, Assigned, assigns, same?, has?}
use Rattle.rules.proofs.Graph.{Graph, State, Done, final, final_low, final_high, one_row, was_free, kept, had, given, directory_low}

-- lists of one length with the same entries
pub same_lists : (xs ys : List ℕ) → length xs ≡ length ys → ((i : ℕ) → i < length xs → get_or xs i 0 ≡ get_or ys i 0) → xs ≡ ys
same_lists [] [] e h = refl
same_lists [] (y ∷ ys) e h = absurd (omega arith)
same_lists (x ∷ xs) [] e h = absurd (omega arith)
same_lists (x ∷ xs) (y ∷ ys) e h =
    let f = same_lists xs ys (omega arith) (λ i l. h (suc i) (omega arith)) in
    let k = h zero (omega arith) in
    cc

module _ (qs : List ℕ) (g : Graph qs) (gs hs : List ℕ) (w : State qs g gs hs) (all : (i : ℕ) → i < length qs → get_or gs i 0 < 8) where
  -- a state that says nothing but what the assignment says
  abbrev pub Agree : List ℕ → List ℕ → Type 0
  Agree ps os = (i : ℕ) → i < length qs → (get_or ps i 0 ≡ 7 → ⊥) → (final (get_or ps i 0) ≡ get_or gs i 0) × (get_or os i 0 ≡ get_or hs i 0)

  module _ (ps os : List ℕ) (v : State qs g ps os) (k : Agree ps os) where
    -- a directory that is found: every row that it gives is free
    module _ (j : ℕ) (l : j < length qs) (todo : 8 ≤ get_or ps j 0) where
      has_part : get_or ps j 0 ≡ 7 → ⊥
      has_part e = omega arith

      is_directory : Directory (get_or gs j 0)
      is_directory =
          let e = sym (k j l has_part).0 ∙ final_high (get_or ps j 0) todo in
          ⊎_elim (λ (x : get_or ps j 0 ≡ 9). inl (omega arith)) (λ (x : get_or ps j 0 ≡ 14). inr (omega arith)) (v.shape j l todo)

      its_done : Done qs g gs hs j
      its_done = w.done j l is_directory

      pub gives : List Item
      gives = its_done.items

      pub says : g.Says j (get_or os j 0) gives
      unfolding gives
      says = subst (λ (o : ℕ). g.Says j o its_done.items) (sym (k j l has_part).1) its_done.says

      free : (i m : ℕ) → Has i m gives → get_or ps i 0 ≡ 7
      unfolding gives
      free i m h =
          ⊎_elim
          (λ (e : get_or ps i 0 ≡ 7). e)
          (λ (e : get_or ps i 0 ≡ 7 → ⊥). absurd (clash e))
          (same? (get_or ps i 0) 7)
        where
          inside : i < length qs
          inside = (g.within j (get_or os j 0) i m its_done.items says h).0

          clash : (get_or ps i 0 ≡ 7 → ⊥) → ⊥
          clash e =
              let d = its_done.kids i m h in
              let b = v.back i inside d.0 e in
              let s = one_row qs g.rising b.row j b.inside l (sym b.owner ∙ (k i inside e).1 ∙ d.1.1) in
              let x = (directory_low (get_or ps b.row 0) b.part).0 in
              let y = ap (λ (r : ℕ). get_or ps r 0) s in
              omega arith

      pub goes_on : (us : List ℕ) × (vs : List ℕ) × Assign (get_or qs j 0) gives ps os us vs
      unfolding gives
      goes_on = assigns (get_or qs j 0) gives ps os free its_done.fresh

      pub agrees : (us vs : List ℕ) → Assigned (get_or qs j 0) gives ps os us vs → Agree (set us j (get_or ps j 0 - 8)) vs
      unfolding gives
      agrees us vs a i h n =
          ⊎_elim
          (λ (x : (m : ℕ) × Has i m gives).
          let d = its_done.kids i x.0 x.1 in (
            ap final (given qs g ps os v us vs j l todo gives says a i x.0 x.1) ∙ sym d.1.0 ∙ final_low (get_or gs i 0) (all i h),
            a.in_owner i x.0 x.1 ∙ sym d.1.1,
          ))
          (λ (x : (m : ℕ) → Has i m gives → ⊥).
          let y = had qs g ps os v us vs j l todo gives says a i x n in
          let z = kept qs g ps os v us vs j l todo gives says a i y in
          (z.0 ∙ (k i h y).0, z.1 ∙ (k i h y).1))
          (has? i gives)

    -- nothing is left to do
    module _ (end : (i : ℕ) → i < length qs → get_or ps i 0 < 8) where
      settled : (i : ℕ) → i < length qs → (get_or ps i 0 ≡ 7 → ⊥) → get_or ps i 0 ≡ get_or gs i 0
      settled i h n = sym (final_low (get_or ps i 0) (end i h)) ∙ (k i h n).0

      covers : {p : ℕ} → Leads qs hs p → (i : ℕ) → i < length qs → get_or qs i 0 ≡ p → (get_or gs i 0 ≡ 7 → ⊥) → get_or ps i 0 ≡ 7 → ⊥
      covers (root f) i h e n z =
          let b = was_free qs g ps os v i h z in
          omega (arith, g.first i h (e ∙ f))
      covers (up c m f r) i h e n z =
          let s = one_row qs g.rising c i m h (f ∙ sym e) in
          let b = was_free qs g ps os v i h z in
          let x = w.back i h b n in
          let o : get_or qs x.row 0 ≡ get_or hs c 0 = sym x.owner ∙ ap (λ (y : ℕ). get_or hs y 0) (sym s) in
          let d = directory_low (get_or gs x.row 0) x.part in
          let t = covers r x.row x.inside o d.1 in
          let y = v.done x.row x.inside (subst Directory (sym (settled x.row x.inside t)) x.part) in
          let q =
          g.unique x.row (get_or hs x.row 0) x.items y.items x.says
          (subst (λ (u : ℕ). g.Says x.row u y.items) (k x.row x.inside t).1 y.says) in
          let c = y.kids i x.mark (subst (Has i x.mark) q x.has) in
          n (sym (final_low (get_or gs i 0) (all i h)) ∙ x.same ∙ sym c.1.0 ∙ final_low (get_or ps i 0) (end i h) ∙ z)

      same_rows : (i : ℕ) → i < length qs → (get_or ps i 0 ≡ get_or gs i 0) × (get_or os i 0 ≡ get_or hs i 0)
      same_rows i h =
          ⊎_elim
          (λ (e : get_or ps i 0 ≡ 7). ⊎_elim
          (λ (f : get_or gs i 0 ≡ 7). (e ∙ sym f, v.alone i h e ∙ sym (w.alone i h f)))
          (λ (f : get_or gs i 0 ≡ 7 → ⊥). absurd (covers (w.leads i h (was_free qs g ps os v i h e) f) i h refl f e))
          (same? (get_or gs i 0) 7))
          (λ (e : get_or ps i 0 ≡ 7 → ⊥). (settled i h e, (k i h e).1))
          (same? (get_or ps i 0) 7)

      pub equal : (ps ≡ gs) × (os ≡ hs)
      equal = (
        same_lists ps gs (v.parts ∙ sym w.parts) (λ i h. (same_rows i (subst (λ (x : ℕ). i < x) v.parts h)).0),
        same_lists os hs (v.owners ∙ sym w.owners) (λ i h. (same_rows i (subst (λ (x : ℕ). i < x) v.owners h)).1),
      )
