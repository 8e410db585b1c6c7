-- Copies by their place, and the rows that they give.
use Prim.Native.Nat.{ℕ, ◌+◌, ◌<◌}
use mathlib.Core.Bool.{Bool, true, false}
use mathlib.Core.List.{List, [], ◌∷◌}
use mathlib.Core.Logic.{inl, inr, ⊎_elim}
use mathlib.Core.Path.{◌≡◌, refl, sym, ap, ◌∙◌, subst}
use native.Mathlib.Omega.{arith}
use lib.ListN.{length, get_or}
use Rattle.wire.specs.Check.{pick}
use Rattle.key.specs.Piece.{piece_at}
use Rattle.key.specs.declared.header.Key.{Key}
use Rattle.rules.specs.Entry.{dir_class, listed_part}
use Rattle.table.specs.Table.{Rising}
use Rattle.rules.specs.Row.{starts}
use Rattle.rules.specs.Rules.{In, Distinct, Entries, Listed, places}
use Rattle.rules.specs.Turn.{row_of, listed_mark}
use Rattle.rules.proofs.Graph.{final, final_low, final_high, one_row}
use Rattle.rules.proofs.Items.{Has, Fresh}
use Rattle.rules.proofs.Places.{row_in}
use Rattle.rules.proofs.Runs.{copied}

-- the part that a mark becomes
pub mark_part : (s : List ℕ) (p : ℕ) → final (listed_mark s p) ≡ listed_part s p
unfolding listed_mark listed_part
mark_part s p = go (dir_class s (piece_at s p))
  where
    go : (b : Bool) → final (pick b 14 5) ≡ pick b 6 5
    go true = final_high 14 (omega arith)
    go false = final_low 5 (omega arith)

pub part_listed : (s : List ℕ) (p : ℕ) → Listed (listed_part s p)
unfolding listed_part
part_listed s p = go (dir_class s (piece_at s p))
  where
    go : (b : Bool) → Listed (pick {A = ℕ} b 6 5)
    go true = inr refl
    go false = inl refl

module _ (s qs : List ℕ) where
  pub in_has : (p : ℕ) (ks : List Key) → In p (places ks) → Has (row_of qs p) (listed_mark s p) (copied s qs ks)
  in_has p [] h = h
  in_has p (k ∷ ks) h = ⊎_elim (λ (e : p ≡ k.seekkey). inl (ap (row_of qs) e, ap (listed_mark s) e)) (λ (x : In p (places ks)). inr (in_has p ks x)) h

  abbrev pub From : ℕ → ℕ → List Key → Type 0
  From i m ks = (p : ℕ) × In p (places ks) × (i ≡ row_of qs p) × (m ≡ listed_mark s p)

  pub has_in : (i m : ℕ) (ks : List Key) → Has i m (copied s qs ks) → From i m ks
  has_in i m [] h = absurd h
  has_in i m (k ∷ ks) h =
      ⊎_elim
      (λ (e : (i ≡ row_of qs k.seekkey) × (m ≡ listed_mark s k.seekkey)). (k.seekkey, inl refl, e.0, e.1))
      (λ (x : Has i m (copied s qs ks)). let r = has_in i m ks x in (r.0, inr r.1, r.2, r.3))
      h

  pub entry_starts : (d c p : ℕ) (ks : List Key) → Entries s qs d c ks → In p (places ks) → starts qs p ≡ true
  entry_starts d c p [] e h = absurd h
  entry_starts d c p (k ∷ ks) e h =
      ⊎_elim
      (λ (f : p ≡ k.seekkey). subst (λ (x : ℕ). starts qs x ≡ true) (sym f) e.0.0)
      (entry_starts d (c + k.keylen) p ks e.1)
      h

  same_place : (p q : ℕ) → starts qs p ≡ true → starts qs q ≡ true → row_of qs p ≡ row_of qs q → p ≡ q
  same_place p q a b e = sym (row_in qs p a).1 ∙ ap (λ (r : ℕ). get_or qs r 0) e ∙ (row_in qs q b).1

  pub distinct_fresh : (d c : ℕ) (ks : List Key) → Entries s qs d c ks → Distinct (places ks) → Fresh (copied s qs ks)
  distinct_fresh d c [] e h = tt
  distinct_fresh d c (k ∷ ks) e h = (
    λ m x.
        let r = has_in (row_of qs k.seekkey) m ks x in
        let f = same_place k.seekkey r.0 e.0.0 (entry_starts d (c + k.keylen) r.0 ks e.1 r.1) r.2 in
        h.0 (subst (λ (p : ℕ). In p (places ks)) (sym f) r.1),
    distinct_fresh d (c + k.keylen) ks e.1 h.1,
  )

  pub fresh_distinct : (ks : List Key) → Fresh (copied s qs ks) → Distinct (places ks)
  fresh_distinct [] h = tt
  fresh_distinct (k ∷ ks) h = (λ x. h.0 (listed_mark s k.seekkey) (in_has k.seekkey ks x), fresh_distinct ks h.1)

-- the row of a place
pub row_is : (qs : List ℕ) → Rising qs (length qs) → (i p : ℕ) → i < length qs → starts qs p ≡ true → get_or qs i 0 ≡ p → i ≡ row_of qs p
row_is qs up i p l e f = let r = row_in qs p e in one_row qs up i (row_of qs p) l r.0 (f ∙ sym r.1)
