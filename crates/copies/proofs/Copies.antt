-- The test of a copy, and the record of a keys list.
use Prim.Native.Nat.{ℕ, ◌+◌, ◌<◌, ◌≤◌}
use mathlib.Core.Bool.{Bool, true, false, not}
use mathlib.Core.List.{List}
use mathlib.Core.Path.{◌≡◌, refl, sym, ap, ◌∙◌, subst}
use native.Mathlib.Omega.{arith}
use lib.Dec.{T}
use lib.ListN.{length}
use Rattle.wire.specs.Check.{All, all, pick}
use Rattle.wire.specs.Fault.{fault, needed_of}
use Rattle.wire.specs.declared.fault.Fault.{Fault}
use Rattle.wire.specs.declared.fault.Reason.TheVariants as reason
use Rattle.wire.specs.Name.{t_directory}
use Rattle.wire.proofs.Checks.{yes_all, not_all, picked, not_picked}
use Rattle.key.specs.Piece.{piece_at, on_record, record_at}
use Rattle.key.specs.declared.piece.Piece.{Piece}
use Rattle.key.proofs.Others.{at_record}
use Rattle.key.specs.declared.header.Key.{Key}
use Rattle.std.specs.Prelude.{Option, Some, None, Result, Ok, Err}
use Rattle.key.specs.declared.piece.Piece.TheVariants.{Record, Gap}
use Rattle.record.specs.Name.{same_bytes, named}
use Rattle.record.proofs.Tests.{passed}
use Rattle.directory.specs.Dir.{no_keys}
use Rattle.directory.specs.declared.DirHead.{DirHead}
use Rattle.keylist.specs.Keys.{list_in, copy_in, list_answer, GivesCopy}
use Rattle.keylist.specs.declared.Data.{Data}
use Rattle.keylist.proofs.Records.{list_lies}
use Rattle.rules.specs.Entry.{is_record, entry_fits, dir_class}
use Rattle.rules.specs.Row.{starts}
use Rattle.rules.specs.Turn.{row_of, listed_mark, on_copy, copy_turn, on_data, keys_in, keys_turn}
use Rattle.rules.proofs.Rows.{start_there, no_start, row_of_law}
use Rattle.rows.specs.Row.{Rises, RowOf}
use Rattle.copies.specs.Copy.{copy_step, copy_told, Tests, keys_told, Finds}
use Rattle.copies.specs.declared.Span.{Span}

-- a row that was sought
pub record Sought (qs : List ℕ) (p i : ℕ) : Type 0 where
  pub within : i < length qs
  pub start : starts qs p ≡ true
  pub row : Rises qs → row_of qs p ≡ i

pub sought : (qs : List ℕ) (p i : ℕ) {r : Option ℕ} → RowOf qs p r → r ≡ Some i → Sought qs p i
sought qs p i h e =
    let g : RowOf qs p (Some i) = rw e at h in
    record { within = g.0; start = start_there qs p i g.0 g.1; row = λ up. row_of_law qs p i up g.0 g.1 }

pub no_row : (qs : List ℕ) (p : ℕ) {r : Option ℕ} → Rises qs → RowOf qs p r → r ≡ None → starts qs p ≡ false
no_row qs p up h e = let g : RowOf qs p None = rw e at h in no_start qs p (g up)

pub never : (b : Bool) {A : Type 0} → b ≡ false → b ≡ true → A
never b e f = absurd (subst T (sym (sym e ∙ f)) tt)

-- where no record was read, none stands
pub none_there : (s : List ℕ) (p : ℕ) {r : Option Key} → r ≡ record_at s p → r ≡ None → is_record (piece_at s p) ≡ false
unfolding record_at on_record
none_there s p e n = go (piece_at s p) (sym n ∙ e)
  where
    go : (x : Result Piece Fault) → None ≡ on_record None Some x → is_record x ≡ false
    go (Ok (Record k)) g = absurd cc
    go (Ok (Gap m)) g = refl
    go (Err f) g = refl

pub there : (s : List ℕ) (p : ℕ) {r : Option Key} {k : Key} → r ≡ record_at s p → r ≡ Some k → piece_at s p ≡ Ok (Record k)
there s p e i = at_record s p (sym i ∙ e)

-- the part of a listed record
pub mark_is : (s : List ℕ) (p : ℕ) {k : Key} {m : ℕ} → piece_at s p ≡ Ok (Record k) → m ≡ pick (named s k.class t_directory) 14 5
    → m ≡ listed_mark s p
unfolding listed_mark
mark_is s p e f = rw e f

pub marked : (b : Bool) {n : Bool} → b ≡ n → b ≡ true → ◌≡◌ {A = ℕ} 14 (pick n 14 5)
marked b e f = rw (sym e ∙ f)

pub not_marked : (b : Bool) {n : Bool} → b ≡ n → b ≡ false → ◌≡◌ {A = ℕ} 5 (pick n 14 5)
not_marked b e f = rw (sym e ∙ f)

-- the tests that a copy passed
pub copy_passed : (s qs : List ℕ) (d c : ℕ) (k : Key) {l : Key} {b : Bool} → starts qs k.seekkey ≡ true → piece_at s k.seekkey ≡ Ok (Record l)
    → b ≡ same_bytes s c k.seekkey k.keylen → not b ≡ false → k.seekpdir ≡ d → All (entry_fits s qs d c k)
copy_passed s qs d c k st e f g h = (st, (ap is_record e, (passed _ _ f g, (h, tt))))

listed_small : (s : List ℕ) (p : ℕ) → listed_mark s p ≤ 14
unfolding listed_mark
listed_small s p = go (dir_class s (piece_at s p))
  where
    go : (b : Bool) → pick {A = ℕ} b 14 5 ≤ 14
    go true = omega arith
    go false = omega arith

-- a refusal that is this one counts what it counts
bare_of : {A : Type 0} {x f : Fault} → needed_of x.reason ≡ 0 → ◌≡◌ {A = Result A Fault} (Err x) (Err f) → needed_of f.reason ≡ 0
bare_of {A} {x} {f} z e = let i : x ≡ f = cc in ap (λ (y : Fault). needed_of y.reason) (sym i) ∙ z

-- the test of a copy, from what was read of it
module _ (s qs : List ℕ) (l : Span) (c : ℕ) {r : Option Key} (read : GivesCopy s c l.end r) where
  pub copy_bad : r ≡ None → Tests s qs l c (Err (fault reason.Keys l.seek))
  unfolding copy_turn
  copy_bad i = let e = sym i ∙ (read 0).is in record {
    row = λ g f. absurd cc;
    part = λ g f. absurd cc;
    bare = λ f i. bare_of refl i;
    step = λ up ps os. ap (on_copy s qs l.dir l.seek c ps os) (sym e);
    told = λ up. ap (copy_told s qs l c) e;
  }

  module _ {k : Key} (i : r ≡ Some k) where
    pub copy_read : Some k ≡ copy_in s c l.end
    copy_read = sym i ∙ (read 0).is

    by_key : (ps os : List ℕ) → copy_step s qs l c ps os ≡ on_copy s qs l.dir l.seek c ps os (Some k)
    unfolding copy_turn
    by_key ps os = ap (on_copy s qs l.dir l.seek c ps os) (sym copy_read)

    pub copy_wrong : (Rises qs → All (entry_fits s qs l.dir c k) → ⊥) → Tests s qs l c (Err (fault reason.Entry c))
    copy_wrong h = record {
      row = λ g f. absurd cc;
      part = λ g f. absurd cc;
      bare = λ f i. bare_of refl i;
      step = λ up ps os. by_key ps os ∙ rw (not_all (entry_fits s qs l.dir c k) (h up));
      told = λ up. sym (not_picked (entry_fits s qs l.dir c k) _ _ (h up)) ∙ ap (copy_told s qs l c) copy_read;
    }

    pub copy_fits : All (entry_fits s qs l.dir c k) → {i m : ℕ} → Sought qs k.seekkey i → m ≡ listed_mark s k.seekkey
        → Tests s qs l c (Ok (record { row = i; part = m; dir = l.dir; next = c + k.keylen; place = c }))
    copy_fits h {i} {m} o f = record {
      row = λ g z. let j : i ≡ g.row = cc in rw j at o.within;
      part = λ g z. let j : m ≡ g.part = cc in omega (arith, f, listed_small s k.seekkey);
      bare = λ f i. absurd cc;
      step = λ up ps os. by_key ps os ∙ rw (yes_all (entry_fits s qs l.dir c k) h, o.row up, sym f);
      told = λ up. sym (picked (entry_fits s qs l.dir c k) _ _ h) ∙ ap (copy_told s qs l c) copy_read;
    }

-- the record of a keys list, from its row
module _ (s qs : List ℕ) (d : ℕ) (dh : DirHead) where
  pub no_keys_law : {b : Bool} → b ≡ all (no_keys dh) → b ≡ true → Finds s qs d dh (Ok None)
  unfolding keys_turn
  no_keys_law e f = record { held = λ l i. absurd cc; bare = λ x i. absurd cc; step = λ up ps os. rw (sym e ∙ f); told = λ up. rw (sym e ∙ f) }

  module _ {b : Bool} (told : b ≡ all (no_keys dh)) (z : b ≡ false) where
    by_data : {x : Option Data} → keys_in s qs d dh ≡ x → (ps os : List ℕ) → keys_turn s qs d dh ps os ≡ on_data s qs d dh.seekkeys ps os x
    unfolding keys_turn
    by_data e ps os = rw (sym told ∙ z) (ap (on_data s qs d dh.seekkeys ps os) e)

    by_answer : {x : Option Data} → keys_in s qs d dh ≡ x → list_answer dh.seekkeys x ≡ keys_told s qs d dh
    by_answer e = rw (sym told ∙ z) (ap (list_answer dh.seekkeys) (sym e))

    keys_fault : (Rises qs → keys_in s qs d dh ≡ None) → Finds s qs d dh (Err (fault reason.Keys dh.seekkeys))
    keys_fault e = record { held = λ l i. absurd cc; bare = λ f i. bare_of refl i; step = λ up. by_data (e up); told = λ up. by_answer (e up) }

    pub keys_nowhere : (Rises qs → starts qs dh.seekkeys ≡ false) → Finds s qs d dh (Err (fault reason.Keys dh.seekkeys))
    unfolding keys_in
    keys_nowhere e = keys_fault (λ up. rw (e up))

    module _ {i : ℕ} (o : Sought qs dh.seekkeys i) where
      somewhere : {x : Option Data} → x ≡ list_in s dh.seekkeys dh.nbyteskeys d → keys_in s qs d dh ≡ x
      unfolding keys_in
      somewhere g = rw o.start (sym g)

      pub keys_bad : None ≡ list_in s dh.seekkeys dh.nbyteskeys d → Finds s qs d dh (Err (fault reason.Keys dh.seekkeys))
      keys_bad g = keys_fault (λ up. somewhere g)

      pub keys_held : {l : Data} → Some l ≡ list_in s dh.seekkeys dh.nbyteskeys d
          → Finds s qs d dh
          (Ok (Some (record { claim = record { row = i; part = 4; dir = d; next = l.from + 4; place = d }; from = l.from; end = l.end })))
      keys_held {l} g =
          let f = list_lies s dh.seekkeys dh.nbyteskeys d g in
          record {
            held = λ x j.
                let w : x ≡ record { claim = record { row = i; part = 4; dir = d; next = l.from + 4; place = d }; from = l.from; end = l.end } = cc in
                rw w (record { row = o.within; part = refl; next = refl; begins = f.0; ends = f.1 });
            bare = λ f i. absurd cc;
            step = λ up ps os. by_data (somewhere g) ps os ∙ rw (o.row up);
            told = λ up. by_answer (somewhere g);
          }
