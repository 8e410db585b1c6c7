-- Head, free list and info are records of their classes, and three different ones.
use Rattle.std.specs.Prelude.{Some, Ok}
use Prim.Native.Nat.{ℕ, ◌+◌}
use mathlib.Core.Bool.{true}
use mathlib.Core.List.{List, [], ◌∷◌}
use mathlib.Core.Path.{◌≡◌, sym, ap, ◌∙◌, subst}
use native.Mathlib.Omega.{arith}
use lib.ListN.{length, get_or}
use Rattle.wire.specs.Check.{le, eq, yes}
use Rattle.wire.specs.Equal.{eq_bytes}
use Rattle.wire.specs.Text.{content_of}
use Rattle.wire.specs.declared.text.Text.{Text}
use Rattle.wire.proofs.Checks.{all_yes, not_all, false_true}
use Rattle.wire.proofs.Equal.{eq_same}
use Rattle.key.specs.Piece.{piece_at}
use Rattle.key.specs.declared.header.Key.{Key}
use Rattle.key.specs.declared.piece.Piece.TheVariants.{Record}
use Rattle.directory.specs.Dir.{head_in}
use Rattle.keylist.specs.Keys.{info_in}
use Rattle.directory.proofs.Headings.{from_head}
use Rattle.keylist.proofs.Records.{from_free, from_info}
use Rattle.wire.specs.Name.{t_file, t_list}
use Rattle.record.specs.Name.{named}
use Rattle.directory.specs.declared.DirHead.{DirHead}
use Rattle.fileheader.specs.declared.FileHead.{FileHead}
use Rattle.rules.specs.Free.{Mode, is_gap, Free, info_holds}
use Rattle.rules.specs.Row.{starts}
use Rattle.rules.proofs.Frees.{and_both}

-- a record whose class is this name
abbrev pub Named : List ℕ → ℕ → List ℕ → Type 0
Named s p name = (k : Key) × (piece_at s p ≡ Ok (Record k)) × (named s k.class name ≡ true)

pub no_gap : (s : List ℕ) (p : ℕ) (name : List ℕ) → Named s p name → is_gap (piece_at s p) ≡ true → ⊥
no_gap s p name n e = false_true (sym (ap is_gap n.1) ∙ e)

content : (s : List ℕ) (t : Text) (name : List ℕ) → named s t name ≡ true → content_of s t ≡ name
unfolding named
content s t name e =
    let a = all_yes (le (t.start + t.len) (length s) ∷ yes (eq_bytes (content_of s t) name) ∷ []) e in
    eq_same (content_of s t) name a.1.0

-- no class is both
two_names : (s : List ℕ) (t : Text) → named s t t_file ≡ true → named s t t_list ≡ true → ⊥
two_names s t a b =
    let e = sym (content s t t_file a) ∙ content s t t_list b in
    let f : ◌≡◌ {A = ℕ} 70 76 = ap (λ (x : List ℕ). get_or x 1 0) e in
    omega arith

pub two_records : (s : List ℕ) (p : ℕ) → Named s p t_file → Named s p t_list → ⊥
two_records s p a b =
    let x = a.1 in
    let y = b.1 in
    let e : b.0 ≡ a.0 = cc in
    two_names s a.0.class a.2 (subst (λ (k : Key). named s k.class t_list ≡ true) e b.2)

-- the head
pub head_file : (s : List ℕ) (n : ℕ) (dh : DirHead) → head_in s n ≡ Some dh → Named s 100 t_file
head_file s n dh e = let r = from_head s n (sym e) in (r.0, r.1, r.2.0)

-- the free list
pub free_file : {mode : Mode} (s qs : List ℕ) (h : FileHead) → Free mode s qs h → Named s h.seekfree t_file
free_file s qs h f = let d = from_free s h.seekfree h.nbytesfree (sym f.held) in (d.key, d.is, d.passed.0)

-- the info record
pub info_list : (s qs : List ℕ) (h : FileHead) → info_holds s qs h ≡ true → (h.seekinfo ≡ 0 → ⊥) → Named s h.seekinfo t_list
unfolding info_holds
info_list s qs h e z =
    let n = not_all (eq h.seekinfo 0 ∷ eq h.nbytesinfo 0 ∷ []) (λ a. z a.0) in
    let x = and_both (starts qs h.seekinfo) (info_in s h.seekinfo h.nbytesinfo) (rw n at e) in
    let r = from_info s h.seekinfo h.nbytesinfo (sym x.1) in
    (r.0, r.1, r.2.1.1.0)
