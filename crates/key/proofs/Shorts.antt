-- A header with short strings is read as its numbers say.
use Prim.Native.Nat.{ℕ, ◌+◌, ◌≤◌}
use mathlib.Core.List.{List}
use mathlib.Core.Path.{◌≡◌, refl, sym, ap, ◌∙◌}
use native.Mathlib.Omega.{arith}
use lib.Dec.{ltb}
use lib.ListN.{length}
use Rattle.wire.specs.Check.{All}
use Rattle.wire.specs.Layout.{offset_width}
use Rattle.wire.specs.Number.{num_at}
use Rattle.wire.specs.declared.text.Text.{Text}
use Rattle.wire.proofs.Layouts.{width_within}
use Rattle.wire.proofs.Texts.{short_held}
use Rattle.key.specs.Header.{fixed_part, width_at, key_at, sum_of, limits, well_formed, header_in}
use Rattle.key.specs.Piece.{piece_at}
use Rattle.key.specs.Short.{after_short, short_sum, Short}
use Rattle.key.specs.declared.header.Key.{Key}
use Rattle.key.specs.declared.header.Names.{Names}
use Rattle.std.specs.Prelude.{Some}
use Rattle.std.specs.Prelude.{Ok}
use Rattle.key.specs.declared.piece.Piece.TheVariants.{Record}
use Rattle.key.proofs.Headers.{Placed, placed, strings, good}
use Rattle.key.proofs.Names.{all_names}
use Rattle.key.proofs.Pieces.{Numbered, record_there_law, size_plus}

-- a string with a length of one byte that stands at p
abbrev pub short_text : List ℕ → ℕ → Text
short_text s p = record { start = p + 1; len = num_at 1 s p; next = p + (1 + num_at 1 s p) }

module _ (s : List ℕ) (p : ℕ) where
  -- where its strings stand
  abbrev class_at : ℕ
  class_at = p + fixed_part (width_at s p)

  abbrev name_at : ℕ
  name_at = class_at + (1 + num_at 1 s class_at)

  abbrev title_at : ℕ
  title_at = name_at + (1 + num_at 1 s name_at)

  -- the strings that are read
  abbrev pub short_names : Names
  short_names = record { class = short_text s class_at; name = short_text s name_at; title = short_text s title_at }

  -- they end at the sum
  places : title_at + (1 + num_at 1 s title_at) ≡ p + short_sum s p
  unfolding short_sum
  places =
      let f = fixed_part (width_at s p) in
      let a = after_short s p f in
      let b = after_short s p a in
      let d : name_at ≡ p + a = omega arith in
      let e : title_at ≡ p + b = omega (arith, ap (num_at 1 s) d) in
      omega (arith, ap (num_at 1 s) e)

  -- and the key
  abbrev pub short_key : Key
  short_key = key_at s p short_names

-- what is read of such a header
module _ (s : List ℕ) (p end : ℕ) where
  pub record Shortly (k : Key) : Type 0 where
    pub good : Some k ≡ header_in s p end
    pub placed : Placed (width_at s p) s p k
    pub sum : sum_of k ≡ short_sum s p

  formed : {k : Key} → Placed (width_at s p) s p k → sum_of k ≡ short_sum s p → Short s p → All (well_formed k)
  formed w z h = omega (arith, w.nbytes, w.version, w.objlen, w.keylen, z, h.fits)

  pub shortly : Short s p → p + num_at 2 s (p + 14) ≤ end → end ≤ length s → Shortly (short_key s p)
  unfolding key_at
  shortly h l m =
      let e = places s p in
      let v = width_within (ltb 1000 (num_at 2 s (p + 4))) in
      let x = class_at s p in
      let y = name_at s p in
      let u = title_at s p in
      let a = short_held s x end {n = num_at 1 s x} refl (omega (arith, h.fits, h.few, v)) (omega (arith, h.fits, h.few, v)) m in
      let b = short_held s y end {n = num_at 1 s y} refl (omega (arith, h.fits, h.few, v)) (omega (arith, h.fits, h.few, v)) m in
      let d = short_held s u end {n = num_at 1 s u} refl (omega (arith, h.fits, h.few, v)) (omega (arith, h.fits, h.few, v)) m in
      let t = strings s p end {q = x} refl (all_names s x end a b d) in
      let w = placed (width_at s p) s p (short_names s p) in
      let z : sum_of (short_key s p) ≡ short_sum s p = omega (arith, t.sum) in
      record {
        good = good s p end t refl (formed w z h);
        placed = w;
        sum = z;
      }

-- the sum as the code adds it up
pub sums_to : (s : List ℕ) (p : ℕ) {v f a b d : ℕ} → v ≡ num_at 2 s (p + 4) → f ≡ fixed_part (offset_width v)
    → a ≡ num_at 1 s (p + f) → b ≡ num_at 1 s (p + (f + (1 + a))) → d ≡ num_at 1 s (p + (f + (1 + a) + (1 + b)))
    → f + (1 + a) + (1 + b) + (1 + d) ≡ short_sum s p
unfolding short_sum
sums_to s p {v} {f} {a} {b} {d} i j k l m =
    let g : f ≡ fixed_part (width_at s p) = j ∙ ap (λ (v : ℕ). fixed_part (offset_width v)) i in
    rw (sym g, sym k, sym l, sym m)

-- a record whose header is such a one
pub short_record : (s : List ℕ) (p : ℕ) → Short s p → p + num_at 4 s p ≤ length s → num_at (width_at s p) s (p + 18) ≡ p
    → (piece_at s p ≡ Ok (Record (short_key s p))) × ((short_key s p).nbytes ≡ num_at 4 s p)
short_record s p h l e =
    let r = shortly s p (p + num_at 4 s p) h (omega (arith, h.fits)) l in
    let z = size_plus s p (omega (arith, h.fits)) in
    let n : Numbered s p (num_at 4 s p) = record { is = refl; low = omega (arith, h.fits); fits = omega (arith, h.fits, width_within (ltb 1000 (num_at 2 s (p + 4)))) } in
    (sym (record_there_law s p n r.good (r.placed.seekkey ∙ e)).0, r.placed.nbytes)

-- the same from the numbers that were read
of_limits : (s : List ℕ) (p : ℕ) {n v o l m : ℕ} → n ≡ num_at 4 s p → v ≡ num_at 2 s (p + 4) → o ≡ num_at 4 s (p + 6)
    → l ≡ num_at 2 s (p + 14) → m ≡ short_sum s p → l ≤ 280 → All (limits n v o l m) → Short s p
of_limits s p a b d e f g h = record { few = omega arith; fits = rw (sym a, sym b, sym d, sym e, sym f) h }

pub certain : (s : List ℕ) (p : ℕ) {n v o l m q : ℕ} → n ≡ num_at 4 s p → v ≡ num_at 2 s (p + 4) → o ≡ num_at 4 s (p + 6)
    → l ≡ num_at 2 s (p + 14) → m ≡ short_sum s p → l ≤ 280 → All (limits n v o l m) → p + n ≤ length s
    → q ≡ num_at (offset_width v) s (p + 18) → q ≡ p → (k : Key) × (piece_at s p ≡ Ok (Record k)) × (k.nbytes ≡ num_at 4 s p)
certain s p {n} {v} {o} {l} {m} {q} a b d e f g h i j x =
    let r =
    short_record s p (of_limits s p a b d e f g h) (omega arith) (sym (j ∙ ap (λ (v : ℕ). num_at (offset_width v) s (p + 18)) b) ∙ x) in
    (short_key s p, r.0, r.1)
