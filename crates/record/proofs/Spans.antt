-- Bytes of a file compared with a name, or with other bytes of it.
use Prim.Native.Nat.{ℕ, ◌+◌, ◌<◌, ◌≤◌}
use mathlib.Core.Bool.{false}
use mathlib.Core.List.{List, [], ◌∷◌}
use mathlib.Core.Path.{◌≡◌, sym, ◌∙◌}
use native.Mathlib.Omega.{arith}
use borrow.Author.Tests.{le-leb}
use lib.Dec.{eqb}
use lib.ListN.{length, take, drop}
use Rattle.wire.specs.Check.{le, yes, all}
use Rattle.wire.specs.Text.{content_of}
use Rattle.wire.specs.declared.text.Text.{Text}
use Rattle.wire.specs.Equal.{eq_bytes}
use Rattle.wire.proofs.Checks.{not_all}
use Rattle.record.specs.Name.{same_bytes, named}
use Rattle.key.specs.Header.{bounded_sum, sum_bound, sum_of, plain}
use Rattle.key.specs.declared.header.Key.{Key}
use Rattle.key.proofs.Sums.{same_sum}
use Rattle.record.proofs.Tests.{and_true, one_eq}

module _ (s : List ℕ) (t : Text) (name : List ℕ) where
  pub not_there : length s < t.start + t.len → false ≡ named s t name
  unfolding named
  not_there l =
      sym (not_all (le (t.start + t.len) (length s) ∷ yes (eq_bytes (content_of s t) name) ∷ []) (λ f. omega (arith, f.0)))

  pub compared : t.start + t.len ≤ length s → eq_bytes (take t.len (drop t.start s)) name ≡ named s t name
  unfolding named content_of
  compared l = rw (le-leb (t.start + t.len) (length s) l) (and_true _)

module _ (s : List ℕ) (a b n : ℕ) where
  not_both : (a + n ≤ length s → b + n ≤ length s → ⊥) → false ≡ same_bytes s a b n
  unfolding same_bytes
  not_both h =
      sym (not_all (le (a + n) (length s) ∷ le (b + n) (length s) ∷ yes (eq_bytes (take n (drop a s)) (take n (drop b s))) ∷ []) (λ f. h f.0 f.1.0))

  pub not_first : length s < a + n → false ≡ same_bytes s a b n
  not_first l = not_both (λ f g. omega arith)

  pub not_second : length s < b + n → false ≡ same_bytes s a b n
  not_second l = not_both (λ f g. omega arith)

  pub both : a + n ≤ length s → b + n ≤ length s → eq_bytes (take n (drop a s)) (take n (drop b s)) ≡ same_bytes s a b n
  unfolding same_bytes
  both l m = rw (le-leb (a + n) (length s) l, le-leb (b + n) (length s) m) (and_true _)

-- KeyLen is the sum up to its bound where it is the sum
pub plain_is : (k : Key) → k.keylen < sum_bound
    → eqb k.keylen (bounded_sum k.version k.class.len k.name.len k.title.len) ≡ all (plain k)
plain_is k l = same_sum k.version k.class.len k.name.len k.title.len k.keylen l ∙ one_eq k.keylen (sum_of k)
