-- Counted strings: what the reader answers, from facts, and back; a string that stands in a file, read and written again.
use Prim.Native.Nat.{ℕ, ◌+◌, ◌^◌, ◌≤◌, ◌<◌}
use mathlib.Core.List.{List, [], ◌∷◌, ◌++◌, append_assoc, append-nil}
use mathlib.Core.Logic.{⊎_elim}
use mathlib.Core.Path.{◌≡◌, refl, sym, ap, ◌∙◌}
use native.Mathlib.Nat.{add_assoc}
use native.Mathlib.Omega.{arith}
use borrow.Author.Tests.{lt-ltb, le-ltb}
use lib.ListN.{length, take, drop, get_or, length-append, length-drop}
use lib.Seq.{drop-drop, drop_at, take_at, take-add, length-take-le}
use Rattle.wire.specs.Check.{Holds, All}
use Rattle.wire.specs.Layout.{extent, values_at, value_bytes, Fit}
use Rattle.wire.specs.Number.{Bytes, num_at, be_bytes}
use Rattle.wire.specs.Text.{least_long, prefix_bytes, prefix_size, text_size, text_of, length_at, form_fits, text_at, text_checks, text_in}
use Rattle.wire.specs.Text.{content_of, text_bytes, on_text}
use Rattle.wire.specs.declared.text.Text.{Text}
use Rattle.std.specs.Prelude.{Option, Some, None}
use Rattle.wire.proofs.Checks.{picked, not_picked, from_picked, below_or}
use Rattle.wire.proofs.Layouts.{length_values, read_written, write_read, values_fit}

module _ (s : List ℕ) (p end : ℕ) where
  pub is_cut : (All (text_checks s p end) → ⊥) → None ≡ text_in s p end
  unfolding text_in
  is_cut h = sym (not_picked (text_checks s p end) _ _ h)

  is_held : All (text_checks s p end) → Some (text_at s p) ≡ text_in s p end
  unfolding text_in
  is_held h = sym (picked (text_checks s p end) _ _ h)

  from_held : {t : Text} → Some t ≡ text_in s p end → (t ≡ text_at s p) × All (text_checks s p end)
  unfolding text_in
  from_held {t} e =
      let f = from_picked (text_checks s p end) (Some (text_at s p)) None e (λ i. let z : ◌≡◌ {A = ℕ} 0 1 = cc in omega arith) in
      let g = f.0 in
      (cc, f.1)

-- the form of a length: what stands before the string is a layout with its values
pub record Form (n : ℕ) (widths values : List ℕ) : Type 0 where
  pub bytes : prefix_bytes n ≡ value_bytes widths values

pub form_size : {n : ℕ} {widths values : List ℕ} → Form n widths values → prefix_size n ≡ extent widths
unfolding prefix_size
form_size {n} {widths} {values} f = ap length f.bytes ∙ length_values widths values

module _ (n : ℕ) where
  pub short_form : n < least_long → Form n (1 ∷ []) (n ∷ [])
  unfolding prefix_bytes
  short_form l = record { bytes = rw (lt-ltb n least_long l, append-nil) }

  pub long_form : least_long ≤ n → Form n (1 ∷ 4 ∷ []) (least_long ∷ n ∷ [])
  unfolding prefix_bytes
  long_form l = record { bytes = rw (le-ltb n least_long l, append-nil (be_bytes 4 n)) }

  pub short_size : n < least_long → prefix_size n ≡ 1
  short_size l = form_size (short_form l)

  pub long_size : least_long ≤ n → prefix_size n ≡ 5
  long_size l = form_size (long_form l)

  -- what holds in both forms
  by_form : {A : Type 0} → (n < least_long → A) → (least_long ≤ n → A) → A
  by_form short long = ⊎_elim (λ (l : n < least_long). short l) (λ (l : least_long ≤ n). long l) (below_or n least_long)

  prefix_within : (1 ≤ prefix_size n) × (prefix_size n ≤ 5)
  prefix_within = by_form (λ l. omega (arith, short_size l)) (λ l. omega (arith, long_size l))

  pub length_prefix : length (prefix_bytes n) ≡ prefix_size n
  unfolding prefix_size
  length_prefix = refl

-- a string takes at least its own bytes and one more
pub size_least : (n : ℕ) → n < text_size n
unfolding text_size
size_least n = omega (arith, prefix_within n)

pub length_text : (t : List ℕ) → length (text_bytes t) ≡ text_size (length t)
unfolding text_bytes text_size
length_text t = rw (length-append, length_prefix)

-- the length of the string at p, by its first byte, and whether it has the form that stands there
module _ (s : List ℕ) (p : ℕ) where
  short_length : num_at 1 s p < least_long → num_at 1 s p ≡ length_at s p
  unfolding length_at
  short_length l = rw (lt-ltb (num_at 1 s p) least_long l)

  long_length : least_long ≤ num_at 1 s p → num_at 4 s (p + 1) ≡ length_at s p
  unfolding length_at
  long_length l = rw (le-ltb (num_at 1 s p) least_long l)

  short_fits : num_at 1 s p < least_long → Holds (form_fits s p)
  short_fits l = ap prefix_size (short_length l)

  long_fits : least_long ≤ num_at 1 s p → least_long ≤ length_at s p → Holds (form_fits s p)
  long_fits l m = long_size (num_at 1 s p) l ∙ sym (long_size (length_at s p) m)

  long_fitting : least_long ≤ num_at 1 s p → Holds (form_fits s p) → least_long ≤ length_at s p
  long_fitting l h =
      by_form (length_at s p) (λ m. omega (arith, h, long_size (num_at 1 s p) l, short_size (length_at s p) m)) (λ m. m)

-- what the reader answers, from the length n that it read and the bytes of the prefix
module _ (s : List ℕ) (p end : ℕ) {n prefix : ℕ} (e : n ≡ length_at s p) (z : prefix_size n ≡ prefix) where
  length_past : end < p + (prefix + n) → None ≡ text_in s p end
  unfolding text_size text_of text_at
  length_past l = is_cut s p end (λ c. omega (arith, c.1.1.0, z, e, ap prefix_size e))

  length_held : Holds (form_fits s p) → p + (prefix + n) ≤ end → end ≤ length s
      → Some (record { start = p + prefix; len = n; next = p + (prefix + n) }) ≡ text_in s p end
  unfolding text_size text_of text_at
  length_held f l r = rw (sym z, e) (is_held s p end (r, (f, (omega (arith, z, e, ap prefix_size e), tt))))

-- in the short form
module _ (s : List ℕ) (p end : ℕ) {n : ℕ} (e : n ≡ num_at 1 s p) (h : n < least_long) where
  short_is : n ≡ length_at s p
  short_is = e ∙ short_length s p (omega arith)

  pub short_past : end < p + (1 + n) → None ≡ text_in s p end
  short_past = length_past s p end short_is (short_size n h)

  pub short_held : p + (1 + n) ≤ end → end ≤ length s → Some (record { start = p + 1; len = n; next = p + (1 + n) }) ≡ text_in s p end
  short_held = length_held s p end short_is (short_size n h) (short_fits s p (omega arith))

-- in the long form
module _ (s : List ℕ) (p end : ℕ) {n : ℕ} (e : n ≡ num_at 4 s (p + 1)) (h : least_long ≤ num_at 1 s p) where
  long_is : n ≡ length_at s p
  long_is = e ∙ long_length s p h

  pub long_short : n < least_long → None ≡ text_in s p end
  long_short l = is_cut s p end (λ c. omega (arith, long_fitting s p h c.1.0, long_is))

  module _ (l : least_long ≤ n) where
    pub long_past : end < p + (5 + n) → None ≡ text_in s p end
    long_past = length_past s p end long_is (long_size n l)

    pub long_held : p + (5 + n) ≤ end → end ≤ length s → Some (record { start = p + 5; len = n; next = p + (5 + n) }) ≡ text_in s p end
    long_held = length_held s p end long_is (long_size n l) (long_fits s p h (omega (arith, long_is)))

-- what a string that was read says of its place and its bytes
pub record Stands (s : List ℕ) (p end : ℕ) (t : Text) : Type 0 where
  pub is : t ≡ text_at s p
  pub next : t.next ≡ p + text_size t.len
  pub start : p < t.start
  pub content : t.next ≡ t.start + t.len
  pub fits : t.next ≤ end
  pub room : end ≤ length s
  pub form : Holds (form_fits s p)

pub stands : (s : List ℕ) (p end : ℕ) {t : Text} → Some t ≡ text_in s p end → Stands s p end t
unfolding text_at text_of text_size
stands s p end {t} e =
    let f = from_held s p end e in
    let w = prefix_within (length_at s p) in
    rw f.0
    (record {
      is = refl;
      next = omega arith;
      start = omega arith;
      content = omega arith;
      fits = f.1.1.1.0;
      room = f.1.0;
      form = f.1.1.0;
    })

-- no string is read where no byte is left
pub none_left : (s : List ℕ) (p end : ℕ) → end ≤ p → None ≡ text_in s p end
unfolding text_at text_of
none_left s p end l = is_cut s p end (λ h. omega (arith, h, size_least (length_at s p)))

-- a length that stands at p is read
module _ (s : List ℕ) (p n : ℕ) (rest : List ℕ) (l : p ≤ length s) (e : drop p s ≡ prefix_bytes n ++ rest) where
  abbrev Read : Type 0
  Read = (n ≡ length_at s p) × Holds (form_fits s p)

  values_there : {widths values : List ℕ} → Form n widths values → Fit widths values → values_at widths s p ≡ values
  values_there {widths} {values} f g = read_written widths values s p rest g l (e ∙ ap (λ (x : List ℕ). x ++ rest) f.bytes)

  short_there : n < least_long → Read
  short_there h =
      let first : num_at 1 s p ≡ n = ap (λ (x : List ℕ). get_or x 0 0) (values_there (short_form n h) (omega arith)) in
      (sym first ∙ short_length s p (omega arith), short_fits s p (omega arith))

  long_there : least_long ≤ n → n < 256 ^ 4 → Read
  long_there h m =
      let v = values_there (long_form n h) (omega arith) in
      let first : num_at 1 s p ≡ least_long = ap (λ (x : List ℕ). get_or x 0 0) v in
      let second : num_at 4 s (p + 1) ≡ n = ap (λ (x : List ℕ). get_or x 1 0) v in
      let k = sym second ∙ long_length s p (omega arith) in
      (k, long_fits s p (omega arith) (omega (arith, k)))

  length_there : n < 256 ^ 4 → Read
  length_there m = by_form n (λ h. short_there h) (λ h. long_there h m)

-- a string that stands at p: it is read, its content, and what follows it
module _ (s : List ℕ) (p end : ℕ) (t rest : List ℕ) (h : length t < 256 ^ 4) (f : p + text_size (length t) ≤ end) (r : end ≤ length s)
    (e : drop p s ≡ text_bytes t ++ rest) where
  prefix_there : drop p s ≡ prefix_bytes (length t) ++ (t ++ rest)
  unfolding text_bytes
  prefix_there = e ∙ append_assoc (prefix_bytes (length t)) t rest

  content_there : drop (p + prefix_size (length t)) s ≡ t ++ rest
  content_there =
      sym (drop-drop (prefix_size (length t)) p s) ∙ ap (drop (prefix_size (length t))) prefix_there
      ∙ drop_at (prefix_bytes (length t)) (t ++ rest) (prefix_size (length t)) (length_prefix (length t))

  pub text_there : (Some (text_of p (length t)) ≡ text_in s p end) × (content_of s (text_of p (length t)) ≡ t)
      × (drop (p + text_size (length t)) s ≡ rest)
  unfolding text_size text_at text_of content_of
  text_there =
      let l = length_there s p (length t) (t ++ rest) (omega (arith, f, r)) prefix_there h in (
        ap (λ (n : ℕ). Some (text_of p n)) l.0 ∙ is_held s p end (rw (sym l.0) (r, (rw (sym l.0) at l.1, (f, tt)))),
        ap (take (length t)) content_there ∙ take_at t rest (length t) refl,
        rw (sym (add_assoc p (prefix_size (length t)) (length t)))
            (sym (drop-drop (length t) (p + prefix_size (length t)) s) ∙ ap (drop (length t)) content_there
            ∙ drop_at t rest (length t) refl),
      )

-- a string, as it stands in the file
module _ (s : List ℕ) (q : ℕ) (l : (text_at s q).next ≤ length s) where
  content_length : length (content_of s (text_at s q)) ≡ (text_at s q).len
  unfolding text_size text_of text_at content_of
  content_length = length-take-le (length_at s q) (drop (q + prefix_size (length_at s q)) s) (rw length-drop (omega (arith, l)))

  module _ (b : Bytes s) (h : Holds (form_fits s q)) where
    -- its length gives its bytes
    abbrev Again : Type 0
    Again = prefix_bytes (length_at s q) ≡ take (prefix_size (length_at s q)) (drop q s)

    length_again : {widths : List ℕ} → Form (length_at s q) widths (values_at widths s q) → Again
    unfolding text_size text_of text_at
    length_again {widths} f =
        let z = form_size f in
        f.bytes ∙ write_read widths s q b (omega (arith, z, l)) ∙ ap (λ (k : ℕ). take k (drop q s)) (sym z)

    short_again : num_at 1 s q < least_long → Again
    short_again m = length_again {widths = 1 ∷ []} (rw (sym (short_length s q m)) (short_form (num_at 1 s q) m))

    long_again : least_long ≤ num_at 1 s q → Again
    unfolding text_size text_of text_at
    long_again m =
        let g = (values_fit (1 ∷ []) s q b (omega (arith, l, prefix_within (length_at s q)))).0 in
        let first : num_at 1 s q ≡ least_long = omega arith in
        length_again {widths = 1 ∷ 4 ∷ []} (rw (first, long_length s q m) (long_form (length_at s q) (long_fitting s q m h)))

    prefix_again : Again
    prefix_again = by_form (num_at 1 s q) (λ m. short_again m) (λ m. long_again m)

    text_again : text_bytes (content_of s (text_at s q)) ≡ take (text_size (text_at s q).len) (drop q s)
    unfolding text_size text_of text_at content_of text_bytes
    text_again =
        rw (content_length, prefix_again, ← (drop-drop (prefix_size (length_at s q)) q s))
        (sym (take-add (prefix_size (length_at s q)) (length_at s q) (drop q s)))

-- a string that was read gives its bytes
module _ {s : List ℕ} {q end : ℕ} {t : Text} (h : Stands s q end t) where
  there : (text_at s q).next ≤ length s
  there = omega (arith, ap (λ (t : Text). t.next) h.is, h.fits, h.room)

  pub read_length : length (content_of s t) ≡ t.len
  read_length = rw h.is (content_length s q there)

  pub read_again : Bytes s → text_bytes (content_of s t) ≡ take (text_size t.len) (drop q s)
  read_again b = rw h.is (text_again s q there b h.form)

-- what is said where the string is cut, and of a string that is there
module _ {A : Type 0} (bad : A) (f : Text → A) {x : Option Text} where
  pub on_cut : x ≡ None → bad ≡ on_text bad f x
  unfolding on_text
  on_cut e = rw e

  pub on_text_law : {t : Text} {v : A} → x ≡ Some t → v ≡ f t → v ≡ on_text bad f x
  unfolding on_text
  on_text_law e h = rw e h
