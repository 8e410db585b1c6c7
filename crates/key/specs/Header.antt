-- Key headers: document 01, "Key headers (000)"; document 02, request 02, for the width of their offsets, and request 04 for long strings and
-- KeyLen's limit.
use Rattle.std.specs.Prelude.{ℕ, ◌+◌, Bool, List, [], ◌∷◌, get_or}
use Rattle.wire.specs.Check.{Check, le, eq, all, pick}
use Rattle.wire.specs.Layout.{offset_width, version_fits, extent, values_at}
use Rattle.wire.specs.Number.{num_at, lesser, signed_of}
use Rattle.wire.specs.Text.{text_in, on_text, text_size}
use Rattle.key.specs.declared.header.Names.{Names}
use Rattle.std.specs.Prelude.{Option, Some, None}
use Rattle.key.specs.declared.header.Key.{Key}

-- the numbers of a header, over the width of an offset: Nbytes, Version, ObjLen, Datime, KeyLen, Cycle, SeekKey, SeekPdir
abbrev pub key_layout : ℕ → List ℕ
key_layout w = 4 ∷ 2 ∷ 4 ∷ 4 ∷ 2 ∷ 2 ∷ w ∷ w ∷ []

-- the bytes of these numbers, 18 + 2 * w: there the class stands
abbrev pub fixed_part : ℕ → ℕ
fixed_part w = extent (key_layout w)

-- class, name and title, one after the other from p on, read within the bytes before end
unfoldable pub names_in : List ℕ → ℕ → ℕ → Option Names
names_in s p end =
    on_text None (λ class.
    on_text None (λ name.
    on_text None (λ title. Some (record { class = class; name = name; title = title })) (text_in s name.next end))
    (text_in s class.next end))
    (text_in s p end)

-- the key of numbers in the order of the layout, and of three strings; Cycle is signed
abbrev pub key_from : List ℕ → Names → Key
key_from ns t = record {
  nbytes = get_or ns 0 0;
  version = get_or ns 1 0;
  objlen = get_or ns 2 0;
  datime = get_or ns 3 0;
  keylen = get_or ns 4 0;
  cycle = signed_of 2 (get_or ns 5 0);
  seekkey = get_or ns 6 0;
  seekpdir = get_or ns 7 0;
  class = t.class;
  name = t.name;
  title = t.title;
}

-- the width of the offsets of the key at p: its Version stands before them
abbrev pub width_at : List ℕ → ℕ → ℕ
width_at s p = offset_width (num_at 2 s (p + 4))

-- the key at p, of the numbers there and of strings that were read
unfoldable pub key_at : List ℕ → ℕ → Names → Key
key_at s p t = key_from (values_at (key_layout (width_at s p)) s p) t

-- "sum", of Version and the lengths of class, name and title: 26, or 34 in the wide form, plus the strings as they are stored
abbrev pub sum_for : ℕ → ℕ → ℕ → ℕ → ℕ
sum_for version class name title = fixed_part (offset_width version) + text_size class + text_size name + text_size title

abbrev pub sum_of : Key → ℕ
sum_of k = sum_for k.version k.class.len k.name.len k.title.len

-- the sum up to a bound that no number of 32 bits reaches
abbrev pub sum_bound : ℕ
sum_bound = 4294967296

unfoldable pub bounded_sum : ℕ → ℕ → ℕ → ℕ → ℕ
bounded_sum version class name title = lesser (sum_for version class name title) sum_bound

-- the greatest KeyLen (document 02, request 04)
abbrev pub most_key_len : ℕ
most_key_len = 32767

-- "well formed", of Nbytes, Version, ObjLen, KeyLen and sum: Version is 1 to 2000, ObjLen and Nbytes are at most 2,147,483,647,
-- sum ≤ KeyLen ≤ Nbytes, and KeyLen is at most 32,767; that a string has the form of its length is a test of each string
abbrev pub limits : ℕ → ℕ → ℕ → ℕ → ℕ → List Check
limits nbytes version objlen keylen sum =
    le 1 version ∷ version_fits version ∷ le objlen 2147483647 ∷ le nbytes 2147483647 ∷ le sum keylen ∷ le keylen nbytes
    ∷ le keylen most_key_len ∷ []

unfoldable pub in_limits : ℕ → ℕ → ℕ → ℕ → ℕ → Bool
in_limits nbytes version objlen keylen sum = all (limits nbytes version objlen keylen sum)

abbrev pub well_formed : Key → List Check
well_formed k = limits k.nbytes k.version k.objlen k.keylen (sum_of k)

-- "plain": KeyLen equals sum
abbrev pub plain : Key → List Check
plain k = eq k.keylen (sum_of k) ∷ []

-- "unpacked": ObjLen = Nbytes − KeyLen
abbrev pub unpacked_data : Key → List Check
unpacked_data k = eq (k.objlen + k.keylen) k.nbytes ∷ []

-- the header of a key whose strings were read, and it is well formed
abbrev pub header_of : (Names → Key) → Option Names → Option Key
header_of k (Some t) = pick (all (well_formed (k t))) (Some (k t)) None
header_of k None = None

-- the header at p, read within the bytes before end: its strings end there, and so all that is read lies there
unfoldable pub header_in : List ℕ → ℕ → ℕ → Option Key
header_in s p end = header_of (key_at s p) (names_in s (p + fixed_part (width_at s p)) end)
