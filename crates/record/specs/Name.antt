-- Bytes of a file, the names of its records, and the key of the info record: document 01, "Info" and "StreamerInfo (002)".
use Rattle.std.specs.Prelude.{ℕ, ◌+◌, Bool, List, [], ◌∷◌, ◌++◌, length, take, drop}
use Rattle.wire.specs.Check.{Check, all, le, yes}
use Rattle.wire.specs.Equal.{eq_bytes}
use Rattle.wire.specs.Name.{t_list, streamer_info}
use Rattle.wire.specs.Text.{content_of}
use Rattle.wire.specs.declared.text.Text.{Text}
use Rattle.key.specs.Header.{plain, unpacked_data}
use Rattle.key.specs.declared.header.Key.{Key}

-- n bytes stand at a and at b, and are the same
unfoldable pub same_bytes : List ℕ → ℕ → ℕ → ℕ → Bool
same_bytes s a b n =
    all (le (a + n) (length s) ∷ le (b + n) (length s) ∷ yes (eq_bytes (take n (drop a s)) (take n (drop b s))) ∷ [])

-- the string t stands in the file and is this name
unfoldable pub named : List ℕ → Text → List ℕ → Bool
named s t name = all (le (t.start + t.len) (length s) ∷ yes (eq_bytes (content_of s t) name) ∷ [])

-- "a plain unpacked record"
abbrev pub plain_record : Key → List Check
plain_record k = plain k ++ unpacked_data k

-- "a plain record of class TList, name StreamerInfo"
abbrev pub is_info : List ℕ → Key → List Check
is_info s k = plain k ++ (yes (named s k.class t_list) ∷ yes (named s k.name streamer_info) ∷ [])
