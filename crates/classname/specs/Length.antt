-- Which classes a length leaves, and which of them a byte: request 03, "Decide by length, then by the bytes that differ, then test the rest".
use Rattle.std.specs.Prelude.{ℕ, suc, ◌-◌, ◌<◌, ◌≤◌, List, [], ◌∷◌, map, ◌≡◌, length, get_or, take, drop, ltb, Option, option_map}
use Rattle.wire.specs.Check.{pick}
use Rattle.classname.specs.Find.{first_in}
use Rattle.classname.specs.Name.{classes, name_of}

-- the twelve classes, those with shorter names first
abbrev pub by_length : List ℕ
by_length = 1 ∷ 10 ∷ 0 ∷ 2 ∷ 8 ∷ 4 ∷ 6 ∷ 3 ∷ 9 ∷ 11 ∷ 5 ∷ 7 ∷ []

-- how many of some classes have a name of less than n bytes
unfoldable pub shorter_in : List ℕ → ℕ → ℕ
shorter_in [] n = 0
shorter_in (c ∷ cs) n = pick (ltb (length (name_of c)) n) (suc (shorter_in cs n)) (shorter_in cs n)

abbrev pub shorter : ℕ → ℕ
shorter n = shorter_in by_length n

-- a and z are how many names have less than n bytes, and at most n
pub record Counted (n a z : ℕ) : Type 0 where
  pub first : a ≡ shorter n
  pub end : z ≡ shorter (suc n)
  pub rising : a ≤ z
  pub most : z ≤ classes

-- the classes that a length leaves: past those with shorter names, before those with longer ones
unfoldable pub leaves : ℕ → List ℕ
leaves n = take (shorter (suc n) - shorter n) (drop (shorter n) by_length)

-- the byte that differs between names of one length, 0 past a name's end; that of each class
abbrev pub deciding_byte : List ℕ → ℕ
deciding_byte name = get_or name 9 0

abbrev pub deciding_bytes : List ℕ → List ℕ
deciding_bytes cs = map (λ c. deciding_byte (name_of c)) cs

-- the class in a place of a list, if there is a place
abbrev pub chosen : List ℕ → Option ℕ → Option ℕ
chosen cs = option_map (λ i. get_or cs i 0)

-- the class that a length and the byte b leave
unfoldable pub candidate_of : ℕ → ℕ → Option ℕ
candidate_of n b = chosen (leaves n) (first_in (deciding_bytes (leaves n)) b)

-- c is one of a list
abbrev pub In : ℕ → List ℕ → Type 0
In c cs = (i : ℕ) × (i < length cs) × (get_or cs i 0 ≡ c)

-- "the length leaves exactly those of the twelve names that have it", and the byte parts them
pub record Leaves (n : ℕ) : Type 0 where
  pub has : (c : ℕ) → c < classes → length (name_of c) ≡ n → In c (leaves n)
  pub only : (c : ℕ) → In c (leaves n) → (c < classes) × (length (name_of c) ≡ n)
  pub parted : (c d : ℕ) → In c (leaves n) → In d (leaves n) → deciding_byte (name_of c) ≡ deciding_byte (name_of d) → c ≡ d

-- r is the class that the length n and the byte b leave, of those that the length leaves
pub record Decides (n b : ℕ) (r : Option ℕ) : Type 0 where
  pub is : r ≡ candidate_of n b
  pub by : Leaves n
