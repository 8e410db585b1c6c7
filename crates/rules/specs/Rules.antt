-- The rules for a pass: document 01, "Rules for a pass", over the bytes s, the file header h, a partition qs, and beside each
-- piece of it a part ps and an owner os. Document 01 calls parts and owners together a giving; here they are an assignment.
-- The lines Header and Pieces are in Demand.antt.
use Rattle.std.specs.Prelude.{ℕ, ◌+◌, ◌<◌, ◌≤◌, true, List, [], ◌∷◌, map, ◌⊎◌, ◌≡◌, length, get_or, Some}
use Rattle.wire.specs.Check.{All}
use Rattle.wire.specs.Number.{num_at}
use Rattle.key.specs.Piece.{piece_at}
use Rattle.key.specs.declared.header.Key.{Key}
use Rattle.directory.specs.Dir.{head_in, dir_of, no_keys}
use Rattle.keylist.specs.Keys.{list_in, copy_in}
use Rattle.keylist.specs.Keys.{span}
use Rattle.directory.specs.declared.DirHead.{DirHead}
use Rattle.fileheader.specs.declared.FileHead.{FileHead}
use Rattle.rules.specs.Entry.{entry_fits, listed_part}
use Rattle.rules.specs.Free.{Mode, is_gap, Free, info_holds}
use Rattle.rules.specs.Part.{gap, head, free, info, keys, listed, dir, unlisted}
use Rattle.rules.specs.Row.{starts}

abbrev pub Iff : Type 0 → Type 0 → Type 0
Iff a b = (a → b) × (b → a)

abbrev pub In : ℕ → List ℕ → Type 0
In p [] = ⊥
In p (q ∷ qs) = (p ≡ q) ⊎ In p qs

abbrev pub Distinct : List ℕ → Type 0
Distinct [] = Unit
Distinct (p ∷ ps) = (In p ps → ⊥) × Distinct ps

-- Keys list: plain header copies from c on, nothing after
abbrev pub Copies : List ℕ → ℕ → ℕ → List Key → Type 0
Copies s end c [] = c ≡ end
Copies s end c (k ∷ ks) = (copy_in s c end ≡ Some k) × Copies s end (c + k.keylen) ks

-- Copy: each of the copies from c on obeys the rule
abbrev pub Entries : List ℕ → List ℕ → ℕ → ℕ → List Key → Type 0
Entries s qs d c [] = Unit
Entries s qs d c (k ∷ ks) = All (entry_fits s qs d c k) × Entries s qs d (c + k.keylen) ks

-- Keys list: SeekKeys and NbytesKeys are start and size of the list's record; its data is NKeys, then exactly NKeys copies
pub record Filled (s qs : List ℕ) (d : ℕ) (dh : DirHead) (ks : List Key) : Type 0 where
  pub from : ℕ
  pub end : ℕ
  pub place : starts qs dh.seekkeys ≡ true
  pub held : list_in s dh.seekkeys dh.nbyteskeys d ≡ Some (span from end)
  pub room : from + 4 ≤ end
  pub count : length ks ≡ num_at 4 s from
  pub copies : Copies s end (from + 4) ks
  pub entries : Entries s qs d (from + 4) ks

-- the directory at d, of header dh, is empty or obeys Keys list and Copy; its list has exactly the copies ks
abbrev pub KeysAre : List ℕ → List ℕ → ℕ → DirHead → List Key → Type 0
KeysAre s qs d dh ks = (All (no_keys dh) × (ks ≡ [])) ⊎ Filled s qs d dh ks

-- the places of the records that are copied
abbrev pub places : List Key → List ℕ
places ks = map (λ (k : Key). k.seekkey) ks

-- parts of directories, and of listed records
abbrev pub Directory : ℕ → Type 0
Directory k = (k ≡ head) ⊎ (k ≡ dir)

abbrev pub Listed : ℕ → Type 0
Listed k = (k ≡ listed) ⊎ (k ≡ dir)

-- taking the owner again and again arrives at 100
pub data Leads (qs os : List ℕ) : ℕ → Type 0 where
  root : {p : ℕ} → p ≡ 100 → Leads qs os p
  up : {p : ℕ} (i : ℕ) → i < length qs → get_or qs i 0 ≡ p → Leads qs os (get_or os i 0) → Leads qs os p

module _ (s : List ℕ) (h : FileHead) (qs ps os : List ℕ) where
  -- start, part and owner of the piece in row i
  abbrev start : ℕ → ℕ
  start i = get_or qs i 0

  abbrev part : ℕ → ℕ
  part i = get_or ps i 0

  abbrev owner : ℕ → ℕ
  owner i = get_or os i 0

  abbrev IsRow : ℕ → Type 0
  IsRow i = i < length qs

  -- the piece in a row starts at d and is a directory, and dh is its header
  pub record DirectoryAt (d : ℕ) (dh : DirHead) : Type 0 where
    pub row : ℕ
    pub within : IsRow row
    pub here : start row ≡ d
    pub is : Directory (part row)
    pub header : dir_of s h d (owner row) ≡ Some dh

  -- at d stands a directory whose SeekKeys is p
  abbrev pub KeysOf : ℕ → ℕ → Type 0
  KeysOf d p = (dh : DirHead) × DirectoryAt d dh × (dh.seekkeys ≡ p)

  -- at d stands a directory whose keys list copies the record at p
  abbrev pub Lists : ℕ → ℕ → Type 0
  Lists d p = (dh : DirHead) × (ks : List Key) × DirectoryAt d dh × KeysAre s qs d dh ks × In p (places ks)

  -- of one audit or the other: only the free list rule depends on it
  pub record Rules (mode : Mode) : Type 0 where
    -- a part and an owner beside each piece of the partition
    pub parts : length ps ≡ length qs
    pub owners : length os ≡ length qs
    -- no other parts. A piece has one part, so no record is two of head, free list, info, keys list, listed; a record that is
    -- none of them is unlisted
    pub known : (i : ℕ) → IsRow i → part i ≤ unlisted
    -- Head, Free list, Info
    pub head_rule : (dh : DirHead) × (head_in s h.nbytesname ≡ Some dh)
    pub free_rule : Free mode s qs h
    pub info_rule : info_holds s qs h ≡ true
    -- a gap is exactly part 0
    pub gap_part : (i : ℕ) → IsRow i → Iff (part i ≡ gap) (is_gap (piece_at s (start i)) ≡ true)
    -- head, free list and info are the records at 100, SeekFree and, where it is not 0 (no piece starts at 0), SeekInfo
    pub head_part : (i : ℕ) → IsRow i → Iff (part i ≡ head) (start i ≡ 100)
    pub free_part : (i : ℕ) → IsRow i → Iff (part i ≡ free) (start i ≡ h.seekfree)
    pub info_part : (i : ℕ) → IsRow i → Iff (part i ≡ info) (start i ≡ h.seekinfo)
    -- Directory header, Keys list, Copy: each directory, the head and every listed one, obeys them
    pub directory : (i : ℕ) → IsRow i → Directory (part i)
        → (dh : DirHead) × (ks : List Key) × (dir_of s h (start i) (owner i) ≡ Some dh) × KeysAre s qs (start i) dh ks
    -- a record is a keys list with owner d exactly when at d stands a directory whose SeekKeys is the record's place
    pub keys_part : (i d : ℕ) → IsRow i → Iff ((part i ≡ keys) × (owner i ≡ d)) (KeysOf d (start i))
    -- it is listed with owner d exactly when at d stands a directory whose keys list copies it
    pub copied : (i d : ℕ) → IsRow i → Iff (Listed (part i) × (owner i ≡ d)) (Lists d (start i))
    -- every listed record of class TDirectory is a directory
    pub class : (i : ℕ) → IsRow i → Listed (part i) → part i ≡ listed_part s (start i)
    -- none is copied twice: not by one directory; by two, it would have two owners
    pub once : (d : ℕ) (dh : DirHead) (ks : List Key) → DirectoryAt d dh → KeysAre s qs d dh ks → Distinct (places ks)
    -- owner is the directory's place for keys lists and listed records, else 0
    pub no_owner : (i : ℕ) → IsRow i → (part i ≤ info) ⊎ (part i ≡ unlisted) → owner i ≡ 0
    -- from every listed record the owners lead to 100
    pub leads : (i : ℕ) → IsRow i → Listed (part i) → Leads qs os (start i)
