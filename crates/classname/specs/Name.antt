-- The names of the classes in a StreamerInfo record: document 01, "A new class tag is 0xffffffff and a name ended by zero".
use Rattle.std.specs.Prelude.{ℕ, ◌<◌, List, [], ◌∷◌, ◌≡◌, length, get_or, position, Option, Some, None}
use Rattle.wire.specs.Equal.{eq_bytes}
use Rattle.wire.specs.Quoted.{bytes}

-- the twelve classes, in the order of their numbers: of the list's objects, of their arrays, then 002's list, of kinds 1 to 10
abbrev pub class_names : List (List ℕ)
class_names =
    bytes "TStreamerInfo"
    ∷ bytes "TObjArray"
    ∷ bytes "TStreamerBase"
    ∷ bytes "TStreamerBasicType"
    ∷ bytes "TStreamerString"
    ∷ bytes "TStreamerBasicPointer"
    ∷ bytes "TStreamerObject"
    ∷ bytes "TStreamerObjectPointer"
    ∷ bytes "TStreamerLoop"
    ∷ bytes "TStreamerObjectAny"
    ∷ bytes "TStreamerSTL"
    ∷ bytes "TStreamerSTLString" ∷ []

-- how many there are
abbrev pub classes : ℕ
classes = length class_names

-- the name of class c
unfoldable pub name_of : ℕ → List ℕ
name_of c = get_or class_names c []

-- the number of the class that a byte string names; an unknown name gets none
unfoldable pub class_of : List ℕ → Option ℕ
class_of s = position (eq_bytes s) class_names

-- request 03: "every byte string gets the class whose name it is, all others none"
pub record Classified (s : List ℕ) : Type 0 where
  pub named : (c : ℕ) → c < classes → name_of c ≡ s → class_of s ≡ Some c
  pub only : (c : ℕ) → class_of s ≡ Some c → (c < classes) × (name_of c ≡ s)
  pub none : ((c : ℕ) → c < classes → name_of c ≡ s → ⊥) → class_of s ≡ None
