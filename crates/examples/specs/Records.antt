-- Records of the worked examples and one.root, put together from the parts that the papers lay out.
use Rattle.std.specs.Prelude.{ℕ, suc, zero, ◌+◌, ◌-◌, ◌*◌, Bool, true, false, List, [], ◌∷◌, ◌++◌, pos, length, replicate}
use Rattle.wire.specs.Check.{pick}
use Rattle.wire.specs.Layout.{width_of, extent, value_bytes}
use Rattle.wire.specs.Name.{t_file, t_list, streamer_info}
use Rattle.wire.specs.Number.{be_bytes}
use Rattle.wire.specs.Quoted.{bytes}
use Rattle.wire.specs.Text.{text_bytes}
use Rattle.key.specs.Writer.{header_bytes, sum_bytes}
use Rattle.fileheader.specs.File.{file_layout}
use Rattle.directory.specs.Dir.{dir_layout}
use Rattle.rules.specs.Free.{segment_layout}
use Rattle.classname.specs.Name.{class_names}

-- the Version of a key, a directory header or a segment, in the wide form or not
abbrev pub in_form : Bool → ℕ → ℕ
in_form wide version = pick wide (version + 1000) version

-- the header of a record of this Version with n bytes of data
abbrev pub key_bytes : ℕ → ℕ → ℕ → ℕ → List ℕ → List ℕ → List ℕ → List ℕ
key_bytes version n seekkey seekpdir class name title =
    header_bytes
    (record {
      nbytes = sum_bytes version class name title + n;
      version = version;
      objlen = n;
      datime = 0;
      cycle = pos 1;
      seekkey = seekkey;
      seekpdir = seekpdir;
    })
    class name title

abbrev pub t_obj_string : List ℕ
t_obj_string = bytes "TObjString"

-- one.root's head key, at 100 with its name, title and directory header as data, and that of its object "x", with 10 bytes
abbrev pub head_key : Bool → List ℕ
head_key wide = key_bytes (in_form wide 4) (3 + extent (dir_layout (width_of wide))) 100 0 t_file (bytes "a") []

abbrev pub object_key : Bool → ℕ → List ℕ
object_key wide object = key_bytes (in_form wide 4) 10 object 100 t_obj_string (bytes "x") []

-- one.root in the wide form or not, with dates of 0: the places of its pieces and END, and the last of its two segments
abbrev pub root_file : Bool → ℕ → ℕ → ℕ → ℕ → ℕ → ℕ → ℕ → List ℕ
root_file wide object keys gap free end last final =
    let w = width_of wide in
    let name = length (head_key wide) + 3 in
    -- 0: the file header
    value_bytes (file_layout w)
    (1919905652 ∷ pick wide 1062400 62400 ∷ 100 ∷ end ∷ free ∷ (end - free) ∷ 2 ∷ name ∷ w ∷ 1 ∷ 0 ∷ 0 ∷ [])
    ++ replicate (100 - extent (file_layout w)) 0
    -- 100: the head, its name and title, its directory header
    ++ head_key wide ++ text_bytes (bytes "a") ++ text_bytes []
    ++ value_bytes (dir_layout w) (in_form wide 5 ∷ 0 ∷ 0 ∷ (gap - keys) ∷ name ∷ 100 ∷ 0 ∷ keys ∷ [])
    -- "x"
    ++ object_key wide object ++ replicate 10 7
    -- the keys list, with one copy
    ++ key_bytes (in_form wide 4) (4 + length (object_key wide object)) keys 100 t_file (bytes "a") [] ++ be_bytes 4 1 ++ object_key wide object
    -- a gap of 12 bytes, which begins with −12
    ++ be_bytes 4 4294967284 ++ replicate 8 0
    -- the free list
    ++ key_bytes (in_form wide 4) (2 * extent (segment_layout w)) free 100 t_file (bytes "a") []
    ++ value_bytes (segment_layout w) (in_form wide 1 ∷ gap ∷ last ∷ []) ++ value_bytes (segment_layout w) (in_form wide 1 ∷ end ∷ final ∷ [])

-- one.root with this last of its gap's segment, and the same file in the wide form with this last of its final segment
abbrev pub one_root : ℕ → List ℕ
one_root last = root_file false 168 218 297 309 364 last 2000000000

abbrev pub wide_root : ℕ → List ℕ
wide_root final = root_file true 188 246 341 353 432 352 final

-- a record at 0 whose name has n bytes: its key, of class "A", is all of it
abbrev pub long_name : ℕ → List ℕ
long_name n = key_bytes 4 0 0 0 (bytes "A") (replicate n 66) []

-- an object: its ByteCount and its bytes
abbrev pub object : List ℕ → List ℕ
object x = be_bytes 4 (1073741824 + length x) ++ x

abbrev pub t_object : List ℕ
t_object = be_bytes 2 1 ++ be_bytes 4 0 ++ be_bytes 4 50331648

abbrev pub t_named : List ℕ → List ℕ
t_named name = object (be_bytes 2 1 ++ t_object ++ text_bytes name ++ text_bytes [])

-- the name of a class, by its number
abbrev pub name_in : List (List ℕ) → ℕ → List ℕ
name_in [] c = []
name_in (n ∷ ns) zero = n
name_in (n ∷ ns) (suc c) = name_in ns c

-- the tag of a class that is new, and one that refers to the tag at an offset
abbrev pub new_tag : ℕ → List ℕ
new_tag c = be_bytes 4 4294967295 ++ name_in class_names c ++ 0 ∷ []

abbrev pub reference : ℕ → List ℕ
reference offset = be_bytes 4 (2147483648 + offset + 2)

-- an element of a kind: its name, type name, fType and fArrayLength, and what its kind has beside them
abbrev pub element : ℕ → List ℕ → List ℕ → ℕ → ℕ → List ℕ → List ℕ
element kind name typename ftype count own =
    object
    (new_tag (suc kind)
    ++ object
    (be_bytes 2 2
    ++ object
    (be_bytes 2 2 ++ t_named name ++ be_bytes 4 ftype ++ be_bytes 4 8 ++ be_bytes 4 count ++ replicate 24 0 ++ text_bytes typename)
    ++ own))

-- an array of n elements and a class with its array, each with its tag; a list of n objects, of this Version
abbrev pub array : List ℕ → ℕ → List ℕ → List ℕ
array tag n elements =
    object (tag ++ object (be_bytes 2 3 ++ t_object ++ text_bytes [] ++ be_bytes 4 n ++ be_bytes 4 0 ++ elements))

abbrev pub class : List ℕ → List ℕ → List ℕ → List ℕ
class tag name elements = object (tag ++ object (be_bytes 2 2 ++ t_named name ++ be_bytes 4 123 ++ be_bytes 4 4 ++ elements))

abbrev pub list : ℕ → ℕ → List ℕ → List ℕ
list version n objects = object (be_bytes 2 version ++ t_object ++ text_bytes [] ++ be_bytes 4 n ++ objects)

-- the StreamerInfo record at 0 of this Version with this list: 002 gives its title as "Doubly linked list"
abbrev pub info_record : ℕ → List ℕ → List ℕ
info_record version x =
    key_bytes version (length x) 0 0 t_list streamer_info
    (bytes "Doubly linked list") ++ x

-- two classes: A without elements, and B, whose tag is a reference (or another number v), with the base x
abbrev pub two_classes : ℕ → ℕ → List ℕ
two_classes version v =
    info_record version
    (list 3 2
    (class (new_tag 0) (bytes "A") (array (new_tag 1) 0 [])
    ++ class (reference v) (bytes "B")
    (array (reference (v + 55)) 1 (element 1 (bytes "x") (bytes "BASE") 0 0 (be_bytes 4 7)))))

-- one class without elements, and what stands after it in a list of this Version
abbrev pub one_class : ℕ → List ℕ → List ℕ
one_class version option = info_record 4 (list version 1 (class (new_tag 0) (bytes "A") (array (new_tag 1) 0 []) ++ option))

-- fCountVersion, fCountName "n", fCountClass "A"
abbrev pub counter : List ℕ
counter = be_bytes 4 1 ++ text_bytes (bytes "n") ++ text_bytes (bytes "A")

-- the element of a kind, named a, b, c .. of type A, B, C ..
abbrev pub of_kind : ℕ → List ℕ → List ℕ
of_kind kind own = element kind ((96 + kind) ∷ []) ((64 + kind) ∷ []) kind (10 + kind) own

-- one class with an element of each of the ten kinds
abbrev pub ten_kinds : List ℕ
ten_kinds =
    info_record 4
    (list 3 1
    (class (new_tag 0) (bytes "A")
    (array (new_tag 1) 10
    (of_kind 1 (be_bytes 4 7) ++ of_kind 2 [] ++ of_kind 3 [] ++ of_kind 4 counter ++ of_kind 5 [] ++ of_kind 6 [] ++ of_kind 7 counter
    ++ of_kind 8 [] ++ of_kind 9 (be_bytes 4 1 ++ be_bytes 4 2) ++ of_kind 10 []))))
