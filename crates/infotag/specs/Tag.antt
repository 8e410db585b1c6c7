-- Class tags: document 01, "A new class tag is 0xffffffff and a name ended by zero, once per class and record".
use Rattle.std.specs.Prelude.{ℕ, ◌+◌, ◌-◌, List, [], ◌∷◌, get_or, take, drop, leb, eqb, Option, Some, None, option_map, ok_or, unwrap_or, Result, Ok, Err}
use Rattle.wire.specs.Check.{Check, le, eq, all, pick}
use Rattle.wire.specs.Fault.{fault}
use Rattle.wire.specs.Number.{num_at}
use Rattle.wire.specs.declared.fault.Fault.{Fault}
use Rattle.wire.specs.declared.fault.Reason.TheVariants as reason
use Rattle.classname.specs.Find.{first_in}
use Rattle.classname.specs.Name.{classes, class_of}
use Rattle.infofield.specs.Field.{◌>>=◌, bad_field, field_at, count_at}
use Rattle.infotag.specs.declared.tag.Classes.{Classes}
use Rattle.infotag.specs.declared.tag.ClassName.{ClassName}
use Rattle.infotag.specs.declared.tag.Tag.{Tag}
use Rattle.infotag.specs.declared.tag.Start.{Start}

-- the bytes from q on and before e
abbrev pub between : List ℕ → ℕ → ℕ → List ℕ
between s q e = take (e - q) (drop q s)

-- "an unknown, repeated or misplaced class is 22": the tag at p
abbrev pub misplaced : ℕ → Fault
misplaced p = fault reason.Tag p

-- the class c is one of those that may stand there
abbrev pub allowed : Classes → ℕ → List Check
allowed k c = le k.low c ∷ le c k.high ∷ []

-- the tags are the offsets in the record of each class's new tag, 0 where there was none yet
abbrev pub fresh : List ℕ → Classes → ℕ → List Check
fresh ts k c = le k.low c ∷ le c k.high ∷ eq (get_or ts c 0) 0 ∷ []

-- "a name ended by zero", from q on: the class that it names, `classes` where it names none, and the place after the zero, which stands
-- before the innermost open end e
abbrev pub named_by : List ℕ → ℕ → ℕ → ClassName
named_by s q n = record { class = unwrap_or (class_of (take n (drop q s))) classes; next = q + n + 1 }

unfoldable pub class_name_at : List ℕ → ℕ → ℕ → Option ClassName
class_name_at s q e = option_map (named_by s q) (first_in (between s q e) 0)

-- a tag's offset from the record's start
abbrev pub offset_of : ℕ → ℕ → ℕ
offset_of rec p = p - rec

-- the tag at p of a class, if there is one and it passes the checks: with its new tag's offset o, and the place q after it
abbrev pub tag_of : (ℕ → List Check) → ℕ → ℕ → ℕ → Option ℕ → Result Tag Fault
tag_of checks o q p (Some c) = pick (all (checks c)) (Ok (record { class = c; offset = o; next = q })) (Err (misplaced p))
tag_of checks o q p None = Err (misplaced p)

-- a new tag at p of the name n
unfoldable pub new_tag : ClassName → ℕ → ℕ → Classes → List ℕ → Result Tag Fault
new_tag n rec p k ts = tag_of (fresh ts k) (offset_of rec p) n.next p (Some n.class)

-- "a back-reference is bit 31 plus the offset of that tag from the record's start plus 2": what it has beside the offset
abbrev pub beside : ℕ
beside = 2147483650

-- the number v at p refers to a tag
unfoldable pub old_tag : ℕ → ℕ → ℕ → Classes → List ℕ → Result Tag Fault
old_tag v p q k ts =
    pick (leb v beside) (Err (misplaced p)) (tag_of (allowed k) (v - beside) q p (first_in ts (v - beside)))

-- "a new class tag is 0xffffffff and a name ended by zero", from q on; a name that is cut is 21
abbrev pub named_tag : List ℕ → ℕ → ℕ → ℕ → ℕ → Classes → List ℕ → Result Tag Fault
named_tag s rec p q e k ts = do
  n ← ok_or (class_name_at s q e) (bad_field p)
  new_tag n rec p k ts

unfoldable pub tag_at : List ℕ → ℕ → ℕ → ℕ → Classes → List ℕ → Result Tag Fault
tag_at s rec p e k ts = do
  q ← field_at 4 p e
  pick (eqb (num_at 4 s p) 4294967295) (named_tag s rec p q e k ts) (old_tag (num_at 4 s p) p q k ts)

-- an object's ByteCount and tag: the class, its tag's offset, the place after the tag, and the object's end
unfoldable pub head_at : List ℕ → ℕ → ℕ → ℕ → Classes → List ℕ → Result Start Fault
head_at s rec p e k ts = do
  b ← count_at s p e
  t ← tag_at s rec b.from b.close k ts
  Ok (record { class = t.class; offset = t.offset; next = t.next; close = b.close })
