-- What a tag means: document 01, "A new class tag is 0xffffffff and a name ended by zero .. A back-reference is bit 31 plus the offset of
-- that tag from the record's start plus 2", said of the record's bytes alone, whatever tags a reader remembers.
use Rattle.std.specs.Prelude.{ℕ, ◌+◌, ◌-◌, List, [], ◌∷◌, ◌++◌, length, take, drop, eqb, Result, Ok, Err}
use Rattle.wire.specs.Check.{Check, eq, yes, all, pick}
use Rattle.wire.specs.Equal.{eq_bytes}
use Rattle.wire.specs.Fault.{fault}
use Rattle.wire.specs.Number.{num_at}
use Rattle.wire.specs.declared.fault.Fault.{Fault}
use Rattle.wire.specs.declared.fault.Reason.TheVariants as reason
use Rattle.classname.specs.Name.{name_of}
use Rattle.infofield.specs.Field.{◌>>=◌}
use Rattle.infotag.specs.Tag.{head_at}
use Rattle.infotag.specs.declared.tag.Classes.{Classes}
use Rattle.infotag.specs.declared.tag.Start.{Start}

-- at the place a stand 0xffffffff, the name of class c and a zero
abbrev pub tag_stands : List ℕ → ℕ → ℕ → List Check
tag_stands s a c =
    eq (num_at 4 s a) 4294967295 ∷ yes (eq_bytes (take (length (name_of c) + 1) (drop (a + 4) s)) (name_of c ++ (0 ∷ []))) ∷ []

-- the place of the new tag that the tag at q is, or refers to, in the record at rec
unfoldable pub new_tag_of : List ℕ → ℕ → ℕ → ℕ
new_tag_of s rec q = pick (eqb (num_at 4 s q) 4294967295) q (rec + (num_at 4 s q - 2147483648 - 2))

-- an object's head, with its ByteCount at p and its tag after that: Padding, which no fault of a StreamerInfo record has, where the class
-- that it was taken as does not stand in the record at rec
abbrev pub looked_up : List ℕ → ℕ → ℕ → Result Start Fault → Result Start Fault
looked_up s rec p r = do
  h ← r
  pick (all (tag_stands s (new_tag_of s rec (p + 4)) h.class)) (Ok h) (Err (fault reason.Padding (p + 4)))

-- how a reader takes tags: by those that it remembers; or so, and each is looked up once more in the record at a place
pub data Look : Type 0 where
  once : Look
  twice : ℕ → Look

abbrev pub head_by : Look → List ℕ → ℕ → ℕ → ℕ → Classes → List ℕ → Result Start Fault
head_by once s rec p e k ts = head_at s rec p e k ts
head_by (twice at) s rec p e k ts = looked_up s at p (head_at s rec p e k ts)
