-- What a header is tested for before it is written: document 01, "The key writer takes the fields but KeyLen ...".
use Rattle.std.specs.Prelude.{ℕ, ◌+◌, ◌^◌, List, [], ◌∷◌, Result, Ok, Err}
use Rattle.std.specs.Int.Signed.{mag}
use Rattle.wire.specs.Check.{Check, le, lt, all, pick}
use Rattle.wire.specs.Fault.{fault}
use Rattle.wire.specs.Layout.{offset_width}
use Rattle.wire.specs.Number.{bits_of}
use Rattle.wire.specs.declared.fault.Fault.{Fault}
use Rattle.wire.specs.declared.fault.Reason.TheVariants as reason
use Rattle.key.specs.Header.{most_key_len, limits}
use Rattle.key.specs.declared.header.Fields.{Fields}

-- 16: `key_fits`, of the sum of the strings
abbrev pub fields_fit : Fields → ℕ → List Check
fields_fit f sum =
    lt (mag f.cycle) 32768 ∷ lt f.seekkey (256 ^ offset_width f.version) ∷ lt f.seekpdir (256 ^ offset_width f.version)
    ∷ limits f.nbytes f.version f.objlen sum sum

-- the refusals in their order, and the two bytes of Cycle where there is none: into a buffer of so many bytes
unfoldable pub tested : Fields → ℕ → ℕ → Result ℕ Fault
tested f sum room =
    pick (all (le sum most_key_len ∷ []))
    (pick (all (fields_fit f sum))
    (pick (all (le (f.seekkey + f.nbytes) room ∷ [])) (Ok (bits_of 2 f.cycle)) (Err (fault reason.Room 0)))
    (Err (fault reason.Field 0)))
    (Err (fault reason.Name 0))
