-- Only private functions and proofs use these: a segment as the code reads it, and segments as it compares them.
use Rattle.std.specs.Prelude.{ℕ, Bool, ◌&&◌, List, [], ◌∷◌, ◌++◌, length, get_or, Option, Some, None}
use Rattle.wire.specs.Check.{Check, le, eq, yes, all, pick}
use Rattle.wire.specs.Layout.{values_at}
use Rattle.wire.specs.Number.{num_at}
use Rattle.rules.specs.Free.{segment_layout_at, segment_end, segments_at, segment_version, segments_fit, last_fits, apart, list_gaps, held_to}
use Rattle.freelist.specs.declared.Segment.{Segment}

-- first and last of the segment at a
abbrev pub first_at : List ℕ → ℕ → ℕ
first_at s a = get_or (values_at (segment_layout_at s a) s a) 1 0

abbrev pub last_at : List ℕ → ℕ → ℕ
last_at s a = get_or (values_at (segment_layout_at s a) s a) 2 0

-- it ends at or before end, and the file may have its Version
abbrev pub stands : Bool → List ℕ → ℕ → ℕ → List Check
stands wide s a end = le (segment_end s a) end ∷ le (num_at 2 s a) (segment_version wide) ∷ []

unfoldable pub segment_in : Bool → List ℕ → ℕ → ℕ → Option Segment
segment_in wide s a end =
    pick (all (stands wide s a end)) (Some (record { first = first_at s a; last = last_at s a; next = segment_end s a })) None

-- it has this first and last
abbrev pub segment_is : Bool → List ℕ → ℕ → ℕ → ℕ → ℕ → List Check
segment_is wide s a end first last = stands wide s a end ++ (eq (first_at s a) first ∷ eq (last_at s a) last ∷ [])

-- the place after it
unfoldable pub after_segment : Bool → List ℕ → ℕ → ℕ → ℕ → ℕ → Option ℕ
after_segment wide s a end first last = pick (all (segment_is wide s a end first last)) (Some (segment_end s a)) None

-- it is the final one, and the last of the data
abbrev pub final_is : Bool → List ℕ → ℕ → ℕ → List Check
final_is wide s a end =
    eq (segment_end s a) end ∷ le (num_at 2 s a) (segment_version wide) ∷ eq (first_at s a) (length s)
    ∷ yes (last_fits wide (length s) (last_at s a)) ∷ []

-- n segments fill the data from a to its end, and are these gaps, then the final one
unfoldable pub segments_are : Bool → List ℕ → ℕ → List ℕ → ℕ → ℕ → Bool
segments_are wide s end ys n a = all (segments_fit wide s n a end) && list_gaps wide (length s) ys (segments_at s n a)

-- n segments fill the data from a to its end, and the last of them is the final one
unfoldable pub segments_stand : Bool → List ℕ → ℕ → ℕ → ℕ → Bool
segments_stand wide s end n a = segments_are wide s end (held_to apart [] (segments_at s n a)) n a
