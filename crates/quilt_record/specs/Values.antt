-- What the value of a record says.
use Rattle.std.specs.Prelude.{ℕ, ◌+◌, ◌*◌, ◌==◌, List, Option, Some, None, if◌then◌else◌, slice_index, slice_range}
use Rattle.std.specs.Int.{from_be_bytes, w16, w32}
use Rattle.quilt_types.specs.declared.plane.Point.{Point}
use Rattle.quilt_types.specs.declared.plane.Seg.{Seg}

-- the number in the two bytes at a place
abbrev pub short_in : List ℕ → ℕ → ℕ
short_in value at = from_be_bytes w16 (slice_range value at (at + 2))

-- a colour: its low byte, and then its high byte
abbrev pub colour_of : List ℕ → ℕ
colour_of value = slice_index value 0 + 256 * slice_index value 1

-- a point, where the first byte is not 0
abbrev pub held_of : List ℕ → Option Point
held_of value =
    if slice_index value 0 == 0 then None
    else Some (record { at = record { y = short_in value 3; x = short_in value 1 }; label = from_be_bytes w32 (slice_range value 5 9) })

-- a segment: x and y of its first end, and of its last end, two bytes each, the high byte first
abbrev pub segment_of : List ℕ → Seg
segment_of value = record { x1 = short_in value 0; y1 = short_in value 2; x2 = short_in value 4; y2 = short_in value 6 }
