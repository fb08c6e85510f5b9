-- What is known of a command that an item spells, before any layer is looked at.
use Rattle.std.specs.Prelude.{◌≡◌, ℕ, ◌+◌, ◌*◌, ◌^◌, ◌<◌, ◌≤◌, true, List, [], ◌∷◌, length, All, IfSome, ℤ, ◌≤ℤ◌, pos, neg_ℤ}
use Rattle.quilt_types.specs.declared.plane.Pixel.{Pixel}
use Rattle.quilt_types.specs.declared.plane.Window.{Window}
use Rattle.quilt_types.specs.declared.plane.Colour.{Colour}
use Rattle.quilt_types.specs.declared.plane.Point.{Point}
use Rattle.quilt_types.specs.declared.plane.Corner.{Corner}
use Rattle.quilt_types.specs.declared.plane.Seg.{Seg}
use Rattle.quilt_types.specs.Layers.{is_name, colours}
use Rattle.quilt_types.specs.Plane.{side}

-- the range that numbers of an argument have
pub record IsWithin (low high n : ℕ) : Type 0 where
  pub least : low ≤ n
  pub most : n ≤ high

-- both coordinates are below 2^16; the pixel need not lie in the square of a map
pub record IsPixelOf16 (at : Pixel) : Type 0 where
  pub x : at.x ≤ 65535
  pub y : at.y ≤ 65535

-- it has a pixel
pub record IsWindowOf16 (window : Window) : Type 0 where
  pub x : window.x ≤ 65535
  pub y : window.y ≤ 65535
  pub w : IsWithin 1 65535 window.w
  pub h : IsWithin 1 65535 window.h

-- each two bytes are a colour of the format, the high one first
abbrev pub AreColours : ℕ → List ℕ → Type 0
AreColours f [] = Unit {0}
AreColours f (high ∷ []) = Unit {0}
AreColours f (high ∷ low ∷ bytes) = (256 * high + low < colours f) × AreColours f bytes

-- the colours of the whole square
pub record IsRows (f n : ℕ) (bytes : List ℕ) : Type 0 where
  pub size : length bytes ≡ 2 * (side n * side n)
  pub colours : AreColours f bytes

-- a point at a pixel of 16 bits, with a label below 2^32
pub record IsPointOf16 (p : Point) : Type 0 where
  pub at : IsPixelOf16 p.at
  pub label : p.label < 2 ^ 32

-- a corner of a ring: both coordinates are below 2^16
pub record IsCornerOf16 (c : Corner) : Type 0 where
  pub x : c.x ≤ 65535
  pub y : c.y ≤ 65535

-- a ring has a side at least in each of three directions
pub record IsRing (corners : List Corner) : Type 0 where
  pub three : 3 ≤ length corners
  pub each : All IsCornerOf16 corners

-- as many points as a list may have
pub record ArePoints (points : List Point) : Type 0 where
  pub number : IsWithin 1 100000 (length points)
  pub each : All IsPointOf16 points

-- from 1 to 1000 rings
pub record AreRings (rings : List (List Corner)) : Type 0 where
  pub number : IsWithin 1 1000 (length rings)
  pub each : All IsRing rings

-- the bytes are a layer's name: 1 to 12 of a to z, 0 to 9 and _, a letter first
abbrev pub IsName : List ℕ → Type 0
IsName a = is_name a ≡ true

-- a colour of the format: below 256 in format 1, and below 65536 in format 2
abbrev pub IsColour : ℕ → Colour → Type 0
IsColour f c = c.0 < colours f

-- a segment whose both ends are pixels of 16 bits
pub record IsSegOf16 (s : Seg) : Type 0 where
  pub first : IsPixelOf16 (record { x = s.x1; y = s.y1 })
  pub second : IsPixelOf16 (record { x = s.x2; y = s.y2 })

-- from 1 to 16 pairs of colours of the format
pub record ArePairs (f : ℕ) (pairs : List (Colour × Colour)) : Type 0 where
  pub number : IsWithin 1 16 (length pairs)
  pub each : All (λ pair. IsColour f pair.0 × IsColour f pair.1) pairs

-- at most 65535 to either side
pub record IsShift (z : ℤ) : Type 0 where
  pub least : neg_ℤ (pos 65535) ≤ℤ z
  pub most : z ≤ℤ pos 65535
