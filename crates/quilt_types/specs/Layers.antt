-- What a layer is, a map of named layers, and an edition.
use Rattle.std.specs.Prelude.{◌≡◌, ℕ, ◌+◌, ◌*◌, ◌^◌, ◌<◌, ◌≤◌, Bool, true, false, ◌&&◌, ◌||◌, nat_le, ◌==◌, List, [], ◌∷◌, length, All, Contains, count_by}
use Rattle.std.specs.Prelude.{slice_index, if◌then◌else◌}
use Rattle.std.specs.Ordering.{nat_cmp}
use Rattle.std.specs.List.{list_all}
use Rattle.std.specs.Cmp.Lexicographic.{slice_cmp}
use Rattle.std.specs.FinMap as finmap
use Rattle.quilt_types.specs.Sets as finset
use Rattle.quilt_types.specs.declared.plane.Pixel.{Pixel}
use Rattle.quilt_types.specs.declared.plane.Seg.{Seg}
use Rattle.quilt_types.specs.Plane.{side, pixels, pixel_cmp, is_pixel, blocks, block_cmp, in_block}

-- a grid is its colours, row by row
abbrev pub Grid : Type 0
Grid = List ℕ

-- the colour of a pixel of the square in a grid of the level n
abbrev pub colour_at : ℕ → Grid → Pixel → ℕ
colour_at n g p = slice_index g (p.y * side n + p.x)

-- labels at pixels
abbrev pub PointMap : Type 0
PointMap = finmap.FinMap pixel_cmp ℕ

-- segments under their ids
abbrev pub SegMap : Type 0
SegMap = finmap.FinMap nat_cmp Seg

-- sets of blocks, in the order of y, then x, then side
abbrev pub BlockSet : Type 0
BlockSet = finset.FinSet block_cmp

-- A region layer is a grid. A point layer has a capacity, how many points a block holds at most, and labels at pixels. A line layer has a
-- threshold, how many segments may meet a block before it is cut, segments under ids, and its blocks.
pub data Layer : Type 0 where
  Region : (grid : Grid) → Layer
  Points : (capacity : ℕ) (points : PointMap) → Layer
  Lines : (threshold : ℕ) (segs : SegMap) (cover : BlockSet) → Layer

-- exactly one block of the set holds each pixel
abbrev pub is_cover : ℕ → BlockSet → Bool
is_cover n cover = list_all (λ p. count_by (λ b. in_block b p) (finset.items cover) == 1) (pixels n)

-- how many colours there are in a format, 1 or 2: a byte, or two
abbrev pub colours : ℕ → ℕ
colours f = if f == 1 then 256 else 65536

-- a grid of the level: a colour of the format for each pixel
pub record IsGrid (f n : ℕ) (grid : Grid) : Type 0 where
  pub size : length grid ≡ side n * side n
  pub colours : All (λ c. c < colours f) grid

-- labels of 32 bits at pixels of the square; in format 1 a block holds one point at most
pub record IsPointMap (f n capacity : ℕ) (points : PointMap) : Type 0 where
  pub least : 1 ≤ capacity
  pub most : capacity ≤ (if f == 1 then 1 else 16)
  pub inside : All (λ e. is_pixel n e.0 ≡ true) (finmap.entries points)
  pub labels : All (λ e. e.1 < 2 ^ 32) (finmap.entries points)

-- both ends are pixels of the square
abbrev pub is_in_square : ℕ → Seg → Bool
is_in_square n s = is_pixel n (record { x = s.x1; y = s.y1 }) && is_pixel n (record { x = s.x2; y = s.y2 })

-- segments of the square under ids of 32 bits, over blocks of which exactly one holds each pixel
pub record IsLineMap (n threshold : ℕ) (segs : SegMap) (cover : BlockSet) : Type 0 where
  pub least : 1 ≤ threshold
  pub most : threshold ≤ 32
  pub ids : All (λ e. e.0 < 2 ^ 32) (finmap.entries segs)
  pub inside : All (λ e. is_in_square n e.1 ≡ true) (finmap.entries segs)
  pub each : All (Contains (blocks n)) (finset.items cover)
  pub once : is_cover n cover ≡ true

-- what the values of a layer in this format and at this level are
abbrev pub IsLayer : ℕ → ℕ → Layer → Type 0
IsLayer f n (Region grid) = IsGrid f n grid
IsLayer f n (Points capacity points) = IsPointMap f n capacity points
IsLayer f n (Lines threshold segs cover) = IsLineMap n threshold segs cover

-- layers under their names, which are bytes
abbrev pub Map : Type 0
Map = finmap.FinMap (slice_cmp nat_cmp) Layer

-- the byte is one of a to z
abbrev pub is_letter : ℕ → Bool
is_letter c = nat_le 97 c && nat_le c 122

-- the byte is one of a to z, 0 to 9 and _
abbrev pub is_name_byte : ℕ → Bool
is_name_byte c = is_letter c || (nat_le 48 c && nat_le c 57) || c == 95

-- 1 to 12 bytes out of a to z, 0 to 9 and _, a letter first
abbrev pub is_name : List ℕ → Bool
is_name [] = false
is_name (c ∷ cs) = is_letter c && list_all is_name_byte cs && nat_le (length cs) 11

-- what a map is in this format and at this level: at most 255 layers, each under a name
pub record IsMap (f n : ℕ) (layers : Map) : Type 0 where
  pub few : finmap.len layers ≤ 255
  pub named : All (λ e. is_name e.0 ≡ true) (finmap.entries layers)
  pub each : All (λ e. IsLayer f n e.1) (finmap.entries layers)

-- the map at one moment: its format 1 or 2, its number from 0, its level, which gives the side of the square, and its layers
pub record Edition : Type 0 where
  pub format : ℕ
  pub number : ℕ
  pub level : ℕ
  pub layers : Map
