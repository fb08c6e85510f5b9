-- The layers that the edits make are layers.
use Rattle.std.specs.Prelude.{◌≡◌, ℕ, ◌^◌, ◌<◌, ◌≤◌, true}
use Rattle.std.specs.FinMap as finmap
use Rattle.quilt_types.specs.Sets as finset
use Rattle.quilt_types.specs.declared.plane.Seg.{Seg}
use Rattle.quilt_types.specs.Plane.{whole}
use Rattle.quilt_types.specs.Layers.{SegMap, BlockSet, IsLineMap, is_in_square}
use Rattle.quilt_types.specs.Quadtrees.{after_add, after_remove}

-- a new layer, with one block
abbrev pub NewLaw : Type 0
NewLaw = (n t : ℕ) → 1 ≤ t → t ≤ 32 → IsLineMap n t finmap.empty (finset.insert finset.empty (whole n))

-- a layer with one more segment
abbrev pub AddedLaw : Type 0
AddedLaw =
    (n t : ℕ) (segs : SegMap) (cover : BlockSet) (id : ℕ) (s : Seg) → IsLineMap n t segs cover → id < 2 ^ 32 → is_in_square n s ≡ true →
    let now = finmap.insert segs id s in IsLineMap n t now (after_add t now cover s)

-- a layer with one less
abbrev pub RemovedLaw : Type 0
RemovedLaw =
    (n t : ℕ) (segs : SegMap) (cover : BlockSet) (id : ℕ) (s : Seg) → IsLineMap n t segs cover →
    let now = finmap.remove segs id in IsLineMap n t now (after_remove n t now cover s)
