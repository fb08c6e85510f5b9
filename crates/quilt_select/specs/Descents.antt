-- What a descent keeps, and what the opening of a block does to it.
use Rattle.std.specs.Prelude.{◌≡◌, ℕ, ◌+◌, ◌<◌, ◌≤◌, List, ◌++◌, length, map, fold, filter, Option, Some, None, IfSome, if◌then◌else◌}
use Rattle.std.specs.Ordering.{nat_cmp}
use Rattle.std.specs.BTreeMap.{insert_entry}
use Rattle.quilt_types.specs.declared.plane.Block.{Block}
use Rattle.quilt_types.specs.declared.plane.Seg.{Seg}
use Rattle.quilt_types.specs.declared.plane.Window.{Window}
use Rattle.quilt_types.specs.Plane.{quarters_of}
use Rattle.quilt_world.specs.Tale.{Goes}
use Rattle.quilt_near.specs.Lines.{Lines}
use Rattle.quilt_near.specs.Parts.{IsPart, pages_for}
use Rattle.quilt_near.specs.declared.part.Part.{Part}
use Rattle.quilt_near.specs.declared.part.Part.TheVariants.{Split, Leaf}
use Rattle.quilt_select.specs.Shares.{shares_pixel, meets_any}

-- a block that waits, with the windows that share a pixel with it
abbrev pub Waiting : Type 0
Waiting = Block × List Window

-- a quarter, with those of the windows that share a pixel with it
abbrev pub quarter_with : List Window → Block → Waiting
quarter_with near q = (q, filter (shares_pixel q) near)

-- the quarters of a block, each with those of its windows that share a pixel with it
abbrev pub four : Block → List Window → List Waiting
four b near = map (quarter_with near) (quarters_of b)

-- the segment is put among the found ones, by id, if it meets one of the windows
abbrev pub with_selected : List Window → List (ℕ × Seg) → ℕ × Seg → List (ℕ × Seg)
with_selected near es e = if meets_any near e.1 then insert_entry nat_cmp es e.0 e.1 else es

-- a block that is cut is no pixel
abbrev pub IsWidePart : Block → Part → Type 0
IsWidePart b Split = 1 < b.side
IsWidePart b (Leaf list) = Unit {0}

-- how many pages were read, where a block without windows is not opened
abbrev pub part_pages : Option Part → ℕ
part_pages None = 0
part_pages (Some part) = pages_for part

-- what a block that came out leaves: which blocks wait, and what is found
abbrev pub AfterDescent : Block → List Window → Option Part → List Waiting → List Waiting → List (ℕ × Seg) → List (ℕ × Seg) → Type 0
AfterDescent b near None old new was now = (length near ≡ 0) × (new ≡ old) × (now ≡ was)
AfterDescent b near (Some Split) old new was now = (0 < length near) × (1 < b.side) × (new ≡ four b near ++ old) × (now ≡ was)
AfterDescent b near (Some (Leaf list)) old new was now = (0 < length near) × (new ≡ old) × (now ≡ fold (with_selected near) was list)

-- a block came out: what it was found to be, where the layer shows its lines, and what it cost
pub record IsBlockVisited (b : Block) (near : List Window) (shown : Lines → Type 0) (old new : List Waiting) (was now : List (ℕ × Seg))
    (reads_old reads_new : Option ℕ) : Type 0 where
  pub part : Option Part
  pub found : (l : Lines) → shown l → IfSome part (IsPart l b)
  pub after : AfterDescent b near part old new was now
  pub reads : Goes (λ before after. after ≤ before + part_pages part) reads_old reads_new
