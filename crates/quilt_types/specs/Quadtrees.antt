-- The blocks of each kind of layer.
use Rattle.std.specs.Prelude.{ℕ, ◌+◌, ◌*◌, Bool, ◌&&◌, ◌||◌, not, nat_le, nat_lt, ◌==◌, List, [], ◌∷◌, map, fold, filter, flat_map, count_by, sum_by}
use Rattle.std.specs.Prelude.{if◌then◌else◌}
use Rattle.std.specs.List.{list_all, list_any, range_with_len}
use Rattle.std.specs.FinMap as finmap
use Rattle.quilt_types.specs.Sets as finset
use Rattle.quilt_types.specs.declared.plane.Block.{Block}
use Rattle.quilt_types.specs.declared.plane.Seg.{Seg}
use Rattle.quilt_types.specs.Plane.{side, corner, blocks, in_block, pixels_of, parent_of, quarters_of}
use Rattle.quilt_types.specs.Layers.{Grid, colour_at, PointMap, SegMap, BlockSet}
use Rattle.quilt_types.specs.Segments.{square, meets}

-- the whole square has no parent
abbrev pub is_whole : ℕ → Block → Bool
is_whole n b = b.side == side n

-- Regions and points: the maximal blocks that pass a test.

-- the block passes, and it is the whole square or its parent does not
abbrev pub is_maximal : ℕ → (Block → Bool) → Block → Bool
is_maximal n fits b = fits b && (is_whole n b || not (fits (parent_of b)))

-- by y and then x
unfoldable pub maximal_blocks : ℕ → (Block → Bool) → List Block
maximal_blocks n fits = filter (is_maximal n fits) (blocks n)

-- Regions: blocks of one colour.

-- all pixels of the block have the colour of its first
abbrev pub is_uniform : ℕ → Grid → Block → Bool
is_uniform n g b = list_all (λ p. colour_at n g p == colour_at n g (corner b)) (pixels_of b)

-- the block with the colour of its first pixel
abbrev pub coloured : ℕ → Grid → Block → Block × ℕ
coloured n g b = (b, colour_at n g (corner b))

-- the maximal blocks with their colours, by y and then x
unfoldable pub leaves : ℕ → Grid → List (Block × ℕ)
leaves n g = map (coloured n g) (maximal_blocks n (is_uniform n g))

-- Points: blocks with at most so many.

-- how many of the points lie in the block
abbrev pub occupancy : PointMap → Block → ℕ
occupancy points b = count_by (λ e. in_block b e.0) (finmap.entries points)

-- the block holds no more points than the capacity
abbrev pub holds_few : ℕ → PointMap → Block → Bool
holds_few capacity points b = nat_le (occupancy points b) capacity

-- the blocks of a point layer, by y and then x: the maximal blocks that hold no more points than the capacity
unfoldable pub point_blocks : ℕ → ℕ → PointMap → List Block
point_blocks n capacity points = maximal_blocks n (holds_few capacity points)

-- Lines: a set of blocks that edits change.

-- how many segments meet the block's closed square
abbrev pub segs_meeting : SegMap → Block → ℕ
segs_meeting segs b = count_by (λ e. meets e.1 (square b)) (finmap.entries segs)

-- the segment meets the block, the block has more than one pixel, and more segments than the threshold t meet it
abbrev pub is_split : ℕ → SegMap → Seg → Block → Bool
is_split t segs s b = meets s (square b) && nat_lt 1 b.side && nat_lt t (segs_meeting segs b)

-- the set after the segment s came, which segs holds already: a block that it overfills is cut once
unfoldable pub after_add : ℕ → SegMap → BlockSet → Seg → BlockSet
after_add t segs cover s =
    finset.from_list (flat_map (λ b. if is_split t segs s b then quarters_of b else b ∷ []) (finset.items cover))

-- the segment meets the block, the four quarters are blocks of the set, and no more segments than the threshold t meet the block
abbrev pub is_merged : ℕ → SegMap → BlockSet → Seg → Block → Bool
is_merged t segs cover s b =
    meets s (square b) && list_all (finset.contains cover) (quarters_of b) && nat_le (segs_meeting segs b) t

-- the set with the block in place of its four quarters, where they are merged; else the set as it is
abbrev pub merge : ℕ → SegMap → Seg → BlockSet → Block → BlockSet
merge t segs s cover b =
    if is_merged t segs cover s b then finset.insert (fold finset.remove cover (quarters_of b)) b else cover

-- the blocks of one side
abbrev pub blocks_of_side : ℕ → ℕ → List Block
blocks_of_side n s = filter (λ b. b.side == s) (blocks n)

-- the set after the segment s went, which segs no longer holds: from the smallest side up
unfoldable pub after_remove : ℕ → ℕ → SegMap → BlockSet → Seg → BlockSet
after_remove n t segs cover s =
    fold (λ now k. fold (merge t segs s) now (blocks_of_side n (side k))) cover (range_with_len 1 n)

-- a block of the set, or one that holds such a block
abbrev pub is_reached : BlockSet → Block → Bool
is_reached cover b = list_any (λ c. in_block b (record { x = c.x; y = c.y }) && nat_le c.side b.side) (finset.items cover)

-- the pages that the blocks of a test may cost a look at the layer
unfoldable pub reach : ℕ → SegMap → BlockSet → (Block → Bool) → ℕ
reach n segs cover counts =
    sum_by (λ b. if finset.contains cover b then 12 + 6 * segs_meeting segs b else 12)
    (filter (λ b. counts b && is_reached cover b) (blocks n))
