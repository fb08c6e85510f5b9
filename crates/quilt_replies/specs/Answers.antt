-- The reply to each command, the work that it leaves, and the edition that it gives.
use Rattle.std.specs.Prelude.{ℕ, ◌+◌, ◌/◌, ◌%◌, Bool, true, false, ◌&&◌, ◌||◌, not, ◌==◌, nat_le, nat_lt, List, [], ◌∷◌, ◌++◌, map, filter, fold, flat_map}
use Rattle.std.specs.Prelude.{count_by, reverse, length, ◌*◌, Option, Some, None, is_some, is_none, option_map, if◌then◌else◌, codes, decimal, unwrap_or}
use Rattle.std.specs.List.{list_any}
use Rattle.std.specs.FinMap as finmap
use Rattle.quilt_types.specs.Sets as finset
use Rattle.quilt_types.specs.declared.plane.Pixel.{Pixel}
use Rattle.quilt_types.specs.declared.plane.Window.{Window}
use Rattle.quilt_types.specs.declared.plane.Block.{Block}
use Rattle.quilt_types.specs.declared.plane.Seg.{Seg}
use Rattle.quilt_types.specs.declared.plane.Point.{Point}
use Rattle.quilt_types.specs.Plane.{side, below, pixels, is_pixel, is_window, in_window}
use Rattle.quilt_types.specs.Layers.{is_in_square, Layer, Region, Points, Lines, Map, Grid, PointMap, SegMap, BlockSet, colour_at}
use Rattle.quilt_types.specs.Fractions.{Fraction}
use Rattle.quilt_types.specs.Segments.{meets, clip_range, nearest}
use Rattle.quilt_types.specs.Quadtrees.{leaves, point_blocks, after_add, after_remove}
use Rattle.quilt_types.specs.Facts.{records}
use Rattle.quilt_types.specs.Polygons.{filled_rings, is_corner}
use Rattle.quilt_types.specs.Ranking.{ranked}
use Rattle.quilt_types.specs.Crossings.{crossings}
use Rattle.quilt_types.specs.Algebra.{uniform, painted, union, intersection, difference, recoloured, cut_to, shifted, buffered, area, perimeter}
use Rattle.quilt_types.specs.Layers.{Edition}
use Rattle.quilt_types.specs.declared.code.Code.{Code}
use Rattle.quilt_types.specs.declared.code.Code.TheVariants as no
use Rattle.quilt_words.specs.declared.command.Command.{Command}
use Rattle.quilt_words.specs.declared.command.Command.TheVariants as commands
use Rattle.quilt_lang.specs.Trials.{spaced}

-- the lines of the body, or the code of a refusal
pub data Reply : Type 0 where
  Done : (body : List (List ℕ)) → Reply
  Refused : (code : Code) → Reply

-- what a command comes to: its reply, the work after it, and the edition that it published, if it did
pub record Outcome : Type 0 where
  pub reply : Reply
  pub work : Map
  pub published : Option Edition

-- how full the work may be, the last edition, and the work
pub record State : Type 0 where
  pub quota : ℕ
  pub last : Edition
  pub work : Map

-- the first of these tests that holds refuses, and then nothing changes
abbrev pub unless : List (Bool × Code) → State → Outcome → Outcome
unless [] s done = done
unless (r ∷ rs) s done = if r.0 then record { reply = Refused r.1; work = s.work; published = None } else unless rs s done

-- an answer that changes nothing
abbrev pub told : State → List (List ℕ) → Outcome
told s body = record { reply = Done body; work = s.work; published = None }

-- an answer with no body, and the new work
abbrev pub changed : Map → Outcome
changed work = record { reply = Done []; work = work; published = None }

-- Tests.

-- the layer of the work under this name, if there is one
abbrev pub layer : State → List ℕ → Option Layer
layer s a = finmap.get s.work a

-- the work has no layer of this name: refusal `unknown`
abbrev pub unknown : State → List ℕ → Bool × Code
unknown s a = (is_none (layer s a), no.Unknown)

-- there is a layer, and it is a region layer
abbrev pub is_region : Option Layer → Bool
is_region (Some (Region g)) = true
is_region l = false

-- there is a layer, and it is a point layer
abbrev pub is_points : Option Layer → Bool
is_points (Some (Points b p)) = true
is_points l = false

-- there is a layer, and it is a line layer
abbrev pub is_lines : Option Layer → Bool
is_lines (Some (Lines t segs cover)) = true
is_lines l = false

-- the layer of this name is no region layer: refusal `kind`
abbrev pub unless_region : State → List ℕ → Bool × Code
unless_region s a = (not (is_region (layer s a)), no.Kind)

-- the layer of this name is no point layer: refusal `kind`
abbrev pub unless_points : State → List ℕ → Bool × Code
unless_points s a = (not (is_points (layer s a)), no.Kind)

-- the layer of this name is no line layer: refusal `kind`
abbrev pub unless_lines : State → List ℕ → Bool × Code
unless_lines s a = (not (is_lines (layer s a)), no.Kind)

-- the work has a layer of this name already: refusal `exists`
abbrev pub exists : State → List ℕ → Bool × Code
exists s c = (is_some (layer s c), no.Exists)

-- the work has 255 layers: refusal `layers`
abbrev pub too_many : State → Bool × Code
too_many s = (nat_le 255 (finmap.len s.work), no.Layers)

-- the pixel does not lie in the square of the map: refusal `outside`
abbrev pub outside : State → Pixel → Bool × Code
outside s p = (not (is_pixel s.last.level p), no.Outside)

-- the window has no pixel, or does not lie in the square of the map: refusal `outside`
abbrev pub window_outside : State → Window → Bool × Code
window_outside s w = (not (is_window s.last.level w), no.Outside)

-- the work would have more records than the quota: refusal `full`
abbrev pub full : State → Map → Bool × Code
full s work = (nat_lt s.quota (records s.last.level work), no.Full)

-- What layers are.

-- the colours of a region layer; none of another
abbrev pub grid_in : Option Layer → Grid
grid_in (Some (Region g)) = g
grid_in l = []

-- the points of a point layer; none of another
abbrev pub points_in : Option Layer → PointMap
points_in (Some (Points b p)) = p
points_in l = finmap.empty

-- how many points a block of a point layer holds at most; 1 of another
abbrev pub capacity_in : Option Layer → ℕ
capacity_in (Some (Points b p)) = b
capacity_in l = 1

-- how many segments may meet a block of a line layer before it is cut; 0 of another
abbrev pub threshold_in : Option Layer → ℕ
threshold_in (Some (Lines t segs cover)) = t
threshold_in l = 0

-- the segments of a line layer; none of another
abbrev pub segs_in : Option Layer → SegMap
segs_in (Some (Lines t segs cover)) = segs
segs_in l = finmap.empty

-- the blocks of a line layer; none of another
abbrev pub cover_in : Option Layer → BlockSet
cover_in (Some (Lines t segs cover)) = cover
cover_in l = finset.empty

-- the colours of the region layer of this name
abbrev pub grid : State → List ℕ → Grid
grid s a = grid_in (layer s a)

-- the work with this layer under the name
abbrev pub with : State → List ℕ → Layer → Map
with s a l = finmap.insert s.work a l

-- Bodies.

-- the side of each block of a layer, in pixels
abbrev pub sides_of : ℕ → Layer → List ℕ
sides_of n (Region g) = map (λ l. l.0.side) (leaves n g)
sides_of n (Points capacity p) = map (λ b. b.side) (point_blocks n capacity p)
sides_of n (Lines t segs cover) = map (λ b. b.side) (finset.items cover)

-- a line for each side that occurs, the greatest first
abbrev pub block_lines : ℕ → List ℕ → List (List ℕ)
block_lines n sides =
    flat_map (λ k. let here = count_by (λ s. s == side k) sides in if here == 0 then [] else spaced (decimal (side k) ∷ decimal here ∷ []) ∷ [])
    (reverse (below (n + 1)))

-- the words that tell a layer's kind: a capacity only where it is more than 1, and a threshold always
abbrev pub kind_words : Layer → List (List ℕ)
kind_words (Region g) = codes "region" ∷ []
kind_words (Points capacity p) = codes "points" ∷ (if capacity == 1 then [] else decimal capacity ∷ [])
kind_words (Lines t segs cover) = codes "lines" ∷ decimal t ∷ []

-- the line of a layer: its name and the words of its kind
abbrev pub layer_line : List ℕ × Layer → List ℕ
layer_line e = spaced (e.0 ∷ kind_words e.1)

-- a digit of base 16
abbrev pub hex : ℕ → ℕ
hex d = if nat_lt d 10 then d + 48 else d + 87

-- two digits in format 1, and four in format 2
abbrev pub digits_of : ℕ → ℕ → List ℕ
digits_of f c =
    if f == 1 then hex (c / 16) ∷ hex (c % 16) ∷ []
    else hex (c / 4096) ∷ hex (c / 256 % 16) ∷ hex (c / 16 % 16) ∷ hex (c % 16) ∷ []

-- the line of row dy of a window, counted from its uppermost: the digits of each pixel's colour, from the left
abbrev pub row_line : ℕ → ℕ → Grid → Window → ℕ → List ℕ
row_line f n g w dy =
    flat_map (λ dx. digits_of f (colour_at n g (record { x = w.x + dx; y = w.y + dy }))) (below w.w)

-- the line of a maximal block: x, y, side and colour
abbrev pub leaf_line : Block × ℕ → List ℕ
leaf_line l = spaced (decimal l.0.x ∷ decimal l.0.y ∷ decimal l.0.side ∷ decimal l.1 ∷ [])

-- the line of a point: x, y and label
abbrev pub point_line : Pixel × ℕ → List ℕ
point_line e = spaced (decimal e.0.x ∷ decimal e.0.y ∷ decimal e.1 ∷ [])

-- the line of a segment: its id, and x and y of both ends
abbrev pub seg_line : ℕ × Seg → List ℕ
seg_line e = spaced (decimal e.0 ∷ decimal e.1.x1 ∷ decimal e.1.y1 ∷ decimal e.1.x2 ∷ decimal e.1.y2 ∷ [])

-- the numerator, `/` and the denominator, in decimal
abbrev pub fraction : Fraction → List ℕ
fraction t = decimal t.num ++ 47 ∷ decimal t.den

-- the line of a segment, where some of it lies in the window
abbrev pub range_lines : ℕ → Option (Fraction × Fraction) → List (List ℕ)
range_lines id None = []
range_lines id (Some ends) = spaced (decimal id ∷ fraction ends.0 ∷ fraction ends.1 ∷ []) ∷ []

-- the line of a segment's id with both ends of its part in the window, where it meets the window
abbrev pub clip_lines : Window → ℕ × Seg → List (List ℕ)
clip_lines w e = range_lines e.0 (clip_range e.1 w)

-- the line of the nearest segment: its id and its squared distance
abbrev pub nearest_lines : Option (ℕ × Fraction) → List (List ℕ)
nearest_lines None = []
nearest_lines (Some e) = spaced (decimal e.0 ∷ fraction e.1 ∷ []) ∷ []

-- the segment meets the closed unit square of a pixel that is not background
abbrev pub is_over : ℕ → Grid → Seg → Bool
is_over n g s =
    list_any (λ p. not (colour_at n g p == 0) && meets s (record { x = p.x; y = p.y; w = 1; h = 1 })) (pixels n)

-- two list lines name one pixel, or a point is there already
abbrev pub collide : PointMap → List Point → Bool
collide points [] = false
collide points (p ∷ ps) = is_some (finmap.get points p.at) || collide (finmap.insert points p.at p.label) ps

-- the points with these put, one after another
abbrev pub with_points : PointMap → List Point → PointMap
with_points points ps = fold (λ now p. finmap.insert now p.at p.label) points ps

-- a line for each of these segments with its distance
abbrev pub ranked_line : ℕ × Fraction → List ℕ
ranked_line e = spaced (decimal e.0 ∷ fraction e.1 ∷ [])

-- the line of a pair of segments: both ids
abbrev pub pair_line : ℕ × ℕ → List ℕ
pair_line e = spaced (decimal e.0 ∷ decimal e.1 ∷ [])

-- the colours that these bytes are, two each, the high one first
abbrev pub colours_of_bytes : List ℕ → List ℕ
colours_of_bytes (high ∷ low ∷ bytes) = (256 * high + low) ∷ colours_of_bytes bytes
colours_of_bytes bytes = []

-- a block of more than one point cannot be written in format 1
abbrev pub unless_written : State → ℕ → Bool × Code
unless_written s capacity = ((s.last.format == 1) && nat_lt 1 capacity, no.Format)

-- The layer stands under the name, unless these tests or the quota refuse it.
abbrev pub makes : State → List (Bool × Code) → List ℕ → Layer → Outcome
makes s refusals c l =
    let work = with s c l in unless (refusals ++ full s work ∷ []) s (changed work)

-- the edition that `publish` gives: the work under the next number, in the same format and level
abbrev pub edition_after : State → Edition
edition_after s = record { format = s.last.format; number = s.last.number + 1; level = s.last.level; layers = s.work }

-- the same in format 2
abbrev pub upgraded : State → Edition
upgraded s = record { format = 2; number = s.last.number + 1; level = s.last.level; layers = s.work }

-- the last edition has the greatest number, 2^32 - 1: refusal `editions`
abbrev pub no_more_editions : State → Bool × Code
no_more_editions s = (s.last.number == 4294967295, no.Editions)

-- the edition is published
abbrev pub publishes_it : State → Edition → Outcome
publishes_it s edition = record {
  reply = Done (spaced (codes "edition" ∷ decimal edition.number ∷ []) ∷ []);
  work = s.work;
  published = Some edition;
}

-- what each command comes to in a state: its reply, the work after it, and the edition that it gives
unfoldable pub answer : State → Command → Outcome
answer s (commands.Region a c) = makes s (exists s a ∷ too_many s ∷ []) a (Region (uniform s.last.level c.0))
answer s (commands.Points p b) = makes s (exists s p ∷ too_many s ∷ unless_written s b ∷ []) p (Points b finmap.empty)
answer s (commands.Lines l t) =
    makes s (exists s l ∷ too_many s ∷ []) l
    (Lines t finmap.empty (finset.insert finset.empty (record { x = 0; y = 0; side = side s.last.level })))
answer s (commands.Drop a) = unless (unknown s a ∷ []) s (changed (finmap.remove s.work a))
answer s (commands.Copy a b) =
    makes s (unknown s a ∷ exists s b ∷ too_many s ∷ []) b (unwrap_or (layer s a) (Region []))
answer s commands.Layers = told s (map layer_line (finmap.entries s.work))
answer s (commands.Blocks a) =
    unless (unknown s a ∷ []) s (told s (block_lines s.last.level (unwrap_or (option_map (sides_of s.last.level) (layer s a)) [])))
answer s commands.Records =
    told s (spaced (decimal (records s.last.level s.work) ∷ codes "of" ∷ decimal s.quota ∷ []) ∷ [])
answer s (commands.Set a at c) =
    makes s (unknown s a ∷ unless_region s a ∷ outside s at ∷ []) a
    (Region (painted s.last.level (grid s a) (record { x = at.x; y = at.y; w = 1; h = 1 }) c.0))
answer s (commands.Rect a w c) =
    makes s (unknown s a ∷ unless_region s a ∷ window_outside s w ∷ []) a (Region (painted s.last.level (grid s a) w c.0))
answer s (commands.Raster a rows) =
    makes s (unknown s a ∷ unless_region s a ∷ (is_none rows, no.Rows) ∷ []) a (Region (colours_of_bytes (unwrap_or rows [])))
answer s (commands.At a at) =
    unless (unknown s a ∷ unless_region s a ∷ outside s at ∷ []) s
    (told s (decimal (colour_at s.last.level (grid s a) at) ∷ []))
answer s (commands.Show a w) =
    unless (unknown s a ∷ unless_region s a ∷ window_outside s w ∷ []) s
    (told s (map (row_line s.last.format s.last.level (grid s a) w) (below w.h)))
answer s (commands.Leaves a) =
    unless (unknown s a ∷ unless_region s a ∷ []) s (told s (map leaf_line (leaves s.last.level (grid s a))))
answer s (commands.Union a b c) =
    makes s (unknown s a ∷ unknown s b ∷ unless_region s a ∷ unless_region s b ∷ exists s c ∷ too_many s ∷ []) c
    (Region (union s.last.level (grid s a) (grid s b)))
answer s (commands.Inter a b c) =
    makes s (unknown s a ∷ unknown s b ∷ unless_region s a ∷ unless_region s b ∷ exists s c ∷ too_many s ∷ []) c
    (Region (intersection s.last.level (grid s a) (grid s b)))
answer s (commands.Diff a b c) =
    makes s (unknown s a ∷ unknown s b ∷ unless_region s a ∷ unless_region s b ∷ exists s c ∷ too_many s ∷ []) c
    (Region (difference s.last.level (grid s a) (grid s b)))
answer s (commands.Recolour a c pairs) =
    makes s (unknown s a ∷ unless_region s a ∷ exists s c ∷ too_many s ∷ []) c
    (Region (recoloured s.last.level (grid s a) (map (λ p. (p.0.0, p.1.0)) pairs)))
answer s (commands.Window a w c) =
    makes s (unknown s a ∷ unless_region s a ∷ exists s c ∷ too_many s ∷ window_outside s w ∷ []) c
    (Region (cut_to s.last.level (grid s a) w))
answer s (commands.Shift a dx dy c) =
    makes s (unknown s a ∷ unless_region s a ∷ exists s c ∷ too_many s ∷ []) c (Region (shifted s.last.level (grid s a) dx dy))
answer s (commands.Buffer a r c) =
    makes s (unknown s a ∷ unless_region s a ∷ exists s c ∷ too_many s ∷ []) c (Region (buffered s.last.level (grid s a) r))
answer s (commands.Area a c) =
    unless (unknown s a ∷ unless_region s a ∷ []) s (told s (decimal (area (grid s a) c.0) ∷ []))
answer s (commands.Perimeter a c) =
    unless (unknown s a ∷ unless_region s a ∷ []) s (told s (decimal (perimeter s.last.level (grid s a) c.0) ∷ []))
answer s (commands.Put p at label) =
    makes s (unknown s p ∷ unless_points s p ∷ outside s at ∷ (is_some (finmap.get (points_in (layer s p)) at), no.Present) ∷ []) p
    (Points (capacity_in (layer s p)) (finmap.insert (points_in (layer s p)) at label))
answer s (commands.Del p at) =
    unless (unknown s p ∷ unless_points s p ∷ outside s at ∷ (is_none (finmap.get (points_in (layer s p)) at), no.Absent) ∷ []) s
    (changed (with s p (Points (capacity_in (layer s p)) (finmap.remove (points_in (layer s p)) at))))
answer s (commands.Scatter p points) =
    let ps = unwrap_or points [] in
    makes s (
    unknown s p ∷ unless_points s p ∷ (is_none points, no.Rows)
    ∷ (list_any (λ q. not (is_pixel s.last.level q.at)) ps, no.Outside)
    ∷ (collide (points_in (layer s p)) ps, no.Present) ∷ []) p
    (Points (capacity_in (layer s p)) (with_points (points_in (layer s p)) ps))
answer s (commands.Find p at) =
    let found = finmap.get (points_in (layer s p)) at in
    unless (unknown s p ∷ unless_points s p ∷ outside s at ∷ (is_none found, no.Absent) ∷ []) s (told s (decimal (unwrap_or found 0) ∷ []))
answer s (commands.Within p w) =
    unless (unknown s p ∷ unless_points s p ∷ window_outside s w ∷ []) s
    (told s (map point_line (filter (λ e. in_window w e.0) (finmap.entries (points_in (layer s p))))))
answer s (commands.Line l id seg) =
    let t = threshold_in (layer s l) in
    let segs = finmap.insert (segs_in (layer s l)) id seg in
    makes s (
    unknown s l ∷ unless_lines s l ∷ (not (is_in_square s.last.level seg), no.Outside)
    ∷ (is_some (finmap.get (segs_in (layer s l)) id), no.Present) ∷ []) l
    (Lines t segs (after_add t segs (cover_in (layer s l)) seg))
answer s (commands.Unline l id) =
    let t = threshold_in (layer s l) in
    let segs = finmap.remove (segs_in (layer s l)) id in
    let gone = finmap.get (segs_in (layer s l)) id in
    let seg = unwrap_or gone (record { x1 = 0; y1 = 0; x2 = 0; y2 = 0 }) in
    unless (unknown s l ∷ unless_lines s l ∷ (is_none gone, no.Absent) ∷ []) s
    (changed (with s l (Lines t segs (after_remove s.last.level t segs (cover_in (layer s l)) seg))))
answer s (commands.Cross l w) =
    unless (unknown s l ∷ unless_lines s l ∷ window_outside s w ∷ []) s
    (told s (map seg_line (filter (λ e. meets e.1 w) (finmap.entries (segs_in (layer s l))))))
answer s (commands.Clip l w) =
    unless (unknown s l ∷ unless_lines s l ∷ window_outside s w ∷ []) s
    (told s (flat_map (clip_lines w) (finmap.entries (segs_in (layer s l)))))
answer s (commands.Nearest l at) =
    let found = nearest (segs_in (layer s l)) at in
    unless (unknown s l ∷ unless_lines s l ∷ outside s at ∷ (is_none found, no.Absent) ∷ []) s (told s (nearest_lines found))
answer s (commands.Over l a) =
    unless (unknown s l ∷ unknown s a ∷ unless_lines s l ∷ unless_region s a ∷ []) s
    (told s (map (λ e. decimal e.0) (filter (λ e. is_over s.last.level (grid s a) e.1) (finmap.entries (segs_in (layer s l))))))
answer s commands.Edition = told s (spaced (codes "edition" ∷ decimal s.last.number ∷ []) ∷ [])
answer s commands.Publish = unless (no_more_editions s ∷ []) s (publishes_it s (edition_after s))
answer s commands.Upgrade =
    unless ((s.last.format == 2, no.Format) ∷ no_more_editions s ∷ []) s (publishes_it s (upgraded s))
answer s commands.Revert = changed s.last.layers
answer s (commands.Polygon c colour rings) =
    let rs = unwrap_or rings [] in
    makes s (
    exists s c ∷ too_many s ∷ (is_none rings, no.Rows)
    ∷ (list_any (list_any (λ k. not (is_corner (side s.last.level) k))) rs, no.Outside) ∷ []) c
    (Region (filled_rings s.last.level rs colour.0))
answer s (commands.Rank l at k) =
    let segs = segs_in (layer s l) in
    unless (unknown s l ∷ unless_lines s l ∷ outside s at ∷ (finmap.len segs == 0, no.Absent) ∷ []) s
    (told s (map ranked_line (ranked segs at k)))
answer s (commands.Crossings l m) =
    let pairs = crossings (segs_in (layer s l)) (segs_in (layer s m)) in
    unless (unknown s l ∷ unknown s m ∷ unless_lines s l ∷ unless_lines s m ∷ (nat_lt 1000000 (length pairs), no.Many) ∷ []) s
    (told s (map pair_line pairs))
