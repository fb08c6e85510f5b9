use Rattle.std.proofs.Common.{◌≡◌, ◌≤◌, ◌+◌, ℕ, List, cond, map, sym, ◌∙◌, subst}
use Rattle.std.specs.Prelude.{count_by, ◌==◌}
use Rattle.quilt_types.specs.Sets as finset
use Rattle.quilt_types.specs.declared.plane.Kind.{Kind}
use Rattle.quilt_types.specs.declared.plane.Kind.TheVariants as kinds
use Rattle.quilt_types.specs.Layers.{Layer, Region, Points, Lines, Grid, PointMap, SegMap, BlockSet}
use Rattle.quilt_types.specs.Plane.{side}
use Rattle.quilt_types.specs.Quadtrees.{leaves, point_blocks}
use Rattle.quilt_world.specs.Tale.{Goes}
use Rattle.quilt_world.specs.declared.disk.Disk as disk
use Rattle.quilt_measure.proofs.Sums.{sum_by-map_is}
use Rattle.quilt_region.specs.Regions.{HasRegion}
use Rattle.quilt_points.specs.Layers.{HasPoints}
use Rattle.quilt_lines.specs.Layers.{HasLines}
use Rattle.quilt_store.specs.Stops.{IsNotDamage}
use Rattle.quilt_spell.specs.Catalogued.{kind_of}
use Rattle.quilt_edition.specs.declared.book.Book.{Book}
use Rattle.quilt_replies.specs.Answers.{sides_of}
use Rattle.quilt_replies.specs.Bodies.{HasCounts}
use Rattle.quilt_map.specs.Asking.{reads_in}
use Rattle.quilt_map.specs.Costs.{layer_block_pages}
use Rattle.quilt_map.specs.HeldLayers.{HoldsLayer}
use Rattle.quilt_map.specs.Sessions.{told_of, tree_in}
use Rattle.quilt_map.proofs.answers.Asked.{if_ok, if_err}
use Rattle.quilt_map.proofs.block_count.count_blocks.Goals as goal

sides_counted : {X : Type 0} (f : X → ℕ) (k : ℕ) (xs : List X) → count_by (λ x. f x == side k) xs ≡ count_by (λ s. s == side k) (map f xs)
sides_counted f k xs = sym (sum_by-map_is (λ s. cond {A = ℕ} (s == side k) 1 0) f xs)

-- what is said of each layer of a kind that may be held under a number is said of the one that is held
module _ {W : Type 0} {D : disk.Ghosts W} (b : Book W D) (number : ℕ) (T : Layer → Type 0) where
  abbrev OfKind : Kind → Type 0
  OfKind kinds.Region = (grid : Grid) → HasRegion (told_of b) (tree_in b.work) number b.work.level grid → T (Region grid)
  OfKind (kinds.Points bucket) = (points : PointMap) → HasPoints (told_of b) (tree_in b.work) number b.work.level bucket points → T (Points bucket points)
  OfKind (kinds.Lines most) =
      (segs : SegMap) (cover : BlockSet) → HasLines (told_of b) (tree_in b.work) number b.work.level most segs cover → T (Lines most segs cover)

  held_layer : (layer : Layer) → OfKind (kind_of layer) → HoldsLayer b number layer → T layer
  held_layer (Region grid) said has = said grid has
  held_layer (Points capacity points) said has = said points has
  held_layer (Lines threshold segs cover) said has = said segs cover has

  held : (kind k : Kind) → kind ≡ k → OfKind k → (layer : Layer) → kind ≡ kind_of layer → HoldsLayer b number layer → T layer
  held kind k is said layer of_layer = held_layer layer (subst OfKind (sym is ∙ of_layer) said)

pub returns-in-Region-clause-counts : goal.returns-in-Region-clause-counts
returns-in-Region-clause-counts g c =
    let n = c.args.book.now.work.level in
    if_ok _ _ c.region_counts.result (λ counts h.
    held {D = g.W.Disk} c.args.book.now c.args.number (λ l. HasCounts counts (sides_of n l)) c.args.kind kinds.Region c.in-Region.is
    (λ grid has. record { each = λ k le. h grid has k le ∙ sides_counted _ k (leaves n grid) })) c.region_counts.ensures.counts

pub returns-in-Region-clause-sound : goal.returns-in-Region-clause-sound
returns-in-Region-clause-sound g c =
    if_err _ _ c.region_counts.result (λ e h layer is some.
    held {D = g.W.Disk} c.args.book.now c.args.number (λ l. IsNotDamage e) c.args.kind kinds.Region c.in-Region.is (λ grid. h grid some) layer is) c.region_counts.ensures.sound

pub returns-in-Region-clause-reads : goal.returns-in-Region-clause-reads
returns-in-Region-clause-reads g c =
    let b = c.args.book.now in
    if_ok _ _ c.region_counts.result (λ counts.
    held {D = g.W.Disk} b c.args.number (λ l. Goes {A = ℕ} (λ old new. new ≤ old + layer_block_pages b.work.level l) (reads_in {D = g.W.Disk} b)
    (reads_in {D = g.W.Disk} c.region_counts.new.book)) c.args.kind kinds.Region c.in-Region.is) c.region_counts.ensures.reads

pub returns-in-Points-clause-counts : goal.returns-in-Points-clause-counts
returns-in-Points-clause-counts g c =
    let n = c.args.book.now.work.level in
    if_ok _ _ c.point_counts.result (λ counts h.
    held {D = g.W.Disk} c.args.book.now c.args.number (λ l. HasCounts counts (sides_of n l)) c.args.kind (kinds.Points c.in-Points.bucket) c.in-Points.is
    (λ points has. record { each = λ k le. h points has k le ∙ sides_counted _ k (point_blocks n c.in-Points.bucket points) })) c.point_counts.ensures.counts

pub returns-in-Points-clause-sound : goal.returns-in-Points-clause-sound
returns-in-Points-clause-sound g c =
    if_err _ _ c.point_counts.result (λ e h layer is some.
    held {D = g.W.Disk} c.args.book.now c.args.number (λ l. IsNotDamage e) c.args.kind (kinds.Points c.in-Points.bucket) c.in-Points.is (λ points. h points some) layer is) c.point_counts.ensures.sound

pub returns-in-Points-clause-reads : goal.returns-in-Points-clause-reads
returns-in-Points-clause-reads g c =
    let b = c.args.book.now in
    if_ok _ _ c.point_counts.result (λ counts.
    held {D = g.W.Disk} b c.args.number (λ l. Goes {A = ℕ} (λ old new. new ≤ old + layer_block_pages b.work.level l) (reads_in {D = g.W.Disk} b)
    (reads_in {D = g.W.Disk} c.point_counts.new.book)) c.args.kind (kinds.Points c.in-Points.bucket) c.in-Points.is) c.point_counts.ensures.reads

pub returns-in-Lines-clause-counts : goal.returns-in-Lines-clause-counts
returns-in-Lines-clause-counts g c =
    let n = c.args.book.now.work.level in
    if_ok _ _ c.line_counts.result (λ counts h.
    held {D = g.W.Disk} c.args.book.now c.args.number (λ l. HasCounts counts (sides_of n l)) c.args.kind (kinds.Lines c.in-Lines.threshold) c.in-Lines.is
    (λ segs cover has. record { each = λ k le. h segs cover has k le ∙ sides_counted _ k (finset.items cover) })) c.line_counts.ensures.counts

pub returns-in-Lines-clause-sound : goal.returns-in-Lines-clause-sound
returns-in-Lines-clause-sound g c =
    if_err _ _ c.line_counts.result (λ e h layer is some.
    held {D = g.W.Disk} c.args.book.now c.args.number (λ l. IsNotDamage e) c.args.kind (kinds.Lines c.in-Lines.threshold) c.in-Lines.is (λ segs cover. h segs cover some) layer is) c.line_counts.ensures.sound

pub returns-in-Lines-clause-reads : goal.returns-in-Lines-clause-reads
returns-in-Lines-clause-reads g c =
    let b = c.args.book.now in
    if_ok _ _ c.line_counts.result (λ counts.
    held {D = g.W.Disk} b c.args.number (λ l. Goes {A = ℕ} (λ old new. new ≤ old + layer_block_pages b.work.level l) (reads_in {D = g.W.Disk} b)
    (reads_in {D = g.W.Disk} c.line_counts.new.book)) c.args.kind (kinds.Lines c.in-Lines.threshold) c.in-Lines.is) c.line_counts.ensures.reads
