use Rattle.std.proofs.lemmas.Bool.{both_ways}
use Rattle.std.specs.Prelude.{◌≡◌, ◌≤◌, ◌+◌, ◌==◌, ℕ, count_by, slice_index}
use Rattle.quilt_types.specs.Sets as finset
use Rattle.quilt_types.specs.declared.plane.Block.{Block}
use Rattle.quilt_types.specs.Layers.{SegMap, BlockSet}
use Rattle.quilt_types.specs.Plane.{side}
use Rattle.quilt_node.specs.declared.head.Head.{Head}
use Rattle.quilt_store.specs.Stops.{IsNotDamage}
use Rattle.quilt_types.specs.Layers.{Lines}
use Rattle.quilt_world.specs.Tale.{Goes}
use Rattle.quilt_map.specs.Asking.{reads_in}
use Rattle.quilt_map.specs.Costs.{layer_block_pages}
use Rattle.quilt_map.proofs.answers.Asked.{still_here, if_ok, if_err}
use Rattle.quilt_map.proofs.plans.LinePlans.{lines_said}
use Rattle.quilt_map.proofs.lines.line_counts.Goals as goal

pub returns-then-not-can_be-clause-still : goal.returns-then-not-can_be-clause-still
returns-then-not-can_be-clause-still g c = still_here {D = g.W.Disk} c.args.book.now

pub returns-then-not-can_be-clause-sound : goal.returns-then-not-can_be-clause-sound
returns-then-not-can_be-clause-sound g c = λ segs cover least has. let valid = has.spelled.valid in
    absurd (both_ways c.can_be.result c.if-not-can_be.true (c.can_be.ensures.no least valid.least valid.most))

pub returns-clause-counts : goal.returns-clause-counts
returns-clause-counts g c =
    if_ok _ _ c.block_counts.result (λ counts h.
    lines_said {D = g.W.Disk} c.args.book.now c.args.layer c.head-head.result c.tree_of.result c.head-head.ensures.work c.tree_of.ensures
    (λ (x : Head) (segs : SegMap) (cover : BlockSet). (k : ℕ) → k ≤ 12
    → slice_index counts k ≡ count_by (λ (b : Block). b.side == side k) (finset.items cover)) (h c.args.layer.threshold)) c.block_counts.ensures.counts

pub returns-clause-sound : goal.returns-clause-sound
returns-clause-sound g c =
    if_err _ _ c.block_counts.result (λ e h segs cover least has.
    lines_said {D = g.W.Disk} c.args.book.now c.args.layer c.head-head.result c.tree_of.result c.head-head.ensures.work c.tree_of.ensures
    (λ (x : Head) (all : SegMap) (blocks : BlockSet). IsNotDamage e) (h c.args.layer.threshold) segs cover has) c.block_counts.ensures.sound

pub returns-clause-reads : goal.returns-clause-reads
returns-clause-reads g c =
    if_ok _ _ c.block_counts.result (λ counts h.
    lines_said {D = g.W.Disk} c.args.book.now c.args.layer c.head-head.result c.tree_of.result c.head-head.ensures.work c.tree_of.ensures
    (λ (x : Head) (segs : SegMap) (cover : BlockSet). Goes {A = ℕ} (λ old new. new ≤ old + layer_block_pages x.level (Lines c.args.layer.threshold segs cover))
    (reads_in {D = g.W.Disk} c.args.book.now) (reads_in {D = g.W.Disk} c.block_counts.new.store)) (h c.args.layer.threshold)) c.block_counts.ensures.reads
