use Rattle.std.proofs.Common.{ap, ◌∙◌}
use Rattle.std.specs.Prelude.{◌==◌, count_by}
use Rattle.quilt_node.specs.declared.head.Head.{Head}
use Rattle.quilt_types.specs.Layers.{Region}
use Rattle.quilt_types.specs.Plane.{side}
use Rattle.quilt_types.specs.Quadtrees.{leaves}
use Rattle.quilt_map.specs.Costs.{layer_block_pages}
use Rattle.quilt_map.specs.Sessions.{told_of}
use Rattle.quilt_map.proofs.questions.Costs.{costs_as}
use Rattle.quilt_map.proofs.answers.Asked.{still_here, has_as, if_err, if_ok}
use Rattle.quilt_map.proofs.regions.region_counts.Goals as goal

pub returns-then-number-eq0-clause-still : goal.returns-then-number-eq0-clause-still
returns-then-number-eq0-clause-still g c = still_here {D = g.W.Disk} c.args.book.now

pub returns-clause-counts : goal.returns-clause-counts
returns-clause-counts g c =
    if_ok _ _ c.leaf_counts.result (λ counts h grid has k le.
    h grid (has_as (told_of {D = g.W.Disk} c.args.book.now) c.args.number grid c.head-head.result c.args.book.now.work c.tree_of.result
    c.head-head.ensures.work c.tree_of.ensures has) k le
    ∙ ap (λ (x : Head). count_by (λ e. e.0.side == side k) (leaves x.level grid)) c.head-head.ensures.work) c.leaf_counts.ensures.counts

pub returns-clause-sound : goal.returns-clause-sound
returns-clause-sound g c =
    if_err _ _ c.leaf_counts.result (λ e h grid least has.
    h grid (has_as (told_of {D = g.W.Disk} c.args.book.now) c.args.number grid c.head-head.result c.args.book.now.work c.tree_of.result
    c.head-head.ensures.work c.tree_of.ensures has)) c.leaf_counts.ensures.sound

pub returns-clause-reads : goal.returns-clause-reads
returns-clause-reads g c =
    if_ok _ _ c.leaf_counts.result (λ counts h grid has.
    costs_as _ _ _ _ (ap (λ (k : Head). layer_block_pages k.level (Region grid)) c.head-head.ensures.work)
    (h grid (has_as (told_of {D = g.W.Disk} c.args.book.now) c.args.number grid c.head-head.result c.args.book.now.work c.tree_of.result
    c.head-head.ensures.work c.tree_of.ensures has))) c.leaf_counts.ensures.reads
