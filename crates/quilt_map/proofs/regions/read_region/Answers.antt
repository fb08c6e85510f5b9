use Rattle.std.proofs.Common.{ap}
use Rattle.quilt_node.specs.declared.head.Head.{Head}
use Rattle.quilt_map.specs.Sessions.{told_of}
use Rattle.quilt_types.specs.Layers.{Region}
use Rattle.quilt_map.specs.Costs.{layer_block_pages}
use Rattle.quilt_map.proofs.questions.Costs.{costs_as, range_costs}
use Rattle.quilt_map.proofs.answers.Asked.{still_here, has_as, if_err, if_ok, raster_as}
use Rattle.quilt_map.proofs.regions.read_region.Goals as goal

pub returns-then-number-eq0-clause-still : goal.returns-then-number-eq0-clause-still
returns-then-number-eq0-clause-still g c = still_here {D = g.W.Disk} c.args.book.now

pub returns-clause-list : goal.returns-clause-list
returns-clause-list g c =
    if_ok _ _ c.read_list.result (λ l h grid has.
    raster_as grid c.head-head.result.level c.args.book.now.work.level l (ap (λ (k : Head). k.level) c.head-head.ensures.work)
    (h grid (has_as (told_of {D = g.W.Disk} c.args.book.now) c.args.number grid c.head-head.result c.args.book.now.work c.tree_of.result
    c.head-head.ensures.work c.tree_of.ensures has))) c.read_list.ensures.list

pub returns-clause-sound : goal.returns-clause-sound
returns-clause-sound g c =
    if_err _ _ c.read_list.result (λ e h grid least has.
    h grid (has_as (told_of {D = g.W.Disk} c.args.book.now) c.args.number grid c.head-head.result c.args.book.now.work c.tree_of.result
    c.head-head.ensures.work c.tree_of.ensures has)) c.read_list.ensures.sound

pub returns-clause-reads : goal.returns-clause-reads
returns-clause-reads g c =
    if_ok _ _ c.read_list.result (λ l h grid has.
    costs_as _ _ _ _ (ap (λ (k : Head). layer_block_pages k.level (Region grid)) c.head-head.ensures.work)
    (range_costs _ _ _ (h grid (has_as (told_of {D = g.W.Disk} c.args.book.now) c.args.number grid c.head-head.result c.args.book.now.work c.tree_of.result
    c.head-head.ensures.work c.tree_of.ensures has)))) c.read_list.ensures.reads
