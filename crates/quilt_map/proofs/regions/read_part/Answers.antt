use Rattle.std.proofs.Common.{ap}
use Rattle.quilt_node.specs.declared.head.Head.{Head}
use Rattle.quilt_map.specs.Sessions.{told_of}
use Rattle.quilt_map.specs.Costs.{show_pages}
use Rattle.quilt_map.proofs.questions.Costs.{costs_as}
use Rattle.quilt_map.proofs.answers.Asked.{still_here, has_as, if_err, if_ok}
use Rattle.quilt_map.proofs.answers.Parts.{agrees_at}
use Rattle.quilt_map.proofs.regions.read_part.Goals as goal

pub returns-then-number-eq0-clause-still : goal.returns-then-number-eq0-clause-still
returns-then-number-eq0-clause-still g c = still_here {D = g.W.Disk} c.args.book.now

pub returns-clause-list : goal.returns-clause-list
returns-clause-list g c =
    if_ok _ _ c.read_window.result (λ l h grid has.
    agrees_at c.head-head.result.level c.args.book.now.work.level c.args.w grid l.grid (ap (λ (k : Head). k.level) c.head-head.ensures.work)
    (h grid (has_as (told_of {D = g.W.Disk} c.args.book.now) c.args.number grid c.head-head.result c.args.book.now.work c.tree_of.result
    c.head-head.ensures.work c.tree_of.ensures has))) c.read_window.ensures.list

pub returns-clause-sound : goal.returns-clause-sound
returns-clause-sound g c =
    if_err _ _ c.read_window.result (λ e h grid least has.
    h grid (has_as (told_of {D = g.W.Disk} c.args.book.now) c.args.number grid c.head-head.result c.args.book.now.work c.tree_of.result
    c.head-head.ensures.work c.tree_of.ensures has)) c.read_window.ensures.sound

pub returns-clause-reads : goal.returns-clause-reads
returns-clause-reads g c =
    if_ok _ _ c.read_window.result (λ l h grid side has over.
    costs_as _ _ _ _ (ap (λ (k : Head). show_pages k.level grid side c.args.w) c.head-head.ensures.work)
    (h grid side (has_as (told_of {D = g.W.Disk} c.args.book.now) c.args.number grid c.head-head.result c.args.book.now.work c.tree_of.result
    c.head-head.ensures.work c.tree_of.ensures has) over)) c.read_window.ensures.reads
