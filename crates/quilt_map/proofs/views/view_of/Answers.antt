use Rattle.quilt_map.proofs.questions.ShownLines.{shown}
use Rattle.quilt_map.proofs.views.view_of.Goals as goal

pub returns-clause-shows : goal.returns-clause-shows
returns-clause-shows g c =
    shown {D = g.W.Disk} c.args.book.now c.args.layer c.new.result c.head-head.result c.tree_of.result c.head-head.ensures.work c.tree_of.ensures
    c.new.ensures.tree c.new.ensures.layer c.new.ensures.level c.head-head.ensures.numbers
