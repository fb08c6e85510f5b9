use Rattle.quilt_lines.specs.Reads.{ids_of}
use Rattle.quilt_map.specs.Sessions.{told_of}
use Rattle.quilt_map.proofs.answers.Asked.{still_here, if_ok, if_err}
use Rattle.quilt_map.proofs.plans.LinePlans.{lines_as}
use Rattle.quilt_map.proofs.questions.ShownLines.{rising_ids}
use Rattle.quilt_map.proofs.views.read_segments.Goals as goal

pub returns-then-layer-eq0-clause-still : goal.returns-then-layer-eq0-clause-still
returns-then-layer-eq0-clause-still g c = still_here {D = g.W.Disk} c.args.book.now

pub returns-clause-segments : goal.returns-clause-segments
returns-clause-segments g c =
    let layer = c.args.layer in
    if_ok _ _ c.scan.result (λ list h segs cover holds.
    h layer.threshold segs cover (lines_as
    (told_of {D = g.W.Disk} c.args.book.now) layer segs cover c.head-head.result c.args.book.now.work c.tree_of.result c.head-head.ensures.work
    c.tree_of.ensures holds)) c.scan.ensures.segments

pub returns-clause-order : goal.returns-clause-order
returns-clause-order g c = if_ok _ _ c.scan.result (λ list h. rising_ids (ids_of list) h) c.scan.ensures.order

pub returns-clause-sound : goal.returns-clause-sound
returns-clause-sound g c =
    let layer = c.args.layer in
    if_err _ _ c.scan.result (λ e h segs cover least holds.
    h layer.threshold segs cover (lines_as
    (told_of {D = g.W.Disk} c.args.book.now) layer segs cover c.head-head.result c.args.book.now.work c.tree_of.result c.head-head.ensures.work
    c.tree_of.ensures holds)) c.scan.ensures.sound
