use Rattle.quilt_map.specs.Asking.{reads_in}
use Rattle.quilt_map.proofs.answers.Asked.{still_here, if_ok, if_err}
use Rattle.quilt_map.proofs.questions.ShownLines.{costs_at}
use Rattle.quilt_map.proofs.views.select_in.Goals as goal

pub returns-in-None-clause-still : goal.returns-in-None-clause-still
returns-in-None-clause-still g c = still_here {D = g.W.Disk} c.args.book.now

pub returns-in-Some-clause-reply : goal.returns-in-Some-clause-reply
returns-in-Some-clause-reply g c = if_ok _ _ c.select.result
    (λ reply h segs cover holds. h (record { segs = segs; cover = cover }) (c.in-Some.ensures.shows segs cover holds)) c.select.ensures.reply

pub returns-in-Some-clause-sound : goal.returns-in-Some-clause-sound
returns-in-Some-clause-sound g c = if_err _ _ c.select.result
    (λ e h segs cover least holds. h (record { segs = segs; cover = cover }) (c.in-Some.ensures.shows segs cover holds)) c.select.ensures.sound

pub returns-in-Some-clause-reads : goal.returns-in-Some-clause-reads
returns-in-Some-clause-reads g c =
    if_ok _ _ c.select.result (λ reply h segs cover holds found answered.
    costs_at c.args.command.now segs cover c.in-Some.view.level c.args.book.now.work.level (reads_in {D = g.W.Disk} c.args.book.now)
    (reads_in {D = g.W.Disk} c.select.new.store) c.in-Some.ensures.level
    (h (record { segs = segs; cover = cover }) (c.in-Some.ensures.shows segs cover holds) found answered)) c.select.ensures.reads
