use Rattle.std.proofs.lemmas.Result.{err_from_is_err_and}
use Rattle.quilt_near.specs.Lines.{Lines}
use Rattle.quilt_map.specs.LineLayers.{HoldsLines}
use Rattle.quilt_map.specs.Selecting.{selected_over}
use Rattle.quilt_map.proofs.answers.Answered.{told_reply}
use Rattle.quilt_map.proofs.answers.Asked.{still_here, if_ok}
use Rattle.quilt_map.proofs.questions.ShownLines.{over_body}
use Rattle.quilt_map.proofs.views.select_over.Goals as goal

pub returns-in-None-clause-still : goal.returns-in-None-clause-still
returns-in-None-clause-still g c = still_here {D = g.W.Disk} c.args.book.now

pub returns-in_err-found-in-Some-clause-sound : goal.returns-in_err-found-in-Some-clause-sound
returns-in_err-found-in-Some-clause-sound g c =
    let p = err_from_is_err_and c.from_residual.result c.from_residual.ensures.1 in
    rw (p.1, p.2) (λ segs cover least holds. c.in_err-found-in-Some.ensures.sound (record { segs = segs; cover = cover })
    (c.in-Some.ensures.shows segs cover holds))

pub returns-in_ok-found-in-Some-clause-reply : goal.returns-in_ok-found-in-Some-clause-reply
returns-in_ok-found-in-Some-clause-reply g c =
    let n = c.args.list.now.level in
    let grid = c.args.list.now.grid in
    if_ok _ _ c.told.result (λ reply h segs cover holds. h (record { segs = segs; cover = cover }) holds)
    (told_reply (λ (l : Lines). HoldsLines {D = g.W.Disk} c.args.book.now c.args.layer l.segs l.cover)
    (λ l. selected_over n grid l.segs) c.ids_text.result c.told.result c.told.ensures.text
    (λ l holds. if_ok _ _ c.ids_text.result
    (λ t written. over_body n grid l.segs c.in_ok-found-in-Some.found c.items.result.now
    (c.in_ok-found-in-Some.ensures.over l (c.in-Some.ensures.shows l.segs l.cover holds)) c.items.ensures t written) c.ids_text.ensures))
