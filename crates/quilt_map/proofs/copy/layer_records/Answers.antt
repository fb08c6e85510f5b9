use Rattle.std.proofs.lemmas.Result.{err_from_is_err_and}
use Rattle.quilt_map.proofs.answers.Asked.{still_here}
use Rattle.quilt_map.proofs.copy.layer_records.Goals as goal

pub returns-then-entry-eq0-clause-still : goal.returns-then-entry-eq0-clause-still
returns-then-entry-eq0-clause-still g c = still_here {D = g.W.Disk} c.args.book.now

pub returns-in_err-records-clause-sound : goal.returns-in_err-records-clause-sound
returns-in_err-records-clause-sound g c =
    let p = err_from_is_err_and c.from_residual.result c.from_residual.ensures.1 in
    rw (p.1, p.2) (λ rs least tree. c.in_err-records.ensures.sound rs tree)
