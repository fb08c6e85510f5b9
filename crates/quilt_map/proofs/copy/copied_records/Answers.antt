use Rattle.std.proofs.lemmas.Result.{err_from_is_err_and}
use Rattle.quilt_map.proofs.copy.copied_records.Goals as goal

pub returns-in_err-records-clause-sound : goal.returns-in_err-records-clause-sound
returns-in_err-records-clause-sound g c =
    let p = err_from_is_err_and c.from_residual.result c.from_residual.ensures.1 in
    rw (p.1, p.2) (λ rs tree. c.in_err-records.ensures.sound rs tree)
