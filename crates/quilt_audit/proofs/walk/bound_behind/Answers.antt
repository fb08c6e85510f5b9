use Rattle.std.proofs.Common.{Option, sym, ap, arith}
use Rattle.std.specs.Option.{option_or}
use Rattle.std.proofs.lemmas.Option.{slice_get_past}
use Rattle.quilt_record.specs.declared.key.Key.{Key}
use Rattle.quilt_audit.proofs.walk.bound_behind.Goals as goal

pub returns-else-i-len : goal.returns-else-i-len
returns-else-i-len c =
    let k = c.len.ensures.keys in
    let f = c.if-i-len.false in
    sym (ap (λ (o : Option Key). option_or o c.args.high.now) (slice_get_past c.args.inner.now.keys c.args.i (omega arith)))
