use Rattle.std.specs.Ordering.{is_lt}
use Rattle.quilt_record.specs.declared.record.Record.{Record}
use Rattle.quilt_record.specs.Records.{key_cmp}
use Rattle.quilt_btree.proofs.ranges.Parts.{past_place, past_all}
use Rattle.quilt_btree.proofs.span.count_up_to.Goals as goal

pub returns-in-Ok-clause-above : goal.returns-in-Ok-clause-above
returns-in-Ok-clause-above c = λ rs is. past_place (λ (r : Record). is_lt (key_cmp c.args.k.now r.key)) c.in-Ok.i rs (c.in-Ok.ensures.place rs is).behind

pub returns-in-Err-clause-above : goal.returns-in-Err-clause-above
returns-in-Err-clause-above c = λ rs is. (c.in-Err.ensures.place rs is).behind

pub returns-in_default-clause-above : goal.returns-in_default-clause-above
returns-in_default-clause-above c =
    λ rs is. past_all (λ (r : Record). is_lt (key_cmp c.args.k.now r.key)) c.records_in-n.result rs (c.records_in-n.ensures.length rs is).0
