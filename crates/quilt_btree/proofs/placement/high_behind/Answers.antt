use Rattle.std.proofs.Common.{ap, sym}
use Rattle.std.specs.Option.{option_or}
use Rattle.quilt_btree.proofs.ways.Steps.{keys_many, last_high}
use Rattle.quilt_btree.proofs.placement.high_behind.Goals as goal

pub returns-then-child_count_in-place : goal.returns-then-child_count_in-place
returns-then-child_count_in-place c = λ pages inner is inside.
    last_high inner c.args.place c.args.high.now pages c.args.bytes.now c.child_count_in.result is (c.child_count_in.ensures.length pages inner is).0
    c.if-child_count_in-place.true

pub returns-else-child_count_in-place : goal.returns-else-child_count_in-place
returns-else-child_count_in-place c = λ pages inner is inside.
    sym (ap (λ o. option_or o c.args.high.now) (c.separator_in.ensures pages inner is
    (keys_many pages c.args.bytes.now inner c.args.place c.child_count_in.result is (c.child_count_in.ensures.length pages inner is).0
    c.if-child_count_in-place.false)))
