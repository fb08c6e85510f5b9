use Rattle.std.proofs.Common.{◌&&◌, Bool, sym, ◌∙◌}
use Rattle.quilt_record.specs.declared.key.Key.{Key}
use Rattle.quilt_node.specs.Tree.{is_above, is_below}
use Rattle.quilt_audit.proofs.Walked.{all_more, all_stops}
use Rattle.quilt_audit.proofs.node.inner_is_within.Goals as goal

pub returns-then-not-is_within : goal.returns-then-not-is_within
returns-then-not-is_within c =
    let p : Key → Bool = λ k. is_above c.args.low.now k && is_below c.args.high.now k in
    all_stops p c.args.inner.now.keys c.loop-i.i c.key-k.result c.key-k.ensures (sym c.is_within.ensures ∙ c.if-not-is_within.true)

pub loop-i-preserved : goal.loop-i-preserved
loop-i-preserved c =
    let p : Key → Bool = λ k. is_above c.args.low.now k && is_below c.args.high.now k in
    all_more p c.args.inner.now.keys c.loop-i.i c.key-k.result c.key-k.ensures c.loop-i.invariant
    (sym c.is_within.ensures ∙ c.if-not-is_within.false)
