use Rattle.std.proofs.Common.{take, subst, sym, List}
use Rattle.quilt_edits.proofs.Lists.{take_next}
use Rattle.quilt_lines.specs.Merges.{AddsIds}
use Rattle.quilt_lines.proofs.plans.Merges.{adds_more}
use Rattle.quilt_lines.proofs.merge.add_ids.Goals as goal

pub loop-id-preserved : goal.loop-id-preserved
loop-id-preserved c =
    subst (λ (l : List _). AddsIds c.args.most c.args.ids.now.items l c.add_id.new.ids.items)
    (sym (take_next c.args.more.now c.loop-id.id-index 0 c.loop-id-test.true))
    (adds_more c.args.most c.args.ids.now.items c.loop-id.ids.items c.add_id.new.ids.items (take c.loop-id.id-index c.args.more.now) _ c.loop-id.invariant
    c.in_ok-add_id.ensures)
