use Rattle.std.proofs.Common.{[]}
use Rattle.quilt_lines.proofs.plans.Removals.{behind_one}
use Rattle.quilt_lines.proofs.removal.Removal.gone.Goals as goal

pub returns : goal.returns
returns c =
    behind_one c.new-gone.result.items c.push.new.self.items c.extend_from_slice.new.self.items c.extend_from_slice-2.new.self.items c.deref.result.now
    c.deref-2.result.now c.args.all.now.going.items
    c.args.all.now.staying.items c.segment_record.result _ c.new-gone.ensures.items c.in_ok-push.ensures.items c.in_ok-extend_from_slice.ensures.items
    c.in_ok-extend_from_slice-2.ensures.items
    ((c.segment_record.ensures c.args.self.now.level).written []) c.deref.ensures.value c.deref-2.ensures.value
