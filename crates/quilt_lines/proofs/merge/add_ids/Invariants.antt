use Rattle.std.proofs.Common.{take}
use Rattle.quilt_lines.specs.Merges.{AddsIds}
use Rattle.quilt_lines.proofs.merge.add_ids.Given as goal

abbrev pub invariant-loop-id : goal.invariant-loop-id
invariant-loop-id l = AddsIds l.most l.initial.ids.items (take l.id-index l.more) l.ids.items
