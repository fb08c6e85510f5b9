use Rattle.std.proofs.Common.{map, take}
use Rattle.quilt_types.specs.Facts.{IsMetBy}
use Rattle.quilt_lines.specs.Adding.{Follow}
use Rattle.quilt_lines.proofs.view.LineView.push_facts.Given as goal

abbrev pub invariant-loop-id : goal.invariant-loop-id
invariant-loop-id l = Follow l.self.level l.self.layer l.initial.records.items l.records.items (map (λ id. IsMetBy l.b id) (take l.id-index l.ids))
