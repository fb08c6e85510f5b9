use Rattle.std.proofs.Common.{flat_map, take}
use Rattle.quilt_lines.specs.Adding.{facts_by, ids_meeting, Follow}
use Rattle.quilt_lines.proofs.view.LineView.push_quarters.Given as goal

abbrev pub invariant-loop-q : goal.invariant-loop-q
invariant-loop-q l = Follow l.self.level l.self.layer l.initial.records.items l.records.items
    (flat_map (λ q. facts_by q (ids_meeting l.list q)) (take l.q-index l.q-items))
