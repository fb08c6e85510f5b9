use Rattle.std.proofs.Common.{◌≡◌, take, map}
use Rattle.quilt_lines.specs.Reads.{pair_of}
use Rattle.quilt_lines.proofs.view.LineView.all_ids.Given as goal

abbrev pub invariant-loop-r : goal.invariant-loop-r
invariant-loop-r l = take l.r-index l.records ≡ map (pair_of l.self.level l.self.layer l.b) l.ids.items
