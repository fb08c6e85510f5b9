use Rattle.std.proofs.Common.{◌≡◌, take, map}
use Rattle.quilt_lines.specs.Reads.{pair_of}
use Rattle.quilt_lines.proofs.removal.Removal.pairs.Given as goal

abbrev pub invariant-loop-id : goal.invariant-loop-id
invariant-loop-id l = l.records.items ≡ map (pair_of l.self.level l.self.layer l.b) (take l.id-index l.ids)
