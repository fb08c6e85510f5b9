use Rattle.std.proofs.Common.{◌-◌, length, map}
use Rattle.quilt_lang.specs.Cutting.{further_count}
use Rattle.quilt_lang.proofs.Groups.{CutSoFar}
use Rattle.quilt_lang.proofs.front.further_lines.Given as goal

abbrev pub invariant-loop-what : goal.invariant-loop-what
invariant-loop-what l = CutSoFar l.ended (further_count l.level l.what) l.len (map (λ w. w.now) l.lines.items) l.text

abbrev pub decreases-loop-what : goal.decreases-loop-what
decreases-loop-what l = length l.text - l.len
