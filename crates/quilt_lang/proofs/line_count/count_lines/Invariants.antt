use Rattle.std.proofs.Common.{◌-◌, length}
use Rattle.quilt_lang.specs.Cutting.{further_count}
use Rattle.quilt_lang.specs.Progress.{IsCount}
use Rattle.quilt_lang.proofs.line_count.count_lines.Given as goal

abbrev pub invariant-loop-what : goal.invariant-loop-what
invariant-loop-what l = IsCount (further_count l.level l.what) l.cut l.text

abbrev pub decreases-loop-what : goal.decreases-loop-what
decreases-loop-what l = length l.text - l.cut.len
