use Rattle.std.proofs.Common.{◌+◌, ◌<◌, List, ℕ, drop}
use Rattle.quilt_words.proofs.Slices.{behind}
use Rattle.quilt_lang.specs.Cutting.{further_count}
use Rattle.quilt_lang.specs.Progress.{IsCount}
use Rattle.quilt_lang.proofs.Enough.{few, kept_waits}
use Rattle.quilt_lang.proofs.kept.kept_waiting.Goals as goal

pub returns : goal.returns
returns c =
    let n = c.args.level in
    let line = c.args.waiting.line in
    let what = c.args.waiting.what in
    let rest : List ℕ = c.args.rest.now in
    let cut = c.count_lines-count.result in
    let count : IsCount (further_count n what) cut (drop (line + 1) rest) = rw (behind (line + 1) rest) at c.count_lines-count.ensures.is in
    let all = rw (behind (line + 1) rest) at c.count_lines-count.ensures.all in
    let missing : cut.count < further_count n what = few n line what cut rest c.requires.cut.first count c.requires.given in
    kept_waits n line what cut rest c.requires.cut.first count c.requires.given (all missing) c.enough_of-scanned.result c.enough_of-scanned.ensures
