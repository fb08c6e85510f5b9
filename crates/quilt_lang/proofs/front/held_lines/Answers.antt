use Rattle.std.proofs.Common.{◌+◌, ap, List, ℕ, drop, take, length, arith, map, length-drop}
use Rattle.quilt_lang.specs.Cutting.{further_count}
use Rattle.quilt_words.proofs.Slices.{behind}
use Rattle.quilt_lang.proofs.Groups.{front_gives, lines_behind}
use Rattle.quilt_lang.proofs.Counts.{lines_there}
use Rattle.quilt_lang.proofs.front.held_lines.Goals as goal

pub returns-clause-within : goal.returns-clause-within
returns-clause-within c =
    let text : List ℕ = c.args.text.now in
    omega (arith, c.min-from.ensures, c.in_ok-more.ensures.within, ap length (behind c.min-from.result text), length-drop c.min-from.result text)

pub returns-clause-gives : goal.returns-clause-gives
returns-clause-gives c =
    let text : List ℕ = c.args.text.now in
    let k = c.args.line in
    let taken = map (λ w. w.now) c.in_ok-more.more.items in
    let more = lines_behind c.args.ended _ _ text k c.min-from.result c.in_ok-more.len c.min-from.ensures c.in_ok-more.ensures.is in
    front_gives c.args.ended c.args.level c.args.what (take k text) text (drop (k + 1) text) _ taken c.requires.first.loud c.requires.first.cuts
    c.requires.first.asks more (lines_there c.args.ended (further_count c.args.level c.args.what) taken (drop (k + 1) text) _ more c.requires.there)
