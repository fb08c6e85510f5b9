use Rattle.std.proofs.Common.{◌+◌, ◌∙◌, Bool, List, ℕ, false, drop, subst, sym}
use Rattle.quilt_lang.specs.Cutting.{further_count}
use Rattle.quilt_lang.specs.Progress.{IsCount, IsFrontLine}
use Rattle.quilt_words.proofs.Slices.{behind}
use Rattle.quilt_lang.proofs.Counts.{count_there, count_waits}
use Rattle.quilt_lang.proofs.front.waits_on.Goals as goal

pub returns-then-not-is_met : goal.returns-then-not-is_met
returns-then-not-is_met c =
    let n = c.args.level in
    let text : List ℕ = c.args.text.now in
    let line = c.args.waiting.line in
    let what = c.args.waiting.what in
    let P : Bool → Type 0 = λ (e : Bool). IsFrontLine e n line what text in
    let first : IsFrontLine false n line what text = subst P c.if-ended.false c.requires.first in
    let count : IsCount (further_count n what) c.count_lines-cut.result (drop (line + 1) text) = rw (behind (line + 1) text) at c.count_lines-cut.ensures.is in
    let stops = rw (behind (line + 1) text) at c.count_lines-cut.ensures.stops in (
      rw c.if-ended.false (count_waits n line what c.count_lines-cut.result text first count (sym c.is_met-2.ensures ∙ c.if-not-is_met.true) stops),
      record { first = first; further = count },
    )

pub returns : goal.returns
returns c = λ open_.
    let n = c.args.level in
    let line = c.args.waiting.line in
    let what = c.args.waiting.what in
    let count : IsCount (further_count n what) c.count_lines-cut.result (drop (line + 1) c.args.text.now) =
    rw (behind (line + 1) c.args.text.now) at c.count_lines-cut.ensures.is in
    count_there (further_count n what) c.count_lines-cut.result (drop (line + 1) c.args.text.now) count (sym c.is_met-2.ensures ∙ c.if-not-is_met.false)

pub returns-then-is_met : goal.returns-then-is_met
returns-then-is_met c = λ open_.
    let n = c.args.level in
    let what = c.args.waiting.what in
    count_there (further_count n what) c.args.waiting.cut (drop (c.args.waiting.line + 1) c.args.text.now) c.requires.further (sym c.is_met.ensures ∙ c.if-is_met.true)
