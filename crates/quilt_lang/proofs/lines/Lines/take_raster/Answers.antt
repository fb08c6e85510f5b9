use Rattle.std.proofs.Common.{◌≡◌, ◌+◌, ◌-◌, ◌∙◌, ap, arith, List, ℕ, drop, map, take}
use Rattle.quilt_words.specs.Items.{words_of}
use Rattle.quilt_lang.specs.Reading.{Unread}
use Rattle.quilt_lang.proofs.Rasters.{given_raster, rows_from}
use Rattle.quilt_lang.proofs.lines.Lines.take_raster.Goals as goal

pub returns-clause-given : goal.returns-clause-given
returns-clause-given c =
    let bytes : List ℕ = c.self.inside.bytes.items in
    let from = c.self.inside.from in
    let line = c.args.line in
    let text : List ℕ = c.args.self.now.rest in
    let n : ℕ = c.args.self.now.level in
    let level : c.self.inside.level ≡ n = ap (λ (s : Unread). s.level) c.self.view_is in
    let rest : drop from bytes ≡ text = ap (λ (s : Unread). s.rest) c.self.view_is in
    let size : from + line - from ≡ line = omega arith in
    let first : c.in_ok-first.first.items ≡ take line text =
    c.in_ok-first.ensures.items ∙ ap (λ (l : List ℕ). take (from + line - from) (drop from l)) c.deref.ensures.value
    ∙ ap (λ (k : ℕ). take k (drop from bytes)) size ∙ ap (take line) rest in
    let behind : drop c.min-rows_from.result c.in_ok-bytes.bytes.items ≡ drop (line + 1) text =
    rows_from c.in_ok-bytes.bytes.items text c.in_ok-bytes.from line c.len.result c.min-rows_from.result c.in_ok-bytes.ensures.rest
    (omega (arith, c.len.ensures, c.in_ok-bytes.bytes.ok.0)) c.min-rows_from.ensures in
    given_raster c.args.ended n c.args.format c.rows_command.result text c.hand_over.new.self.rest line c.args.len
    (map (λ w. w.now) c.in_ok-words.words.items) c.rows_over-rows.result c.requires.first c.requires.raster c.requires.there
    (c.in_ok-words.ensures ∙ ap words_of (c.deref-2.ensures.value ∙ first))
    (rw (behind, level) at c.rows_over-rows.ensures) (rw c.deref-3.ensures.value at c.rows_command.ensures) c.in_ok-bytes.ensures.passed
