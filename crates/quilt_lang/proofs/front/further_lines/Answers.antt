use Rattle.std.proofs.Common.{◌-◌, ◌∙◌, List, ℕ, drop, length, take, arith, refl, sym}
use Rattle.quilt_lang.specs.Cutting.{further_count}
use Rattle.quilt_words.proofs.Slices.{behind}
use Rattle.quilt_lang.proofs.Groups.{so_far_first, so_far_put, so_far_smaller, so_far_all, so_far_end}
use Rattle.quilt_lang.proofs.front.further_lines.Goals as goal

pub loop-what-init : goal.loop-what-init
loop-what-init c = rw c.new-lines.ensures.items (so_far_first c.args.ended (further_count c.args.level c.args.what) c.args.text.now)

pub loop-what-preserved : goal.loop-what-preserved
loop-what-preserved c =
    let text : List ℕ = c.args.text.now in
    let len = c.loop-what.len in
    so_far_put (λ w. w.now) c.args.ended (further_count c.args.level c.args.what) _ len c.in-Some.k c.min-len.result c.loop-what.lines.items _ _ text
    (take (length text - len) (drop len text))
    c.loop-what.invariant (sym c.is_met.ensures ∙ c.loop-what-test.true) (omega (arith, c.loop-what.lines.ok.0)) (behind len text)
    (rw c.in-Some.is at c.first_line.ensures.found) c.min-len.ensures
    c.in_ok-push.ensures.items refl

pub loop-what-smaller : goal.loop-what-smaller
loop-what-smaller c =
    let text : List ℕ = c.args.text.now in
    let len = c.loop-what.len in
    so_far_smaller text (take (length text - len) (drop len text)) len c.in-Some.k c.min-len.result (behind len text)
    (rw c.in-Some.is at c.first_line.ensures.some) c.min-len.ensures

pub returns-in_default-clause-is : goal.returns-in_default-clause-is
returns-in_default-clause-is c =
    let text : List ℕ = c.args.text.now in
    let len = c.loop-what.len in
    so_far_end c.args.ended (further_count c.args.level c.args.what) len _ text (take (length text - len) (drop len text)) c.loop-what.invariant (behind len text)
    (rw c.in_default.is at c.first_line.ensures.found)

pub returns-clause-is : goal.returns-clause-is
returns-clause-is c =
    so_far_all (λ w. w.now) c.args.ended (further_count c.args.level c.args.what) _ c.loop-what.len c.loop-what.lines.items c.args.text.now c.loop-what.invariant
    (sym c.is_met.ensures ∙ c.loop-what-test.false) (omega (arith, c.loop-what.lines.ok.0))
