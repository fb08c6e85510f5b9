use Rattle.std.proofs.Common.{◌≡◌, ◌-◌, subst, List, ℕ, drop, length, take, arith}
use Rattle.quilt_words.proofs.Slices.{behind}
use Rattle.quilt_lang.specs.Reading.{HasNewline, IsLine}
use Rattle.quilt_lang.proofs.ShortLines.{ShortSoFar, short_first, short_next, short_all, short_end}
use Rattle.quilt_lang.proofs.short_lines.shortened.Goals as goal

pub loop-left-init : goal.loop-left-init
loop-left-init c = rw c.new-new.ensures.items (short_first c.args.most c.args.missing c.args.piece.now)

pub returns-in_default : goal.returns-in_default
returns-in_default c =
    let piece : List ℕ = c.args.piece.now in
    let from = c.loop-left.from in
    let rest : List ℕ = take (length piece - from) (drop from piece) in
    let none : IsLine rest = rw c.in_default.is at c.newline.ensures in
    short_end c.args.most c.args.missing piece from c.loop-left.left c.min.result rest c.loop-left.new.items _ c.loop-left.invariant (omega arith)
    (behind from piece) none c.min.ensures c.in_ok-extend_from_slice.ensures.items

pub loop-left-preserved : goal.loop-left-preserved
loop-left-preserved c =
    let piece : List ℕ = c.args.piece.now in
    let from = c.loop-left.from in
    let rest : List ℕ = take (length piece - from) (drop from piece) in
    let at : HasNewline rest c.in-Some.k = rw c.in-Some.is at c.newline.ensures in
    short_next c.args.most c.args.missing piece from c.loop-left.left c.in-Some.k c.min-in-loop-left.result rest c.loop-left.new.items _
    c.loop-left.invariant (omega arith) (behind from piece) at c.min-in-loop-left.ensures
    (rw c.in_ok-extend_from_slice-2.ensures.items at c.in_ok-push.ensures.items)

pub returns : goal.returns
returns c =
    let piece : List ℕ = c.args.piece.now in
    let from = c.loop-left.from in
    let rest : List ℕ = take (length piece - from) (drop from piece) in
    let none_left : c.loop-left.left ≡ 0 = omega (arith, c.loop-left-test.false) in
    let so = subst (λ (l : ℕ). ShortSoFar c.args.most c.args.missing piece from l c.loop-left.new.items) none_left c.loop-left.invariant in
    short_all c.args.most c.args.missing piece from rest c.loop-left.new.items _ so (behind from piece) c.in_ok-extend_from_slice-3.ensures.items
