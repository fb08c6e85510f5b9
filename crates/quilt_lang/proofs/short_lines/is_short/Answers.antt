use Rattle.std.proofs.Common.{◌-◌, ◌+◌, ◌≤◌, List, ℕ, drop, length, take, arith}
use Rattle.std.proofs.lemmas.Bool.{leb-true}
use Rattle.quilt_words.proofs.Slices.{behind}
use Rattle.quilt_lang.specs.Reading.{HasNewline, IsLine}
use Rattle.quilt_lang.proofs.ShortLines.{short_first, whole_next, whole_all, whole_end}
use Rattle.quilt_lang.proofs.short_lines.is_short.Goals as goal

pub loop-left-init : goal.loop-left-init
loop-left-init c = short_first c.args.most c.args.missing c.args.piece.now

pub returns-in_default : goal.returns-in_default
returns-in_default c = λ is.
    let piece : List ℕ = c.args.piece.now in
    let from = c.loop-left.from in
    let rest : List ℕ = take (length piece - from) (drop from piece) in
    let none : IsLine rest = rw c.in_default.is at c.newline.ensures in
    let few : length rest ≤ c.args.most + 1 = leb-true (length rest) (c.args.most + 1) is in
    whole_end c.args.most c.args.missing piece from c.loop-left.left rest c.loop-left.invariant (omega arith) (behind from piece) none few

pub loop-left-preserved : goal.loop-left-preserved
loop-left-preserved c =
    let piece : List ℕ = c.args.piece.now in
    let from = c.loop-left.from in
    let rest : List ℕ = take (length piece - from) (drop from piece) in
    let at : HasNewline rest c.in-Some.k = rw c.in-Some.is at c.newline.ensures in
    whole_next c.args.most c.args.missing piece from c.loop-left.left c.in-Some.k rest c.loop-left.invariant (omega arith) (behind from piece) at (omega arith)

pub returns : goal.returns
returns c = λ is. whole_all c.args.most c.args.missing c.args.piece.now c.loop-left.from c.loop-left.left c.loop-left.invariant (omega (arith, c.loop-left-test.false))
