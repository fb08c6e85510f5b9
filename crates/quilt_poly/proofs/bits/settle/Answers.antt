use Rattle.std.proofs.Common.{◌≡◌, ◌+◌, ◌-◌, subst, arith}
use Rattle.quilt_poly.specs.Bits.{strips}
use Rattle.quilt_poly.proofs.Strips.{AreDone, AreDone-more, AreDone-first, AreDone-all}
use Rattle.quilt_poly.proofs.bits.settle.Goals as goal

pub loop-strip-init : goal.loop-strip-init
loop-strip-init c = AreDone-first c.args.side (strips c.args.side) c.args.words.now (omega arith)

pub loop-strip-preserved : goal.loop-strip-preserved
loop-strip-preserved c =
    let s = c.args.side in
    let some = c.loop-strip-test.true in
    let most = c.loop-strip.auto.strip in
    let strip = c.loop-strip.strip - 1 in
    let is : c.loop-strip.strip ≡ c.loop-strip.strip - 1 + 1 = omega arith in
    AreDone-more s strip c.args.words.now c.loop-strip.words c.settle_strip.new.words (omega arith)
    (subst (λ k. AreDone s k c.args.words.now c.loop-strip.words) is c.loop-strip.invariant)
    c.settle_strip.ensures.done c.settle_strip.ensures.before c.settle_strip.ensures.behind

pub returns : goal.returns
returns c =
    let s = c.args.side in
    let none : c.loop-strip.strip ≡ 0 = omega arith in
    AreDone-all s c.args.words.now c.loop-strip.words (subst (λ k. AreDone s k c.args.words.now c.loop-strip.words) none c.loop-strip.invariant)
