use Rattle.std.proofs.Common.{◌+◌, ◌<◌, length, arith}
use Rattle.std.proofs.lemmas.Grind.{common_steps}
use Rattle.quilt_lang.proofs.Joins.{corners_none, corners_more, odd_corners}
use Rattle.quilt_lang.proofs.spelled.corners_in.Goals as goal

pub returns-then-words-ne0 : goal.returns-then-words-ne0
returns-then-words-ne0 c = odd_corners (λ w. w.now) c.args.words.now c.if-words-ne0.true

pub loop-i-init : goal.loop-i-init
loop-i-init c = rw c.in_ok-corners.ensures.items (record { number = omega arith; within = omega arith; is = corners_none (λ w. w.now) c.args.words.now })

pub loop-i-preserved : goal.loop-i-preserved
loop-i-preserved c =
    let within : c.loop-i.i + 1 < length c.args.words.now = omega (arith, c.if-words-ne0.false, c.loop-i.invariant.number) in
    let is = rw c.in-Some.is at c.corner_in.ensures in
    record {
      number = grind (arith, common_steps);
      within = omega (arith, within);
      is = rw c.in_ok-push.ensures.items
          (corners_more (λ w. w.now) c.args.words.now c.loop-i.i _ c.loop-i.corners.items c.in-Some.c within c.loop-i.invariant.is is);
    }
