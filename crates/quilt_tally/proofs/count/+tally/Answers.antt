use Rattle.std.proofs.Common.{refl, arith}
use Rattle.quilt_loc.proofs.Blocks.{IsBlock-up}
use Rattle.quilt_tally.proofs.Quarters.{quarter_at, quarter_over, tallied_more, tallied_all}
use Rattle.quilt_tally.proofs.count.+tally.Goals as goal

pub quarters-four-requires-clause-valid : goal.quarters-four-requires-clause-valid
quarters-four-requires-clause-valid g t c = IsBlock-up c.args.level 12 c.args.square c.requires.high c.requires.valid

pub loop-place-init : goal.loop-place-init
loop-place-init g t c = record {
  few = c.requires.high;
  block = c.requires.valid;
  wide = c.in_default.ensures.none refl;
  quarters = c.quarters-four.ensures.value;
  long = refl;
  each = λ j lt. absurd (omega arith);
}

pub tally-requires : goal.tally-requires
tally-requires g t c κs within =
    let part = quarter_at c.loop-place.invariant c.loop-place-test.true in
    let smaller = part.smaller in
    (omega arith, (within, (c.requires.high, (c.requires.whole, part.block))))

pub returns-in_err-tallies-clause-none : goal.returns-in_err-tallies-clause-none
returns-in_err-tallies-clause-none g t c _ =
    quarter_over c.loop-place.invariant c.args.most c.loop-place-test.true (c.in_err-tallies.ensures.none refl)

pub loop-place-preserved : goal.loop-place-preserved
loop-place-preserved g t c = tallied_more c.loop-place.invariant c.in_ok-tallies.field-0 c.loop-place-test.true c.in_ok-tallies.ensures.some

pub returns-clause-some : goal.returns-clause-some
returns-clause-some g t c =
    let i = c.loop-place.invariant in c.joined.ensures.some c.args.level _ c.args.square i.few i.block i.wide (tallied_all i _ c.loop-place-test.false)

pub returns-clause-none : goal.returns-clause-none
returns-clause-none g t c is =
    let i = c.loop-place.invariant in
    (c.joined.ensures.none c.args.level _ c.args.square i.few i.block i.wide (tallied_all i _ c.loop-place-test.false) is).over
