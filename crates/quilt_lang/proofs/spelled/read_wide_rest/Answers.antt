use Rattle.std.proofs.Common.{arith}
use Rattle.std.proofs.lemmas.Grind.{common_steps}
use Rattle.quilt_lang.proofs.DigitPairs.{wide_pairs_first, wide_pairs_next, wide_pairs_end}
use Rattle.quilt_lang.proofs.spelled.read_wide_rest.Goals as goal

pub loop-i-init : goal.loop-i-init
loop-i-init c = record { size = c.requires.same; even = c.requires.before; is = wide_pairs_first c.args.line.now c.args.from c.args.bytes.now c.requires.read }

pub loop-i-preserved : goal.loop-i-preserved
loop-i-preserved c =
    let so = c.loop-i.invariant in
    let size = so.size in
    record {
      size = grind (arith, common_steps);
      even = omega (arith, so.even);
      is = wide_pairs_next c.args.line.now c.loop-i.bytes c.loop-i.i c.loop-i.most c.digit_value-high.result c.digit_value-low.result c.byte_of.result c.max-most.result
          (omega (arith, so.even, c.requires.even, so.size)) (omega (arith, so.even, c.requires.even, so.size)) so.is c.digit_value-high.ensures c.digit_value-low.ensures
          c.byte_of.ensures (omega (arith, c.max.ensures, c.max-most.ensures)) (grind (arith, common_steps));
    }

pub returns-clause-read : goal.returns-clause-read
returns-clause-read c = wide_pairs_end c.args.line.now c.loop-i.bytes c.loop-i.i c.loop-i.most c.loop-i.invariant.size (omega arith) c.loop-i.invariant.is
