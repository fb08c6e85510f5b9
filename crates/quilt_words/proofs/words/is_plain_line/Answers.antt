use Rattle.std.proofs.Common.{◌∙◌, ◌+◌, ◌-◌, sym, arith, length}
use Rattle.quilt_words.proofs.Plain.{none_plain, eight_more, eight_fail, last_decide}
use Rattle.quilt_words.proofs.words.is_plain_line.Goals as goal

pub loop-from-init : goal.loop-from-init
loop-from-init c = record { within = omega arith; is = none_plain c.args.line.now }

pub loop-from-preserved : goal.loop-from-preserved
loop-from-preserved c = record {
  within = omega arith;
  is = eight_more c.args.line.now c.loop-from.from (c.loop-from.from + 8 - c.loop-from.from) (omega arith) c.loop-from.invariant.is
      (sym c.are_plain-in-loop-from.ensures ∙ c.if-not-are_plain.false);
}

pub returns-then-not-are_plain : goal.returns-then-not-are_plain
returns-then-not-are_plain c =
    sym (eight_fail c.args.line.now c.loop-from.from (c.loop-from.from + 8 - c.loop-from.from) c.loop-from.invariant.is
    (sym c.are_plain-in-loop-from.ensures ∙ c.if-not-are_plain.true))

pub returns : goal.returns
returns c = c.are_plain-2.ensures ∙ last_decide c.args.line.now (length c.args.line.now - 8) c.loop-from.from (omega arith) c.loop-from.invariant.is
