use Rattle.std.proofs.Common.{◌+◌, ◌<◌, [], length, arith, rules}
use Rattle.std.proofs.lemmas.Grind.{common_steps}
use Rattle.quilt_words.proofs.Recolours.{so_far_none, so_far_pair, so_far_err}
use Rattle.quilt_words.proofs.recolour.parse_pairs.Goals as goal

pub returns-in_err-o : goal.returns-in_err-o
returns-in_err-o c =
    let fact = so_far_err c.args.format (λ w. w.now) c.args.words.now 0 _ [] _ (omega (arith, c.requires.some))
    (so_far_none c.args.format (λ w. w.now) c.args.words.now) c.in_err-o.ensures in
    search (rules, fact)

pub returns-in_err-o-2 : goal.returns-in_err-o-2
returns-in_err-o-2 c =
    let within : c.loop-i.i + 1 < length c.args.words.now = omega (arith, c.requires.even, c.loop-i.invariant.number) in
    let fact = so_far_err c.args.format (λ w. w.now) c.args.words.now c.loop-i.i _ c.loop-i.pairs _ within c.loop-i.invariant.is c.in_err-o-2.ensures in
    search (rules, fact)

pub loop-i-preserved : goal.loop-i-preserved
loop-i-preserved c =
    let within : c.loop-i.i + 1 < length c.args.words.now = omega (arith, c.requires.even, c.loop-i.invariant.number) in
    record {
      number = grind (arith, common_steps);
      within = omega (arith, within);
      is =
          rw c.push.ensures (so_far_pair c.args.format (λ w. w.now) c.args.words.now c.loop-i.i _ c.loop-i.pairs _ within c.loop-i.invariant.is
          c.in_ok-o-2.ensures);
    }
