use Rattle.std.proofs.Common.{◌≤◌, ◌+◌, List, ℕ, take, length, refl, sym, ◌∙◌, subst, arith}
use Rattle.std.proofs.lemmas.Simd.{take_more_put_chunk, length-put_chunk}
use Rattle.quilt_lang.specs.Spelled.{IsWideUpTo}
use Rattle.quilt_lang.proofs.Joins.{wide_none}
use Rattle.quilt_lang.proofs.Sixteens.{sixteen_more, sixteen_fail}
use Rattle.quilt_lang.proofs.spelled.read_sixteens.Goals as goal

pub loop-i-init : goal.loop-i-init
loop-i-init c = record { within = omega arith; same = c.requires; even = refl; is = wide_none c.args.line.now }

pub loop-i-preserved : goal.loop-i-preserved
loop-i-preserved c =
    let so = c.loop-i.invariant in
    let i = c.loop-i.i in
    let room : i + 16 ≤ length c.args.line.now = omega (arith, c.loop-i-test.true) in
    let long = rw c.in-Some.is at c.wide_sixteen.ensures.long in
    let spelled = rw c.in-Some.is at c.wide_sixteen.ensures.is in
    record {
      within = room;
      same = so.same ∙ sym (length-put_chunk i c.loop-i.bytes c.in-Some.part);
      even = omega (arith, so.even);
      is = subst (λ (got : List ℕ). IsWideUpTo c.args.line.now (i + 16) got)
          (sym (take_more_put_chunk i c.loop-i.bytes c.in-Some.part (i + 16) (omega (arith, long)) (omega (arith, room, so.same))))
          (sixteen_more c.args.line.now i c.in-Some.part (take i c.loop-i.bytes) room so.is spelled);
    }

pub returns-in_default-clause-read : goal.returns-in_default-clause-read
returns-in_default-clause-read c =
    let so = c.loop-i.invariant in
    let i = c.loop-i.i in
    sixteen_fail c.args.line.now i (take i c.loop-i.bytes) (omega (arith, c.loop-i-test.true)) so.is (rw c.in_default.is at c.wide_sixteen.ensures.is)
