use Rattle.std.proofs.Common.{◌≡◌, ◌<◌, ℕ, suc, List, length, drop, get_or, fold, refl, arith, drop-cons}
use Rattle.quilt_words.specs.Spelling.{value_of}
use Rattle.quilt_words.proofs.Numbers.{step, above}
use Rattle.quilt_words.proofs.arguments.value.Goals as goal

pub returns-then-v-from : goal.returns-then-v-from
returns-then-v-from c =
    let digits : List ℕ = c.args.digits.now in
    let i = c.loop-c.c-index in
    let v = step c.loop-c.v (get_or digits i 0) in
    let within : i < length digits = omega arith in
    let rest : fold step v (drop (suc i) digits) ≡ value_of digits = rw (drop-cons digits i 0) at c.loop-c.invariant.is in
    let more : c.args.high < v = omega (arith, c.saturating_sub.ensures) in
    rw (above c.args.high v (drop (suc i) digits) (value_of digits) rest more) refl
