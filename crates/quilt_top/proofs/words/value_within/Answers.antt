use Rattle.std.proofs.Common.{◌≡◌, ◌∙◌, ◌<◌, ◌+◌, Some, None, Bool, cond, sym, ap, arith, take}
use Rattle.std.proofs.lemmas.List.Sums.{fold_more}
use Rattle.std.proofs.lemmas.Bool.{lt-leb}
use Rattle.quilt_words.specs.Spelling.{value_of}
use Rattle.quilt_top.proofs.usage.Digits.{shifted, not_within, value_of-take}
use Rattle.quilt_top.proofs.words.value_within.Goals as goal

pub returns-in_err-value : goal.returns-in_err-value
returns-in_err-value c =
    let digits = c.args.digits.now in
    let i = c.loop-digit.digit-index in
    let more : value_of (take (i + 1) digits) ≡ shifted (value_of (take i digits)) _ = fold_more shifted 0 digits i 0 (omega arith) in
    let small = value_of-take (i + 1) digits in
    let above = not_within _ c.args.high c.in_err-value.ensures in
    let past : c.args.high < value_of digits = omega (arith, c.loop-digit.invariant.value, above, more, small) in
    c.from_residual.ensures ∙ ap (λ (b : Bool). cond b (Some (value_of digits)) None) (sym (lt-leb (value_of digits) c.args.high past))
