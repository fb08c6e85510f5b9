use Rattle.std.proofs.Common.{sym, ◌∙◌, arith, rules, tests}
use Rattle.std.proofs.lemmas.Iterator.{YieldsList-from_slice}
use Rattle.std.proofs.lemmas.Iterator.Search.{all_from_yields_List}
use Rattle.quilt_words.specs.Spelling.{is_digit}
use Rattle.quilt_top.proofs.usage.Digits.{is_spelled_by_digits}
use Rattle.quilt_top.proofs.words.is_spelled.Goals as goal

pub returns-then-first-ne48 : goal.returns-then-first-ne48
returns-then-first-ne48 c =
    let word = c.args.word.now in
    all_from_yields_List is_digit _ _ _ c.all.ensures.ran (YieldsList-from_slice word cc) (λ x b q k. search (rules, tests))
    ∙ sym (is_spelled_by_digits word (omega (arith, c.in-len1-up.len_at_least)) c.if-first-ne48.true)
