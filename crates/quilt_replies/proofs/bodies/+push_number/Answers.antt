use Rattle.std.proofs.Common.{rules, arith}
use Rattle.std.proofs.lemmas.Fmt.{decimal_digit}
use Rattle.std.proofs.lemmas.Result.{on_ok_weaker}
use Rattle.quilt_replies.proofs.Replies.{digit_more}
use Rattle.quilt_replies.proofs.bodies.+push_number.Goals as goal

pub returns-then-number-lt10 : goal.returns-then-number-lt10
returns-then-number-lt10 t c = search (rules, decimal_digit)

pub returns : goal.returns
returns t c =
    on_ok_weaker c.push-2.result
    (λ e. digit_more c.args.text.now c.push_number.new.text c.push-2.new.self c.args.number (omega arith)
    (omega arith) c.in_ok-push_number.ensures e) c.push-2.ensures.ok
