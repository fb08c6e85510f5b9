use Rattle.std.proofs.Common.{◌∙◌, sym}
use Rattle.std.proofs.lemmas.Result.{IfOk-weaker}
use Rattle.quilt_lang.proofs.Asking.{rings_some}
use Rattle.quilt_lang.proofs.held.rings_in.Goals as goal

pub returns-then-not-is_count : goal.returns-then-not-is_count
returns-then-not-is_count c = sym (rings_some c.args.k (λ w. w.now) c.args.more.now _ (sym c.is_count.ensures ∙ c.if-not-is_count.true))

pub returns : goal.returns
returns c =
    IfOk-weaker c.ring_lines.result _ _
    (λ v is. is ∙ sym (rings_some c.args.k (λ w. w.now) c.args.more.now _ (sym c.is_count.ensures ∙ c.if-not-is_count.false))) c.ring_lines.ensures
