use Rattle.std.proofs.Common.{sym, ap, ◌∙◌}
use Rattle.quilt_node.specs.declared.head.Head.{Head}
use Rattle.quilt_map.proofs.answers.Asked.{if_ok}
use Rattle.quilt_map.proofs.questions.ShownLines.{ends_at}
use Rattle.quilt_map.proofs.views.crossed_with.Goals as goal

pub crossed-requires-clause-first_ends : goal.crossed-requires-clause-first_ends
crossed-requires-clause-first_ends g c κs within =
    let same = c.head.ensures.work ∙ c.read_segments.ensures.still.later.2.1 in
    ends_at c.args.a.now c.items.result.now c.args.book.now.work.level c.head.result.level c.items.ensures
    (ap (λ (h : Head). h.level) same) c.requires.ends

pub crossed-requires-clause-second_ends : goal.crossed-requires-clause-second_ends
crossed-requires-clause-second_ends g c κs within =
    let same = c.head.ensures.work ∙ c.read_segments.ensures.still.later.2.1 in
    ends_at c.in_ok-b.b c.items-2.result.now c.args.book.now.work.level c.head.result.level c.items-2.ensures
    (ap (λ (h : Head). h.level) same) c.in_ok-b.ensures.inside

pub returns-clause-reply : goal.returns-clause-reply
returns-clause-reply g c =
    if_ok _ _ c.crossed.result (λ given tells first second cover is holds.
    tells first second (is ∙ sym c.items.ensures) (sym (c.items-2.ensures ∙ c.in_ok-b.ensures.segments second cover holds))) c.crossed.ensures.reply
