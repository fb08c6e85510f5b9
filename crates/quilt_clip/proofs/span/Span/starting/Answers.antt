use Rattle.std.proofs.Common.{sym, ◌∙◌}
use Rattle.quilt_clip.proofs.Orders.{up_to_unless_less, up_to_if_less}
use Rattle.quilt_clip.proofs.Rests.{from_past, rest_all, rest_from, lies_from}
use Rattle.quilt_clip.proofs.span.Span.starting.Goals as goal

pub returns-then-is_less : goal.returns-then-is_less
returns-then-is_less c t on l h = from_past c.args.self c.args.m c.args.k t c.requires.span on l h (sym c.is_less.ensures ∙ c.if-is_less.true)

pub returns-then-is_less-2 : goal.returns-then-is_less-2
returns-then-is_less-2 c =
    rest_from c.args.self c.args.m c.args.k c.requires.span c.requires.over c.requires.small
    (up_to_if_less _ _ (sym c.is_less-else-is_less.ensures ∙ c.if-is_less-2.true)) (up_to_unless_less _ _ (sym c.is_less.ensures ∙ c.if-is_less.false))

pub returns-else-is_less-2 : goal.returns-else-is_less-2
returns-else-is_less-2 c =
    rest_all c.args.self _ c.requires.span
    (λ t on l. lies_from c.args.self c.args.m c.args.k t c.requires.span l
    (up_to_unless_less _ _ (sym c.is_less-else-is_less.ensures ∙ c.if-is_less-2.false)))
