use Rattle.std.proofs.Common.{ap, ◌∙◌}
use Rattle.quilt_types.specs.Fractions.{lowest}
use Rattle.quilt_clip.specs.declared.span.Span.{Span}
use Rattle.quilt_clip.proofs.Ends.{clip_pair, clip_no_span, none_law, ends_law}
use Rattle.quilt_clip.proofs.segment.clip.Goals as goal

pub returns-in_err-span-clause-value : goal.returns-in_err-span-clause-value
returns-in_err-span-clause-value c = c.from_residual.ensures ∙ clip_no_span c.args.s c.args.w c.in_err-span.ensures

pub returns-clause-value : goal.returns-clause-value
returns-clause-value c =
    clip_pair c.args.s c.args.w c.in_ok-span.span c.of-first.result c.of-last.result
    (c.of-first.ensures.value ∙ ap (λ (p : Span). lowest p.first.num p.first.den) c.span.view_is)
    (c.of-last.ensures.value ∙ ap (λ (p : Span). lowest p.last.num p.last.den) c.span.view_is)
    c.in_ok-span.ensures

pub returns-clause-none : goal.returns-clause-none
returns-clause-none c = none_law c.args.s c.args.w _ (returns-clause-value c)

pub returns-clause-ends : goal.returns-clause-ends
returns-clause-ends c = ends_law c.args.s c.args.w _ (returns-clause-value c)
