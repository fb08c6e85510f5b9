use Rattle.std.proofs.Common.{◌∙◌, true, refl, sym}
use Rattle.quilt_clip.proofs.Clips.{meets_law}
use Rattle.quilt_clip.proofs.Ends.{meets_span, point_law}
use Rattle.quilt_clip.proofs.segment.crosses.Goals as goal

pub returns-then-begins_in-clause-value : goal.returns-then-begins_in-clause-value
returns-then-begins_in-clause-value c = sym ((meets_law c.args.s c.args.w).1 (record { num = 0; den = 1 }, refl, sym c.begins_in.ensures ∙ c.if-begins_in.true))

pub returns-then-begins_in-clause-point : goal.returns-then-begins_in-clause-point
returns-then-begins_in-clause-point c = point_law c.args.s c.args.w true (returns-then-begins_in-clause-value c)

pub returns-clause-value : goal.returns-clause-value
returns-clause-value c = c.is_some.ensures ∙ meets_span c.args.s c.args.w c.span_in.result c.span_in.ensures

pub returns-clause-point : goal.returns-clause-point
returns-clause-point c = point_law c.args.s c.args.w c.is_some.result (returns-clause-value c)
