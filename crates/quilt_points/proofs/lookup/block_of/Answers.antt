use Rattle.std.proofs.Common.{sym, ◌∙◌}
use Rattle.quilt_points.proofs.Shapes.{record_layer}
use Rattle.quilt_points.proofs.lookup.block_of.Goals as goal

pub returns-in_default-clause-one : goal.returns-in_default-clause-one
returns-in_default-clause-one c = λ b held is. sym c.in_default.is ∙ c.read_point.ensures.one c.args.layer.number b held is

pub returns-then-r-from-clause-one : goal.returns-then-r-from-clause-one
returns-then-r-from-clause-one c =
    λ b held is. absurd (c.if-r-from.true (record_layer c.args.layer.level c.args.layer.bucket c.args.r.now c.args.layer.number b held is ∙ sym c.from.ensures))

pub returns-clause-one : goal.returns-clause-one
returns-clause-one c = λ b held is. sym c.in-Some.is ∙ c.read_point.ensures.one c.args.layer.number b held is
