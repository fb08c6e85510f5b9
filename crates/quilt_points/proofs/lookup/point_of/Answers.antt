use Rattle.std.proofs.Common.{Option, Some, sym, ◌∙◌, ap}
use Rattle.std.proofs.lemmas.Option.{none-some, same_Some}
use Rattle.quilt_types.specs.declared.plane.Block.{Block}
use Rattle.quilt_types.specs.declared.plane.Point.{Point}
use Rattle.quilt_points.proofs.Finds.{if_some_at, row_of}
use Rattle.quilt_points.proofs.lookup.point_of.Goals as goal

pub returns-in-Some-clause-point : goal.returns-in-Some-clause-point
returns-in-Some-clause-point c = λ b p is. ap (λ (z : Block × Option Point). z.1) (same_Some _ _ (sym c.in-Some.is ∙ c.block_of.ensures.one b (Some p) is))

pub returns-in-None-clause-point : goal.returns-in-None-clause-point
returns-in-None-clause-point c = λ b p is. absurd (none-some _ (sym c.in-None.is ∙ c.block_of.ensures.one b (Some p) is))

pub returns-in-Some-clause-row : goal.returns-in-Some-clause-row
returns-in-Some-clause-row c = row_of c.args.layer.level c.args.layer.bucket c.args.layer.number c.args.r.now _ c.in-Some.held
    (if_some_at c.block_of.result _ _ c.in-Some.is c.block_of.ensures.record)
