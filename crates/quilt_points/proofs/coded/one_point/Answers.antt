use Rattle.std.proofs.Common.{ap}
use Rattle.quilt_types.specs.declared.plane.Pixel.{Pixel}
use Rattle.quilt_points.proofs.Codings.{pixel_is}
use Rattle.quilt_points.proofs.coded.one_point.Goals as goal

pub returns : goal.returns
returns c =
    ap (λ (a : Pixel). record { at = a; label = c.args.c.label })
    (pixel_is c.args.c.code c.pixel_of.result c.requires c.pixel_of.ensures.in_x c.pixel_of.ensures.in_y c.pixel_of.ensures.value)
