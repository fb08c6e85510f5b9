use Rattle.std.proofs.Common.{refl, sym, ◌∙◌}
use Rattle.std.proofs.lemmas.Option.{none-some}
use Rattle.quilt_loc.proofs.Blocks.{IsBlock-up}
use Rattle.quilt_points.specs.Layers.{point_pixel_key}
use Rattle.quilt_points.proofs.Finds.{false_true, block_read, around_read, read_same, read_holds}
use Rattle.quilt_points.proofs.lookup.block_said.Goals as goal

pub covers-requires : goal.covers-requires
covers-requires c = IsBlock-up c.args.layer.level 12 c.in-Some-block_of.b c.args.layer.has_level.1 c.in-Some-block_of.ensures.block

pub returns-in_default-clause-sound : goal.returns-in_default-clause-sound
returns-in_default-clause-sound c told t points is h page e =
    let f =
    block_read told t c.args.layer.number c.args.layer.level c.args.layer.bucket points c.args.at (point_pixel_key c.args.layer.number c.args.at) c.args.found
    c.args.layer.has_level.1 c.requires.in_x c.requires.in_y refl is h in
    none-some _ (sym c.in_default.is ∙ f.is)

pub returns-in-Some-block_of-clause-read : goal.returns-in-Some-block_of-clause-read
returns-in-Some-block_of-clause-read c told t points is h =
    read_same c.args.layer.level c.args.layer.bucket points c.args.at c.block_of.result c.in-Some-block_of.b c.in-Some-block_of.held c.in-Some-block_of.is
    (around_read told t c.args.layer.number c.args.layer.level c.args.layer.bucket points c.args.at (point_pixel_key c.args.layer.number c.args.at) c.args.found
    c.in-Some.r c.block_of.result c.args.layer.has_number.0 c.args.layer.has_number.1 c.args.layer.has_level.1 c.requires.in_x c.requires.in_y refl
    is c.in-Some.is c.block_of.ensures.one h)

pub returns-in_default-block_of-clause-sound : goal.returns-in_default-block_of-clause-sound
returns-in_default-block_of-clause-sound c told t points is h page e =
    let f =
    around_read told t c.args.layer.number c.args.layer.level c.args.layer.bucket points c.args.at (point_pixel_key c.args.layer.number c.args.at) c.args.found
    c.in-Some.r c.block_of.result c.args.layer.has_number.0 c.args.layer.has_number.1 c.args.layer.has_level.1 c.requires.in_x c.requires.in_y refl
    is c.in-Some.is c.block_of.ensures.one h in
    false_true (c.if-covers.ensures
    ∙ read_holds c.args.layer.level c.args.layer.bucket points c.args.at c.block_of.result c.in-Some-block_of.b c.in-Some-block_of.held c.in-Some-block_of.is f)

pub returns-in_default-block_of-2-clause-sound : goal.returns-in_default-block_of-2-clause-sound
returns-in_default-block_of-2-clause-sound c told t points is h page e =
    let f =
    around_read told t c.args.layer.number c.args.layer.level c.args.layer.bucket points c.args.at (point_pixel_key c.args.layer.number c.args.at) c.args.found
    c.in-Some.r c.block_of.result c.args.layer.has_number.0 c.args.layer.has_number.1 c.args.layer.has_level.1 c.requires.in_x c.requires.in_y refl
    is c.in-Some.is c.block_of.ensures.one h in
    none-some _ (sym c.in_default-block_of.is ∙ f.is)
