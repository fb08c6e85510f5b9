use Rattle.std.proofs.Common.{◌≡◌, true, Some, is_some, refl, ap, arith}
use Rattle.quilt_map.specs.Derivation.{layers_derived}
use Rattle.quilt_map.specs.Measuring.{layer_measured}
use Rattle.quilt_map.specs.Selecting.{layer_asked}
use Rattle.quilt_map.proofs.questions.Bounded.{ask_reads, derived_reads, measured_never, where_answered}
use Rattle.quilt_map.proofs.questions.Selects.{fits_some}
use Rattle.quilt_map.proofs.answers.Commanded.{fitting_here}
use Rattle.quilt_map.proofs.answers.Serves.{asked, asked_pixel, asked_within, derived_edits, edited, fitted, fitted_within, lines_questions}
use Rattle.quilt_map.proofs.answers.Serves.{measured_questions, published, reverted, told_served}
use Rattle.quilt_map.proofs.session.Session.dispatch.Goals as goal

-- what calls require of numbers and further lines, which are spelled
pub make_lines-requires : goal.make_lines-requires
make_lines-requires g c = record { threshold = (fitting_here {D = g.W.Disk} c.args.self.now _ _ c.requires.spelled c.in-Lines.is).1 }

pub raster-requires-clause-rows : goal.raster-requires-clause-rows
raster-requires-clause-rows g c κs within = (fitting_here {D = g.W.Disk} c.args.self.now _ _ c.requires.spelled c.in-Raster.is).1

pub ask_lines-requires-clause-some : goal.ask_lines-requires-clause-some
ask_lines-requires-clause-some g c = fits_some _ _ _ (fitting_here {D = g.W.Disk} c.args.self.now _ _ c.requires.spelled refl)

-- edits
pub returns-in-Lines : goal.returns-in-Lines
returns-in-Lines g c = let e = c.make_lines.ensures in edited _ _ c.in-Lines.is c.requires.ready e.cause refl (λ s p. p) e.answer e.sound e.refused e.goes_on

pub returns-in-Drop : goal.returns-in-Drop
returns-in-Drop g c = let e = c.drop_layer.ensures in edited _ _ c.in-Drop.is c.requires.ready e.cause refl (λ s p. p) e.answer e.sound e.refused e.goes_on

pub returns-in-Copy : goal.returns-in-Copy
returns-in-Copy g c = let e = c.copy_layer.ensures in edited _ _ c.in-Copy.is c.requires.ready e.cause refl (λ s p. p) e.answer e.sound e.refused e.goes_on

pub returns-in-Raster : goal.returns-in-Raster
returns-in-Raster g c = let e = c.raster.ensures in edited _ _ c.in-Raster.is c.requires.ready e.cause refl (λ s p. p) e.answer e.sound e.refused e.goes_on

pub returns-in-Union : goal.returns-in-Union
returns-in-Union g c = let e = c.overlay.ensures in edited _ _ c.in-Union.is c.requires.ready e.cause refl (λ s p. p) e.answer e.sound e.refused e.goes_on

pub returns-in-Inter : goal.returns-in-Inter
returns-in-Inter g c = let e = c.overlay-in-Inter.ensures in edited _ _ c.in-Inter.is c.requires.ready e.cause refl (λ s p. p) e.answer e.sound e.refused e.goes_on

pub returns-in-Diff : goal.returns-in-Diff
returns-in-Diff g c = let e = c.overlay-in-Diff.ensures in edited _ _ c.in-Diff.is c.requires.ready e.cause refl (λ s p. p) e.answer e.sound e.refused e.goes_on

pub returns-in-Put : goal.returns-in-Put
returns-in-Put g c = let e = c.put_point.ensures in edited _ _ c.in-Put.is c.requires.ready e.cause refl (λ s p. p) e.answer e.sound e.refused e.goes_on

pub returns-in-Del : goal.returns-in-Del
returns-in-Del g c = let e = c.del_point.ensures in edited _ _ c.in-Del.is c.requires.ready e.cause refl (λ s p. p) e.answer e.sound e.refused e.goes_on

pub returns-in-Scatter : goal.returns-in-Scatter
returns-in-Scatter g c = let e = c.scatter.ensures in edited _ _ c.in-Scatter.is c.requires.ready e.cause refl (λ s p. p) e.answer e.sound e.refused e.goes_on

pub returns-in-Line : goal.returns-in-Line
returns-in-Line g c = let e = c.line.ensures in edited _ _ c.in-Line.is c.requires.ready e.cause refl (λ s p. p) e.answer e.sound e.refused e.goes_on

pub returns-in-Unline : goal.returns-in-Unline
returns-in-Unline g c = let e = c.unline.ensures in edited _ _ c.in-Unline.is c.requires.ready e.cause refl (λ s p. p) e.answer e.sound e.refused e.goes_on

-- edits whose colour or capacity is spelled in the format of the map
pub returns-in-Region : goal.returns-in-Region
returns-in-Region g c = let e = c.region.ensures in fitted _ _ c.in-Region.is c.requires.ready e.cause refl (λ s p. p) c.requires.spelled _ (λ s f. f.1) e.answer e.sound e.refused e.goes_on

pub returns-in-Points : goal.returns-in-Points
returns-in-Points g c = let e = c.make_points.ensures in fitted _ _ c.in-Points.is c.requires.ready e.cause refl (λ s p. p) c.requires.spelled _ (λ s f. f.1) e.answer e.sound e.refused e.goes_on

pub returns-in-Set : goal.returns-in-Set
returns-in-Set g c = let e = c.set.ensures in fitted _ _ c.in-Set.is c.requires.ready e.cause refl (λ s p. p) c.requires.spelled _ (λ s f. f.2) e.answer e.sound e.refused e.goes_on

pub returns-in-Rect : goal.returns-in-Rect
returns-in-Rect g c = let e = c.rect.ensures in fitted _ _ c.in-Rect.is c.requires.ready e.cause refl (λ s p. p) c.requires.spelled _ (λ s f. f.2) e.answer e.sound e.refused e.goes_on

pub returns-in-Polygon : goal.returns-in-Polygon
returns-in-Polygon g c = let e = c.polygon.ensures in fitted _ _ c.in-Polygon.is c.requires.ready e.cause refl (λ s p. p) c.requires.spelled _ (λ s f. f.1) e.answer e.sound e.refused e.goes_on

pub returns-in-Recolour : goal.returns-in-Recolour
returns-in-Recolour g c = let e = c.derive.ensures in
    let is : is_some (layers_derived c.args.command.now) ≡ true = grind arith in
    fitted_within _ _ refl c.requires.ready e.cause (derived_edits _ is) (derived_reads _ _ _ _ _ is e.reads) c.requires.spelled _ (λ s f. f) e.answer e.sound
    e.refused e.goes_on

-- questions
pub returns-in-Layers : goal.returns-in-Layers
returns-in-Layers g c = let e = c.layers.ensures in told_served c.in-Layers.is c.requires.ready refl (λ s p. p) g.met.W.Disk.is_consistent e.answer e.memory

pub returns-in-Records : goal.returns-in-Records
returns-in-Records g c = let e = c.records.ensures in told_served c.in-Records.is c.requires.ready refl (λ s p. p) g.met.W.Disk.is_consistent e.answer e.memory

pub returns-in-Edition : goal.returns-in-Edition
returns-in-Edition g c = let e = c.edition.ensures in told_served c.in-Edition.is c.requires.ready refl (λ s p. p) g.met.W.Disk.is_consistent e.answer e.memory

pub returns-in-Leaves : goal.returns-in-Leaves
returns-in-Leaves g c = let e = c.leaves.ensures in asked _ _ c.in-Leaves.is c.requires.ready e.cause refl (λ s p. p) g.met.W.Disk.is_consistent e.answer e.sound e.keeps

pub returns-in-Over : goal.returns-in-Over
returns-in-Over g c = let e = c.over.ensures in asked _ _ c.in-Over.is c.requires.ready e.cause refl (λ s p. p) g.met.W.Disk.is_consistent e.answer e.sound e.keeps

pub returns-in-Crossings : goal.returns-in-Crossings
returns-in-Crossings g c = let e = c.crossings.ensures in asked _ _ c.in-Crossings.is c.requires.ready e.cause refl (λ s p. p) g.met.W.Disk.is_consistent e.answer e.sound e.keeps

pub returns-in-Area : goal.returns-in-Area
returns-in-Area g c = let e = c.measure.ensures in
    let is : is_some (layer_measured c.args.command.now) ≡ true = grind arith in
    asked _ _ refl c.requires.ready e.cause (measured_questions _ is) (measured_never _ _ is) g.met.W.Disk.is_consistent e.answer e.sound e.keeps

-- questions with a bound on the pages that they read
pub returns-in-Blocks : goal.returns-in-Blocks
returns-in-Blocks g c = let e = c.blocks-in-Blocks.ensures in
    asked_within _ _ c.in-Blocks.is c.requires.ready e.cause refl (where_answered _ _ _ e.reads) g.met.W.Disk.is_consistent e.answer e.sound e.keeps

pub returns-in-Show : goal.returns-in-Show
returns-in-Show g c = let e = c.show.ensures in
    asked_within _ _ c.in-Show.is c.requires.ready e.cause refl (where_answered _ _ _ e.reads) g.met.W.Disk.is_consistent e.answer e.sound e.keeps

pub returns-in-Find : goal.returns-in-Find
returns-in-Find g c = let e = c.find_point.ensures in
    asked_within _ _ c.in-Find.is c.requires.ready e.cause refl (λ s at promised. e.reads s at) g.met.W.Disk.is_consistent e.answer e.sound e.keeps

pub returns-in-Within : goal.returns-in-Within
returns-in-Within g c = let e = c.points_within.ensures in
    asked_within _ _ c.in-Within.is c.requires.ready e.cause refl (where_answered _ _ _ e.reads) g.met.W.Disk.is_consistent e.answer e.sound e.keeps

pub returns-in-Cross : goal.returns-in-Cross
returns-in-Cross g c = let e = c.ask_lines.ensures in
    let is : layer_asked c.args.command.now ≡ Some c.in-Cross.l = grind arith in
    asked_within _ _ refl c.requires.ready e.cause (lines_questions _ (ap is_some is)) (ask_reads _ _ _ _ _ _ is e.reads) g.met.W.Disk.is_consistent e.answer e.sound
    e.keeps

pub returns-in-At : goal.returns-in-At
returns-in-At g c = let e = c.at.ensures in
    asked_pixel _ _ c.in-At.is c.requires.ready e.cause refl (λ s at promised. e.reads) g.met.W.Disk.is_consistent e.answer e.sound e.keeps e.held e.again

-- editions
pub returns-in-Publish : goal.returns-in-Publish
returns-in-Publish g c = let e = c.publish.ensures in
    published _ _ c.in-Publish.is c.requires.ready e.cause refl (λ s p. p) e.answer e.sound e.refused e.ready e.whole e.level e.door e.events e.crash e.writes

pub returns-in-Upgrade : goal.returns-in-Upgrade
returns-in-Upgrade g c = let e = c.upgrade.ensures in
    published _ _ c.in-Upgrade.is c.requires.ready e.cause refl (λ s p. p) e.answer e.sound e.refused e.ready e.whole e.level e.door e.events e.crash e.writes

pub returns-in-Revert : goal.returns-in-Revert
returns-in-Revert g c = let e = c.revert.ensures in
    reverted _ _ c.in-Revert.is c.requires.ready e.cause refl (λ s p. p) e.answer e.memory e.world e.whole e.refused e.goes_on
