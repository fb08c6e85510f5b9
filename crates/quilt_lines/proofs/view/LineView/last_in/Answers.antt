use Rattle.std.proofs.Common.{sym}
use Rattle.std.proofs.lemmas.Result.{IfOk-weaker}
use Rattle.quilt_types.specs.Plane.{corner}
use Rattle.quilt_loc.proofs.Blocks.{IsBlock-up}
use Rattle.quilt_lines.proofs.Around.{near_block, corner_held, pixel_of}
use Rattle.quilt_btree.proofs.Handed.{handed_on}
use Rattle.quilt_lines.proofs.view.LineView.last_in.Goals as goal

pub covers-requires : goal.covers-requires
covers-requires g c = IsBlock-up _ 12 _ c.args.self.now.has_level.1 c.requires.block

pub returns-then-not-covers-clause-last : goal.returns-then-not-covers-clause-last
returns-then-not-covers-clause-last g c =
    IfOk-weaker c.last_at.result _ _ (λ o f.
    near_block (g.S.PageStore.told c.args.store.now) c.args.self.now.tree c.args.self.now.level c.args.self.now.layer c.args.b (corner c.args.b) o
    (corner_held c.args.self.now.level c.args.b c.requires.block) f) c.last_at.ensures.last

pub last_at-requires-2-clause-pixel : goal.last_at-requires-2-clause-pixel
last_at-requires-2-clause-pixel g c = pixel_of c.args.self.now.level c.args.b c.args.search.now.at c.requires.block (sym c.if-not-covers.ensures)

pub returns-in_err-last-clause-sound : goal.returns-in_err-last-clause-sound
returns-in_err-last-clause-sound g c = rw (handed_on c.from_residual.result c.from_residual.ensures.1) c.in_err-last.ensures.sound

pub returns-in_err-last-clause-bad : goal.returns-in_err-last-clause-bad
returns-in_err-last-clause-bad g c = rw (handed_on c.from_residual.result c.from_residual.ensures.1) c.in_err-last.ensures.bad
