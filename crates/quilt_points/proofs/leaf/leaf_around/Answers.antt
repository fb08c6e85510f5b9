use Rattle.std.proofs.Common.{◌≡◌, ◌+◌, ◌*◌, true, List, sym, subst, arith}
use Rattle.std.specs.Prelude.{All}
use Rattle.std.proofs.lemmas.Option.{MatchOption-at_none, MatchOption-at_some}
use Rattle.quilt_types.specs.declared.plane.Point.{Point}
use Rattle.quilt_types.specs.Plane.{is_pixel}
use Rattle.quilt_point_laws.specs.Laws.{AreIn}
use Rattle.quilt_points.specs.Layers.{point_entries}
use Rattle.quilt_store.proofs.Reading.{only_reads_then, only_reads_err, only_reads_ok, only_reads_free}
use Rattle.quilt_points.proofs.Finds.{has_along, if_some_at}
use Rattle.quilt_world.proofs.ReadCounts.{reads_then, reads_more}
use Rattle.quilt_points.proofs.Singles.{one_held, all_held}
use Rattle.quilt_btree.proofs.Handed.{handed_on}
use Rattle.quilt_btree.proofs.Stops.{zero_handed, bad_handed}
use Rattle.quilt_points.proofs.leaf.leaf_around.Goals as goal

pub returns-in_err-points_of-clause-sound : goal.returns-in_err-points_of-clause-sound
returns-in_err-points_of-clause-sound g c =
    rw (handed_on c.from_residual-in_err-points_of.result c.from_residual-in_err-points_of.ensures.1) (λ points h. c.in_err-points_of.ensures.sound points
    (has_along _ _ c.args.tree.now c.args.layer.number c.args.layer.level c.args.layer.bucket points c.in_ok-block.ensures.left.told h))

pub returns-in-None-clause-sound : goal.returns-in-None-clause-sound
returns-in-None-clause-sound g c points h page e =
    let read = c.in_ok-block.ensures.read points h in
    MatchOption-at_none _ _ c.in-None.is
    (c.in_ok-points_of.ensures.read points
    (has_along _ _ c.args.tree.now c.args.layer.number c.args.layer.level c.args.layer.bucket points c.in_ok-block.ensures.left.told h)) read.block

pub returns-in-Some-clause-read : goal.returns-in-Some-clause-read
returns-in-Some-clause-read g c points h =
    MatchOption-at_some _ _ c.in-Some.points c.in-Some.is
    (c.in_ok-points_of.ensures.read points
    (has_along _ _ c.args.tree.now c.args.layer.number c.args.layer.level c.args.layer.bucket points c.in_ok-block.ensures.left.told h))

pub returns-in_err-points_of-clause-left : goal.returns-in_err-points_of-clause-left
returns-in_err-points_of-clause-left g c =
    rw (handed_on c.from_residual-in_err-points_of.result c.from_residual-in_err-points_of.ensures.1)
    (only_reads_err _ (only_reads_then _ g.met.S.PageStore.goes_on _ _ _ c.in_ok-block.ensures.left c.in_err-points_of.ensures.left))

pub returns-in-None-clause-left : goal.returns-in-None-clause-left
returns-in-None-clause-left g c = only_reads_free _ _ (only_reads_then _ g.met.S.PageStore.goes_on _ _ _ c.in_ok-block.ensures.left c.in_ok-points_of.ensures.left) (λ is. cc)

pub returns-in-Some-clause-left : goal.returns-in-Some-clause-left
returns-in-Some-clause-left g c = only_reads_ok _ (only_reads_then _ g.met.S.PageStore.goes_on _ _ _ c.in_ok-block.ensures.left c.in_ok-points_of.ensures.left) _

pub returns-in-Some-clause-reads : goal.returns-in-Some-clause-reads
returns-in-Some-clause-reads g c =
    reads_then 6 (6 + 3 * c.args.layer.bucket) (12 + 3 * c.args.layer.bucket) _ _ _ (omega arith) c.in_ok-block.ensures.reads c.in_ok-points_of.ensures.reads

pub returns-in-Ok-clause-read : goal.returns-in-Ok-clause-read
returns-in-Ok-clause-read g c points h =
    let r = c.in_ok-block.ensures.read points h in
    record {
      block = r.block;
      are = subst (λ (l : List Point). AreIn points c.in_ok-block.block (point_entries l)) (sym c.in-Ok.ensures)
          (one_held c.args.layer.level points c.in_ok-block.block c.args.layer.bucket c.in_ok-block.held c.if-layer-eq1.true r);
    }

pub returns-in-Ok-clause-pixels : goal.returns-in-Ok-clause-pixels
returns-in-Ok-clause-pixels g c =
    subst (All (λ (p : Point). is_pixel c.args.layer.level p.at ≡ true)) (sym c.in-Ok.ensures)
    (all_held c.args.layer.level c.in_ok-block.held c.in_ok-block.ensures.pixel)

pub returns-in_err-points_of-clause-zero : goal.returns-in_err-points_of-clause-zero
returns-in_err-points_of-clause-zero g c =
    zero_handed _ c.from_residual-in_err-points_of.result c.from_residual-in_err-points_of.ensures.1
    c.args.tree.now c.in_ok-block.ensures.left.told c.in_err-points_of.ensures.zero

pub returns-in_err-points_of-clause-bad : goal.returns-in_err-points_of-clause-bad
returns-in_err-points_of-clause-bad g c =
    bad_handed _ c.from_residual-in_err-points_of.result c.from_residual-in_err-points_of.ensures.1
    c.args.tree.now c.in_ok-block.ensures.left.told c.in_err-points_of.ensures.bad

pub returns-in-Ok-clause-reads : goal.returns-in-Ok-clause-reads
returns-in-Ok-clause-reads g c = reads_more 6 (12 + 3 * c.args.layer.bucket) _ _ (omega arith) c.in_ok-block.ensures.reads

pub returns-in-Some-clause-pixels : goal.returns-in-Some-clause-pixels
returns-in-Some-clause-pixels g c = if_some_at c.in_ok-points_of.field-0 _ c.in-Some.points c.in-Some.is c.in_ok-points_of.ensures.pixels

pub returns-in_err-block-clause-sound : goal.returns-in_err-block-clause-sound
returns-in_err-block-clause-sound g c = rw (handed_on c.from_residual.result c.from_residual.ensures.1) c.in_err-block.ensures.sound

pub returns-in_err-block-clause-zero : goal.returns-in_err-block-clause-zero
returns-in_err-block-clause-zero g c = rw (handed_on c.from_residual.result c.from_residual.ensures.1) c.in_err-block.ensures.zero

pub returns-in_err-block-clause-bad : goal.returns-in_err-block-clause-bad
returns-in_err-block-clause-bad g c = rw (handed_on c.from_residual.result c.from_residual.ensures.1) c.in_err-block.ensures.bad
