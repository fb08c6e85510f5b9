use Rattle.std.proofs.Common.{sym, ◌∙◌, subst, le_refl, arith}
use Rattle.quilt_types.specs.declared.plane.Block.{Block}
use Rattle.quilt_store.proofs.Reading.{only_reads_then, only_reads_err, only_reads_ok}
use Rattle.quilt_blocks.proofs.Maximal.{Within-self}
use Rattle.quilt_region.specs.Regions.{HasRegion}
use Rattle.quilt_region.specs.Windows.{HasAround}
use Rattle.quilt_world.proofs.ReadCounts.{reads_then, reads_more}
use Rattle.quilt_region.proofs.Beside.{true_false}
use Rattle.quilt_region.proofs.Nearby.{not_whole, around_self}
use Rattle.quilt_btree.proofs.Handed.{handed_on}
use Rattle.quilt_btree.proofs.Stops.{zero_handed, bad_handed}
use Rattle.quilt_region.proofs.neighbours.known_beside.Goals as goal

pub has_around-requires-clause-small : goal.has_around-requires-clause-small
has_around-requires-clause-small g c = not_whole c.args.level c.in_ok-b.b c.in_ok-b.ensures.block (λ e. true_false (c.in-Some.ensures.whole.1 e))

pub returns-in_err-has_around-clause-sound : goal.returns-in_err-has_around-clause-sound
returns-in_err-has_around-clause-sound g c =
    rw (handed_on c.from_residual-in_err-has_around.result c.from_residual-in_err-has_around.ensures.1)
    (λ grid h. c.in_err-has_around.ensures.sound grid (subst (λ told. HasRegion told c.args.tree.now c.args.layer c.args.level grid) (sym c.in_ok-b.ensures.left.told) h))

pub returns-clause-knows : goal.returns-clause-knows
returns-clause-knows g c grid h =
    let n = c.args.level in
    let b = c.in_ok-b.b in
    let after = subst (λ told. HasRegion told c.args.tree.now c.args.layer n grid) (sym c.in_ok-b.ensures.left.told) h in
    let cut_out = c.in_ok-b.ensures.cut_out grid h in
    record {
      blocks = record { read = c.in_ok-b.ensures.block; top = c.in_ok-b.ensures.block; inside = Within-self b };
      holds = c.in_ok-b.ensures.holds;
      read_cut = cut_out;
      top_cut = cut_out;
      around = around_self n grid b c.args.c.0;
      ends = λ lt has. c.in_ok-has_around.ensures.no c.if-branch.false grid after cut_out
          (subst (λ (l : Block). HasAround n grid l b c.args.c.0) (sym c.in-Some.ensures.value) has);
      other = c.other_colour.ensures.first;
      first = λ e. c.other_colour.ensures.second (e ∙ sym (c.in_ok-b.ensures.first grid h));
    }

pub returns-in_err-has_around-clause-left : goal.returns-in_err-has_around-clause-left
returns-in_err-has_around-clause-left g c =
    rw (handed_on c.from_residual-in_err-has_around.result c.from_residual-in_err-has_around.ensures.1)
    (only_reads_err _ (only_reads_then _ g.met.S.PageStore.goes_on _ _ _ c.in_ok-b.ensures.left c.in_err-has_around.ensures.left))

pub returns-then-branch-clause-left : goal.returns-then-branch-clause-left
returns-then-branch-clause-left g c = only_reads_ok _ (only_reads_then _ g.met.S.PageStore.goes_on _ _ _ c.in_ok-b.ensures.left c.in_ok-has_around.ensures.left) _

pub returns-clause-left : goal.returns-clause-left
returns-clause-left g c = only_reads_ok _ (only_reads_then _ g.met.S.PageStore.goes_on _ _ _ c.in_ok-b.ensures.left c.in_ok-has_around.ensures.left) _

pub returns-in_err-has_around-clause-zero : goal.returns-in_err-has_around-clause-zero
returns-in_err-has_around-clause-zero g c =
    zero_handed _ c.from_residual-in_err-has_around.result c.from_residual-in_err-has_around.ensures.1
    c.args.tree.now c.in_ok-b.ensures.left.told c.in_err-has_around.ensures.zero

pub returns-in_err-has_around-clause-bad : goal.returns-in_err-has_around-clause-bad
returns-in_err-has_around-clause-bad g c =
    bad_handed _ c.from_residual-in_err-has_around.result c.from_residual-in_err-has_around.ensures.1
    c.args.tree.now c.in_ok-b.ensures.left.told c.in_err-has_around.ensures.bad

pub returns-in_err-has_around-clause-reads : goal.returns-in_err-has_around-clause-reads
returns-in_err-has_around-clause-reads g c = reads_then 6 24 30 _ _ _ (le_refl 30) c.in_ok-b.ensures.reads c.in_err-has_around.ensures.reads

pub returns-then-branch-clause-reads : goal.returns-then-branch-clause-reads
returns-then-branch-clause-reads g c = reads_then 6 24 30 _ _ _ (le_refl 30) c.in_ok-b.ensures.reads c.in_ok-has_around.ensures.reads

pub returns-clause-reads : goal.returns-clause-reads
returns-clause-reads g c = reads_then 6 24 30 _ _ _ (le_refl 30) c.in_ok-b.ensures.reads c.in_ok-has_around.ensures.reads

pub returns-in_err-b-clause-reads : goal.returns-in_err-b-clause-reads
returns-in_err-b-clause-reads g c = reads_more 6 30 _ _ (omega arith) c.in_err-b.ensures.reads

pub returns-in_default-clause-reads : goal.returns-in_default-clause-reads
returns-in_default-clause-reads g c = reads_more 6 30 _ _ (omega arith) c.in_ok-b.ensures.reads

pub returns-in_err-b-clause-sound : goal.returns-in_err-b-clause-sound
returns-in_err-b-clause-sound g c = rw (handed_on c.from_residual.result c.from_residual.ensures.1) c.in_err-b.ensures.sound

pub returns-in_err-b-clause-zero : goal.returns-in_err-b-clause-zero
returns-in_err-b-clause-zero g c = rw (handed_on c.from_residual.result c.from_residual.ensures.1) c.in_err-b.ensures.zero

pub returns-in_err-b-clause-bad : goal.returns-in_err-b-clause-bad
returns-in_err-b-clause-bad g c = rw (handed_on c.from_residual.result c.from_residual.ensures.1) c.in_err-b.ensures.bad
