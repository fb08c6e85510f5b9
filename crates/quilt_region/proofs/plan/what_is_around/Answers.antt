use Rattle.std.proofs.Common.{◌+◌, ◌*◌, sym, ◌∙◌, subst, arith}
use Rattle.quilt_store.proofs.Reading.{only_reads_then, only_reads_err, only_reads_ok}
use Rattle.quilt_region.specs.Regions.{HasRegion}
use Rattle.quilt_region.proofs.Counting.{then_saved}
use Rattle.quilt_btree.proofs.Handed.{handed_on}
use Rattle.quilt_btree.proofs.Stops.{zero_handed, bad_handed}
use Rattle.quilt_region.proofs.plan.what_is_around.Goals as goal

pub returns-clause-knows : goal.returns-clause-knows
returns-clause-knows g c grid h =
    let after = subst (λ told. HasRegion told c.args.tree.now c.args.layer c.args.level grid) (sym c.in_ok-read.ensures.left.told) h in
    let cut_out = c.in_ok-read.ensures.cut_out grid h in
    let up = c.in_ok-top.ensures in
    record {
      blocks = record { read = c.in_ok-read.ensures.block; top = up.block; inside = up.inside };
      holds = c.in_ok-read.ensures.holds;
      read_cut = cut_out;
      top_cut = up.cut_out grid after cut_out;
      around = up.same grid after;
      ends = up.ends grid after cut_out;
      other = c.other_colour.ensures.first;
      first = λ e. c.other_colour.ensures.second (e ∙ sym (c.in_ok-read.ensures.first grid h));
    }

pub returns-in_err-top-clause-sound : goal.returns-in_err-top-clause-sound
returns-in_err-top-clause-sound g c =
    rw (handed_on c.from_residual-in_err-top.result c.from_residual-in_err-top.ensures.1)
    (λ grid h. c.in_err-top.ensures.sound grid (subst (λ told. HasRegion told c.args.tree.now c.args.layer c.args.level grid) (sym c.in_ok-read.ensures.left.told) h))

pub returns-clause-reads : goal.returns-clause-reads
returns-clause-reads g c j e =
    then_saved (24 * j) 6 (24 * c.args.level) (6 + 24 * c.args.level) _ _ _ (omega arith) c.in_ok-read.ensures.reads (c.in_ok-top.ensures.reads j e)

pub returns-in_err-top-clause-left : goal.returns-in_err-top-clause-left
returns-in_err-top-clause-left g c =
    rw (handed_on c.from_residual-in_err-top.result c.from_residual-in_err-top.ensures.1)
    (only_reads_err _ (only_reads_then _ g.met.S.PageStore.goes_on _ _ _ c.in_ok-read.ensures.left c.in_err-top.ensures.left))

pub returns-clause-left : goal.returns-clause-left
returns-clause-left g c = only_reads_ok _ (only_reads_then _ g.met.S.PageStore.goes_on _ _ _ c.in_ok-read.ensures.left c.in_ok-top.ensures.left) _

pub returns-in_err-top-clause-zero : goal.returns-in_err-top-clause-zero
returns-in_err-top-clause-zero g c =
    zero_handed _ c.from_residual-in_err-top.result c.from_residual-in_err-top.ensures.1
    c.args.tree.now c.in_ok-read.ensures.left.told c.in_err-top.ensures.zero

pub returns-in_err-top-clause-bad : goal.returns-in_err-top-clause-bad
returns-in_err-top-clause-bad g c =
    bad_handed _ c.from_residual-in_err-top.result c.from_residual-in_err-top.ensures.1 c.args.tree.now c.in_ok-read.ensures.left.told c.in_err-top.ensures.bad

pub returns-in_err-read-clause-sound : goal.returns-in_err-read-clause-sound
returns-in_err-read-clause-sound g c = rw (handed_on c.from_residual.result c.from_residual.ensures.1) c.in_err-read.ensures.sound

pub returns-in_err-read-clause-zero : goal.returns-in_err-read-clause-zero
returns-in_err-read-clause-zero g c = rw (handed_on c.from_residual.result c.from_residual.ensures.1) c.in_err-read.ensures.zero

pub returns-in_err-read-clause-bad : goal.returns-in_err-read-clause-bad
returns-in_err-read-clause-bad g c = rw (handed_on c.from_residual.result c.from_residual.ensures.1) c.in_err-read.ensures.bad
