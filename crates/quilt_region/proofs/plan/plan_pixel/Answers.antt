use Rattle.std.proofs.Common.{◌+◌, ◌*◌, [], ◌∷◌, sym, ◌∙◌, ap, subst, arith}
use Rattle.quilt_store.proofs.Reading.{only_reads_then, only_reads_err, only_reads_free}
use Rattle.quilt_blocks.specs.Cutting.{leaf_pair}
use Rattle.quilt_blocks.proofs.Cuts.{leaf_is}
use Rattle.quilt_record.specs.declared.record.Record.{Record}
use Rattle.quilt_region.specs.Regions.{HasRegion}
use Rattle.quilt_region.proofs.Beside.{if_err_weaker, if_ok_weaker}
use Rattle.quilt_region.proofs.Counting.{then_saved, saved_less}
use Rattle.quilt_region.proofs.Nearby.{window_in, leaf_cut}
use Rattle.quilt_region.proofs.Pixels.{leaf_rows, pixel_in_block}
use Rattle.quilt_region.proofs.Results.{if_ok}
use Rattle.quilt_btree.proofs.Handed.{handed_on}
use Rattle.quilt_btree.proofs.Stops.{zero_handed, bad_handed}
use Rattle.quilt_btree.proofs.ways.Damage.{zero_named}
use Rattle.quilt_region.proofs.plan.plan_pixel.Goals as goal

pub leaf_with-requires-clause-in_x : goal.leaf_with-requires-clause-in_x
leaf_with-requires-clause-in_x g c = let i = window_in c.args.level c.args.w c.requires.window in let a = i.wide in let b = i.right in omega arith

pub leaf_with-requires-clause-in_y : goal.leaf_with-requires-clause-in_y
leaf_with-requires-clause-in_y g c = let i = window_in c.args.level c.args.w c.requires.window in let a = i.high in let b = i.bottom in omega arith

pub returns-in_err-top-clause-sound : goal.returns-in_err-top-clause-sound
returns-in_err-top-clause-sound g c =
    rw (handed_on c.from_residual-in_err-top.result c.from_residual-in_err-top.ensures.1) (λ grid h. c.in_err-top.ensures.sound grid
    (subst (λ told. HasRegion told c.args.tree.now c.args.layer c.args.level grid) (sym c.in_ok-leaf.ensures.left.told) h))

pub plan_known-requires-clause-blocks : goal.plan_known-requires-clause-blocks
plan_known-requires-clause-blocks g c =
    record { read = c.in_ok-leaf.ensures.block; top = c.in_ok-top.ensures.block; inside = c.in_ok-top.ensures.inside }

pub returns-clause-plan : goal.returns-clause-plan
returns-clause-plan g c =
    if_ok_weaker c.plan_known.result
    (λ edits law grid h.
    let n = c.args.level in
    let leaf = c.in_ok-leaf.ensures.leaf grid h in
    let cut_out = leaf_cut n grid (leaf_pair c.in_ok-leaf.leaf) leaf.member in
    let after = (subst (λ told. HasRegion told c.args.tree.now c.args.layer c.args.level grid) (sym c.in_ok-leaf.ensures.left.told) h) in
    let up = c.in_ok-top.ensures in
    law grid (ap (λ (r : Record). r ∷ []) (c.region_record-record.ensures.written [])
    ∙ sym (leaf_rows n c.args.layer grid (leaf_pair c.in_ok-leaf.leaf) c.requires.level.1 leaf.member))
    (record {
      blocks = record { read = c.in_ok-leaf.ensures.block; top = up.block; inside = up.inside };
      holds = pixel_in_block c.in_ok-leaf.leaf.block c.args.w c.requires.wide c.requires.high leaf.holds;
      read_cut = cut_out;
      top_cut = up.cut_out grid after cut_out;
      around = up.same grid after;
      ends = up.ends grid after cut_out;
      other = c.other_colour.ensures.first;
      first = λ e. c.other_colour.ensures.second (e ∙ (leaf_is n grid (leaf_pair c.in_ok-leaf.leaf) leaf.member).colour.each _ leaf.holds);
    }))
    c.plan_known.ensures.plan

pub returns-clause-sound : goal.returns-clause-sound
returns-clause-sound g c =
    if_err_weaker c.plan_known.result
    (λ e law grid h.
    let n = c.args.level in
    let leaf = c.in_ok-leaf.ensures.leaf grid h in
    let cut_out = leaf_cut n grid (leaf_pair c.in_ok-leaf.leaf) leaf.member in
    let after = (subst (λ told. HasRegion told c.args.tree.now c.args.layer c.args.level grid) (sym c.in_ok-leaf.ensures.left.told) h) in
    let up = c.in_ok-top.ensures in
    law grid (ap (λ (r : Record). r ∷ []) (c.region_record-record.ensures.written [])
    ∙ sym (leaf_rows n c.args.layer grid (leaf_pair c.in_ok-leaf.leaf) c.requires.level.1 leaf.member))
    (record {
      blocks = record { read = c.in_ok-leaf.ensures.block; top = up.block; inside = up.inside };
      holds = pixel_in_block c.in_ok-leaf.leaf.block c.args.w c.requires.wide c.requires.high leaf.holds;
      read_cut = cut_out;
      top_cut = up.cut_out grid after cut_out;
      around = up.same grid after;
      ends = up.ends grid after cut_out;
      other = c.other_colour.ensures.first;
      first = λ e. c.other_colour.ensures.second (e ∙ (leaf_is n grid (leaf_pair c.in_ok-leaf.leaf) leaf.member).colour.each _ leaf.holds);
    }))
    c.plan_known.ensures.sound

pub returns-clause-reads : goal.returns-clause-reads
returns-clause-reads g c =
    let b = c.in_ok-leaf.ensures.block in
    if_ok c.plan_known.result _
    (saved_less (24 * b.level) (6 + 24 * c.args.level) (6 + 24 * c.args.level) _ _ (omega arith)
    (then_saved (24 * b.level) 6 (24 * c.args.level) (6 + 24 * c.args.level) _ _ _ (omega arith) c.in_ok-leaf.ensures.reads
    (c.in_ok-top.ensures.reads b.level b.size)))

pub returns-in_err-top-clause-left : goal.returns-in_err-top-clause-left
returns-in_err-top-clause-left g c =
    rw (handed_on c.from_residual-in_err-top.result c.from_residual-in_err-top.ensures.1)
    (only_reads_err _ (only_reads_then _ g.met.S.PageStore.goes_on _ _ _ c.in_ok-leaf.ensures.left c.in_err-top.ensures.left))

pub returns-clause-left : goal.returns-clause-left
returns-clause-left g c =
    only_reads_free _ c.plan_known.result (only_reads_then _ g.met.S.PageStore.goes_on _ _ _ c.in_ok-leaf.ensures.left c.in_ok-top.ensures.left)
    c.plan_known.ensures.no_fault

pub returns-in_err-top-clause-zero : goal.returns-in_err-top-clause-zero
returns-in_err-top-clause-zero g c =
    zero_handed _ c.from_residual-in_err-top.result c.from_residual-in_err-top.ensures.1
    c.args.tree.now c.in_ok-leaf.ensures.left.told c.in_err-top.ensures.zero

pub returns-clause-zero : goal.returns-clause-zero
returns-clause-zero g c = if_err_weaker c.plan_known.result (λ e zero rs is. zero) c.plan_known.ensures.zero

pub returns-in_err-top-clause-bad : goal.returns-in_err-top-clause-bad
returns-in_err-top-clause-bad g c =
    bad_handed _ c.from_residual-in_err-top.result c.from_residual-in_err-top.ensures.1 c.args.tree.now c.in_ok-leaf.ensures.left.told c.in_err-top.ensures.bad

pub returns-clause-bad : goal.returns-clause-bad
returns-clause-bad g c = zero_named c.plan_known.result _ _ _ c.plan_known.ensures.zero

pub returns-in_err-leaf-clause-sound : goal.returns-in_err-leaf-clause-sound
returns-in_err-leaf-clause-sound g c = rw (handed_on c.from_residual.result c.from_residual.ensures.1) c.in_err-leaf.ensures.sound

pub returns-in_err-leaf-clause-zero : goal.returns-in_err-leaf-clause-zero
returns-in_err-leaf-clause-zero g c = rw (handed_on c.from_residual.result c.from_residual.ensures.1) c.in_err-leaf.ensures.zero

pub returns-in_err-leaf-clause-bad : goal.returns-in_err-leaf-clause-bad
returns-in_err-leaf-clause-bad g c = rw (handed_on c.from_residual.result c.from_residual.ensures.1) c.in_err-leaf.ensures.bad
