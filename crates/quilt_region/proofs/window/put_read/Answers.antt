use Rattle.std.proofs.Common.{ℕ, ◌+◌, ◌*◌, length, sym, ◌∙◌, subst, arith}
use Rattle.std.proofs.lemmas.Result.{on_ok_weaker}
use Rattle.quilt_blocks.specs.Cutting.{leaf_pair}
use Rattle.quilt_types.specs.Plane.{IsBlock}
use Rattle.quilt_store.proofs.Reading.{only_reads_then, only_reads_free}
use Rattle.quilt_region.specs.Regions.{HasRegion}
use Rattle.quilt_region.specs.Windows.{leaves_within}
use Rattle.quilt_region.proofs.Beside.{if_err_weaker}
use Rattle.quilt_world.proofs.ReadCounts.{reads_then, reads_more}
use Rattle.quilt_region.proofs.Counting.{reads_plain}
use Rattle.quilt_region.proofs.Covers.{smaller_cut, larger_colour}
use Rattle.quilt_region.proofs.Parts.{HasColours-added}
use Rattle.quilt_btree.proofs.Handed.{handed_on}
use Rattle.quilt_btree.proofs.Stops.{zero_handed, bad_handed}
use Rattle.quilt_btree.proofs.stores.Looks.{only_reads_handed}
use Rattle.quilt_btree.proofs.ways.Damage.{zero_named}
use Rattle.quilt_region.proofs.window.put_read.Goals as goal

pub returns-in_err-records-clause-sound : goal.returns-in_err-records-clause-sound
returns-in_err-records-clause-sound g c =
    rw (handed_on c.from_residual-in_err-records.result c.from_residual-in_err-records.ensures.1)
    (λ grid h. c.in_err-records.ensures.sound grid (subst (λ told. HasRegion told c.args.tree.now c.args.layer c.args.level grid) (sym c.in_ok-leaf.ensures.left.told) h))

pub returns-clause-colours : goal.returns-clause-colours
returns-clause-colours g c =
    on_ok_weaker c.put_records.result
    (λ law grid f h same has.
    let after = subst (λ told. HasRegion told c.args.tree.now c.args.layer c.args.level grid) (sym c.in_ok-leaf.ensures.left.told) h in
    law grid f (c.deref.ensures.value ∙ c.in_ok-records.ensures.records grid after) same has)
    c.put_records.ensures.colours

pub returns-clause-sound : goal.returns-clause-sound
returns-clause-sound g c =
    if_err_weaker c.put_records.result
    (λ e law grid h.
    let after = subst (λ told. HasRegion told c.args.tree.now c.args.layer c.args.level grid) (sym c.in_ok-leaf.ensures.left.told) h in
    let over = c.if-b-leaf.false in
    law grid (c.deref.ensures.value ∙ c.in_ok-records.ensures.records grid after)
    (smaller_cut c.args.level grid (leaf_pair c.in_ok-leaf.leaf) c.args.b c.requires.block (c.in_ok-leaf.ensures.leaf grid h) (omega arith)))
    c.put_records.ensures.sound

pub returns-clause-reads : goal.returns-clause-reads
returns-clause-reads g c =
    on_ok_weaker c.put_records.result
    (λ end grid h.
    let after = subst (λ told. HasRegion told c.args.tree.now c.args.layer c.args.level grid) (sym c.in_ok-leaf.ensures.left.told) h in
    let own = length (leaves_within c.args.level grid c.args.b) in
    reads_then 6 (6 + 3 * own) (12 + 3 * own) _ _ _ (omega arith) c.in_ok-leaf.ensures.reads (reads_plain 6 (3 * own) _ _
    (c.in_ok-records.ensures.reads grid after)))
    c.put_records.ensures.end

pub returns-in_err-records-clause-zero : goal.returns-in_err-records-clause-zero
returns-in_err-records-clause-zero g c =
    zero_handed _ c.from_residual-in_err-records.result c.from_residual-in_err-records.ensures.1
    c.args.tree.now c.in_ok-leaf.ensures.left.told c.in_err-records.ensures.zero

pub returns-clause-zero : goal.returns-clause-zero
returns-clause-zero g c = if_err_weaker c.put_records.result (λ e zero rs is. zero) c.put_records.ensures.zero

pub returns-in_err-records-clause-bad : goal.returns-in_err-records-clause-bad
returns-in_err-records-clause-bad g c =
    bad_handed _ c.from_residual-in_err-records.result c.from_residual-in_err-records.ensures.1
    c.args.tree.now c.in_ok-leaf.ensures.left.told c.in_err-records.ensures.bad

pub returns-clause-bad : goal.returns-clause-bad
returns-clause-bad g c = zero_named c.put_records.result _ _ _ c.put_records.ensures.zero

pub returns-in_err-records-clause-left : goal.returns-in_err-records-clause-left
returns-in_err-records-clause-left g c =
    only_reads_handed _ c.from_residual-in_err-records.ensures.1
    (only_reads_then _ g.met.S.PageStore.goes_on _ _ _ c.in_ok-leaf.ensures.left c.in_err-records.ensures.left)

pub returns-clause-left : goal.returns-clause-left
returns-clause-left g c =
    only_reads_free _ c.put_records.result (only_reads_then _ g.met.S.PageStore.goes_on _ _ _ c.in_ok-leaf.ensures.left c.in_ok-records.ensures.left)
    c.put_records.ensures.no_fault

pub put_one-requires-clause-block : goal.put_one-requires-clause-block
put_one-requires-clause-block g c = subst (λ (n : ℕ). IsBlock n c.args.b) (sym c.requires.same_level) c.requires.block

pub returns-then-b-leaf-clause-colours : goal.returns-then-b-leaf-clause-colours
returns-then-b-leaf-clause-colours g c =
    on_ok_weaker c.put_one.result
    (λ law grid f h same.
    HasColours-added _ _ f c.args.maker.now.colours c.put_one.new.maker.colours c.requires.same_level
    (law f (λ p held. same p held
    ∙ larger_colour c.args.level grid (leaf_pair c.in_ok-leaf.leaf) c.args.b p c.requires.block (c.in_ok-leaf.ensures.leaf grid h) c.if-b-leaf.true held)))
    c.put_one.ensures.colours

pub returns-then-b-leaf-clause-sound : goal.returns-then-b-leaf-clause-sound
returns-then-b-leaf-clause-sound g c = if_err_weaker c.put_one.result (λ e law grid h. law) c.put_one.ensures.sound

pub returns-then-b-leaf-clause-zero : goal.returns-then-b-leaf-clause-zero
returns-then-b-leaf-clause-zero g c = if_err_weaker c.put_one.result (λ e zero rs is. zero) c.put_one.ensures.zero

pub returns-then-b-leaf-clause-bad : goal.returns-then-b-leaf-clause-bad
returns-then-b-leaf-clause-bad g c = zero_named c.put_one.result _ _ _ c.put_one.ensures.zero

pub returns-then-b-leaf-clause-left : goal.returns-then-b-leaf-clause-left
returns-then-b-leaf-clause-left g c = only_reads_free _ c.put_one.result c.in_ok-leaf.ensures.left c.put_one.ensures.no_fault

pub returns-then-b-leaf-clause-reads : goal.returns-then-b-leaf-clause-reads
returns-then-b-leaf-clause-reads g c =
    on_ok_weaker c.put_one.result
    (λ end grid h. reads_more 6 (12 + 3 * length (leaves_within c.args.level grid c.args.b)) _ _ (omega arith) c.in_ok-leaf.ensures.reads)
    c.put_one.ensures.end

pub returns-in_err-leaf-clause-sound : goal.returns-in_err-leaf-clause-sound
returns-in_err-leaf-clause-sound g c = rw (handed_on c.from_residual.result c.from_residual.ensures.1) c.in_err-leaf.ensures.sound

pub returns-in_err-leaf-clause-zero : goal.returns-in_err-leaf-clause-zero
returns-in_err-leaf-clause-zero g c = rw (handed_on c.from_residual.result c.from_residual.ensures.1) c.in_err-leaf.ensures.zero

pub returns-in_err-leaf-clause-bad : goal.returns-in_err-leaf-clause-bad
returns-in_err-leaf-clause-bad g c = rw (handed_on c.from_residual.result c.from_residual.ensures.1) c.in_err-leaf.ensures.bad
