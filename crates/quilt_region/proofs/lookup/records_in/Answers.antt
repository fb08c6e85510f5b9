use Rattle.std.proofs.Common.{ℕ, ◌+◌, ◌*◌, ◌≤◌, length, refl, ◌∙◌, ap, subst, arith}
use Rattle.quilt_loc.proofs.Blocks.{IsBlock-up, side_most}
use Rattle.quilt_world.specs.Tale.{Goes}
use Rattle.quilt_blocks.proofs.Chains.{member_pos}
use Rattle.quilt_region.proofs.Beside.{if_err_weaker, if_ok_weaker}
use Rattle.quilt_btree.proofs.Stops.{sound_zero}
use Rattle.quilt_region.proofs.Results.{if_ok_from}
use Rattle.quilt_region.proofs.WithinKeys.{length_within, read_within}
use Rattle.quilt_region.proofs.lookup.records_in.Goals as goal

pub code_of-requires-clause-in_x : goal.code_of-requires-clause-in_x
code_of-requires-clause-in_x g c = let m = side_most c.args.level c.requires.level.1 in let x = c.requires.block.in_x in omega arith

pub code_of-requires-clause-in_y : goal.code_of-requires-clause-in_y
code_of-requires-clause-in_y g c = let m = side_most c.args.level c.requires.level.1 in let y = c.requires.block.in_y in omega arith

pub end_of-requires : goal.end_of-requires
end_of-requires g c = IsBlock-up c.args.level 12 c.args.b c.requires.level.1 c.requires.block

pub returns-clause-sound : goal.returns-clause-sound
returns-clause-sound g c = if_err_weaker c.range.result (λ e f grid h. f h.records h.tree) c.range.ensures.sound

pub returns-clause-records : goal.returns-clause-records
returns-clause-records g c =
    if_ok_weaker c.range.result
    (λ records range grid h.
    let pos = member_pos c.args.level c.args.b c.requires.block in
    let end = c.end_of.ensures.value in
    read_within (g.S.PageStore.told c.args.store.now) c.args.tree.now c.args.layer c.args.level grid c.args.b _ _ records.items 4294967295
    c.requires.level.1 c.requires.block
    (record {
      low_layer = c.from.ensures;
      low_part = refl;
      low_code = c.code_of.ensures.value;
      low_depth = refl;
      low_item = refl;
      high_layer = c.from-2.ensures;
      high_part = refl;
      high_code = omega arith;
      high_depth = refl;
    })
    (omega arith) range h)
    c.range.ensures.range

pub returns-clause-reads : goal.returns-clause-reads
returns-clause-reads g c =
    if_ok_from c.range.result c.range.ensures.range c.range.ensures.reads
    (λ records range reads grid h.
    let n = c.args.level in
    let pos = member_pos n c.args.b c.requires.block in
    let end = c.end_of.ensures.value in
    let all =
    read_within (g.S.PageStore.told c.args.store.now) c.args.tree.now c.args.layer n grid c.args.b _ _ records.items 4294967295
    c.requires.level.1 c.requires.block
    (record {
      low_layer = c.from.ensures;
      low_part = refl;
      low_code = c.code_of.ensures.value;
      low_depth = refl;
      low_item = refl;
      high_layer = c.from-2.ensures;
      high_part = refl;
      high_code = omega arith;
      high_depth = refl;
    })
    (omega arith) range h in
    let many = records.ok.0 ∙ ap length all ∙ length_within n c.args.layer grid c.args.b in
    subst (λ (k : ℕ). Goes {A = ℕ} (λ old new. new ≤ old + 6 + 3 * k) (g.S.PageStore.reads c.args.store.now)
    (g.S.PageStore.reads c.range.new.store)) many reads)

pub returns-clause-zero : goal.returns-clause-zero
returns-clause-zero g c = if_err_weaker c.range.result (λ e sound rs is. sound_zero e (sound rs is)) c.range.ensures.sound
