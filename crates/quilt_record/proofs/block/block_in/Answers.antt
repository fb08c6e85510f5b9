use Rattle.std.proofs.Common.{◌≡◌, ◌-◌, true, false, ◌∙◌, sym, ap, subst, arith, Some}
use Rattle.quilt_types.specs.Plane.{IsBlock}
use Rattle.quilt_record.proofs.BlockKeys.{key_of_block, named_block, read_block, shifted}
use Rattle.quilt_record.proofs.block.block_in.Goals as goal

true_false : true ≡ false → ⊥
true_false e = cc

pub returns-then-level-k-clause-one : goal.returns-then-level-k-clause-one
returns-then-level-k-clause-one c b o = absurd (omega (arith, c.if-level-k.true, (key_of_block c.args.level c.args.k.now b c.requires o).0))

pub returns-then-k-ge-CODES-clause-one : goal.returns-then-k-ge-CODES-clause-one
returns-then-k-ge-CODES-clause-one c b o = absurd (omega (arith, c.if-k-ge-CODES.true, (key_of_block c.args.level c.args.k.now b c.requires o).1))

pub is_block-requires-clause-size : goal.is_block-requires-clause-size
is_block-requires-clause-size c = (c.args.level - c.args.k.now.depth, omega arith, shifted (c.args.level - c.args.k.now.depth) (omega (arith, c.requires)))

pub returns-then-not-is_block-clause-one : goal.returns-then-not-is_block-clause-one
returns-then-not-is_block-clause-one c b o =
    let p = c.pixel_of-p.ensures in
    absurd (true_false (sym
    (c.is_block.ensures.no (subst (IsBlock c.args.level)
    (sym (named_block c.args.level c.args.k.now b c.pixel_of-p.result c.requires o p.in_x p.in_y p.value)) o.block)) ∙ c.if-not-is_block.true))

pub returns-clause-some : goal.returns-clause-some
returns-clause-some c = read_block c.args.level c.args.k.now c.pixel_of-p.result c.requires c.if-level-k.false c.pixel_of-p.ensures.value
    (c.is_block.ensures.yes c.if-not-is_block.false)

pub returns-clause-one : goal.returns-clause-one
returns-clause-one c b o =
    let p = c.pixel_of-p.ensures in
    ap Some (named_block c.args.level c.args.k.now b c.pixel_of-p.result c.requires o p.in_x p.in_y p.value)
