use Rattle.std.proofs.Common.{◌*◌, sym, ◌∙◌, ap, subst, arith}
use Rattle.quilt_types.specs.declared.plane.Block.{Block}
use Rattle.quilt_types.specs.Plane.{whole, IsBlock}
use Rattle.quilt_loc.proofs.Blocks.{IsBlock-up}
use Rattle.quilt_loc.proofs.Quartered.{IsBlock-whole, wide_side}
use Rattle.quilt_par.proofs.Quadrants.{quadrant_is, quadrant_found}
use Rattle.quilt_par.proofs.square.quadrant.Goals as goal

pub quarters-requires-clause-valid : goal.quarters-requires-clause-valid
quarters-requires-clause-valid c =
    let n = c.args.level in
    subst (IsBlock 12) (sym c.whole_square.ensures) (IsBlock-up n 12 (whole n) c.requires.most (IsBlock-whole n))

pub quarters-requires-clause-wide : goal.quarters-requires-clause-wide
quarters-requires-clause-wide c =
    let n = c.args.level in
    let w = ap (λ (b : Block). b.side) c.whole_square.ensures in
    let s = wide_side n c.requires.least in
    omega arith

pub returns-clause-value : goal.returns-clause-value
returns-clause-value c = quadrant_found c.args.level c.args.number _ _ c.quarters.result c.whole_square.ensures c.quarters.ensures.value c.from.ensures

pub returns-clause-valid : goal.returns-clause-valid
returns-clause-valid c =
    let n = c.args.level in
    let value = quadrant_found n c.args.number _ _ c.quarters.result c.whole_square.ensures c.quarters.ensures.value c.from.ensures in
    subst (IsBlock n) (sym value) (quadrant_is n c.args.number c.requires.least c.requires.four).block

pub returns-clause-half : goal.returns-clause-half
returns-clause-half c =
    let n = c.args.level in
    let value = quadrant_found n c.args.number _ _ c.quarters.result c.whole_square.ensures c.quarters.ensures.value c.from.ensures in
    ap (λ (q : Block). 2 * q.side) value ∙ (quadrant_is n c.args.number c.requires.least c.requires.four).half
