use Rattle.std.proofs.Common.{◌≡◌, ℕ, ◌*◌, ◌/◌, ◌^◌, ◌<◌, ◌≤◌, [], refl, sym, ◌∙◌, ap, subst, arith}
use Rattle.quilt_types.specs.declared.plane.Block.{Block}
use Rattle.quilt_types.specs.Plane.{side}
use Rattle.quilt_types.specs.Layers.{colour_at}
use Rattle.quilt_loc.specs.Codes.{code_from, code_to}
use Rattle.quilt_blocks.specs.Painting.{Painted, grid_by_code}
use Rattle.quilt_blocks.specs.Adding.{AddsColours}
use Rattle.quilt_blocks.proofs.Adding.{Adds-all}
use Rattle.quilt_raster.proofs.Points.{grid_of-colour_at}
use Rattle.quilt_par.specs.declared.part.Part.{Part}
use Rattle.quilt_par.specs.Parts.{moved_colour, quadrant_at, part_in}
use Rattle.quilt_par.proofs.Quadrants.{quadrant_codes, four_squares, part_found, Adds-quadrant}
use Rattle.quilt_par.proofs.part.merged.Goals as goal

pub put-requires-clause-next : goal.put-requires-clause-next
put-requires-clause-next c =
    let codes = quadrant_codes c.args.level c.loop-number.number c.requires.least c.requires.most (let lt = c.loop-number-test.true in omega arith) in
    ap (λ (b : Block). code_from b) c.quadrant.ensures.value ∙ codes.from ∙ sym c.loop-number.invariant.long

pub loop-number-preserved : goal.loop-number-preserved
loop-number-preserved c =
    let n = c.args.level in
    let i = c.loop-number.number in
    let start : Painted = record { level = n; colours = [] } in
    let m = c.loop-number.maker in
    let new = c.put.new.maker in
    let inv = c.loop-number.invariant in
    let test = c.loop-number-test.true in
    let lt : i < 4 = omega arith in
    let parts = c.args.parts.now in
    let found = c.index-parts-from.result in
    let part = part_found parts i c.from.result found c.requires.four lt c.from.ensures c.index-parts-from.is in
    let b = c.quadrant.result in
    let step : AddsColours n (moved_colour (quadrant_at n i) (part_in parts i)) (code_to (quadrant_at n i)) m new =
    subst (λ (q : Block). AddsColours n (moved_colour q (part_in parts i)) (code_to q) m new) c.quadrant.ensures.value
    (subst (λ (p : Part). AddsColours n (moved_colour b p) (code_to b) m new) part
    (subst (λ (k : ℕ). AddsColours k (moved_colour b found) (code_to b) m new) inv.level c.in_ok-put.ensures)) in
    let codes = quadrant_codes n i c.requires.least c.requires.most lt in
    record {
      level = step.level ∙ inv.level;
      long = step.long ∙ codes.to;
      adds = λ g all. Adds-quadrant n i g (part_in parts i) start m new c.requires.least c.requires.most lt refl (all.each i lt) (inv.adds g all) step;
    }

-- all codes are there at the end
whole : (n i : ℕ) → 1 ≤ n → n ≤ 12 → i ≡ 4 → i * (side n / 2 * (side n / 2)) ≡ 4 ^ n
whole n i least most end = ap (λ k. k * (side n / 2 * (side n / 2))) end ∙ four_squares n least most

pub finish-requires : goal.finish-requires
finish-requires c =
    let n = c.args.level in
    let test = c.loop-number-test.false in
    let end : c.loop-number.number ≡ 4 = omega arith in
    let inv = c.loop-number.invariant in
    inv.long ∙ whole n c.loop-number.number c.requires.least c.requires.most end ∙ ap (λ (k : ℕ). 4 ^ k) (sym inv.level)

pub returns : goal.returns
returns c g long all =
    let n = c.args.level in
    let m = c.loop-number.maker in
    let start : Painted = record { level = n; colours = [] } in
    let test = c.loop-number-test.false in
    let end : c.loop-number.number ≡ 4 = omega arith in
    let inv = c.loop-number.invariant in
    let adds = subst (λ (k : ℕ). AddsColours n (colour_at n g) k start m) (whole n c.loop-number.number c.requires.least c.requires.most end) (inv.adds g all) in
    let level = c.finish.ensures.level ∙ inv.level in
    let grid = c.finish.ensures.value ∙ ap (λ (k : ℕ). grid_by_code k m.colours) inv.level ∙ Adds-all n (colour_at n g) m c.requires.most adds
    ∙ sym (grid_of-colour_at n g long) in
    λ j. record { level = level j; grid = grid j }
