use Rattle.std.proofs.Common.{◌≡◌, ℕ, ◌^◌, length, refl, sym, ◌∙◌, ap, subst, arith}
use Rattle.quilt_types.specs.declared.plane.Block.{Block}
use Rattle.quilt_loc.specs.Codes.{code_to}
use Rattle.quilt_loc.proofs.Quartered.{side_le}
use Rattle.quilt_blocks.specs.Painting.{Painted, grid_by_code}
use Rattle.quilt_blocks.proofs.Painting.{Paints-none, Paints-all}
use Rattle.quilt_blocks.proofs.Squares.{whole_at, code_to-whole}
use Rattle.quilt_blocks.proofs.Adding.{whole_next}
use Rattle.quilt_region.specs.Painting.{HasColours}
use Rattle.quilt_region.specs.Windows.{known_colour}
use Rattle.quilt_region.proofs.fill.fill.Goals as goal

pub put_around-requires-clause-block : goal.put_around-requires-clause-block
put_around-requires-clause-block c = whole_at _ _ _ refl c.whole_square-whole.ensures

pub put_around-requires-clause-wide : goal.put_around-requires-clause-wide
put_around-requires-clause-wide c =
    let s = side_le c.args.level c.args.known.now.read c.requires.known.read in
    let w = ap (λ (b : Block). b.side) c.whole_square-whole.ensures in
    omega arith

pub put_around-requires-clause-next : goal.put_around-requires-clause-next
put_around-requires-clause-next c = sym (whole_next _ _ _ c.whole_square-whole.ensures c.new-maker.ensures)

pub finish-requires : goal.finish-requires
finish-requires c =
    let n = c.args.level in
    c.in_ok-put_around.ensures.end ∙ ap code_to c.whole_square-whole.ensures ∙ code_to-whole n ∙ ap (λ (k : ℕ). 4 ^ k) (sym c.in_ok-put_around.ensures.level)

pub returns-clause-list : goal.returns-clause-list
returns-clause-list c g is =
    let n = c.args.level in
    let f = known_colour n g c.args.known.now in
    let none = ap (λ (m : Painted). m.colours) c.new-maker.ensures in
    let start = Paints-none n f in
    let empty : HasColours n f c.new-maker.result.colours = subst (HasColours n f) (sym none) (record { each = start.each }) in
    let has = c.in_ok-put_around.ensures.colours g is empty in
    let end : length c.put_around.new.maker.colours ≡ 4 ^ n = c.in_ok-put_around.ensures.end ∙ ap code_to c.whole_square-whole.ensures ∙ code_to-whole n in
    let level = c.finish.ensures.level ∙ c.in_ok-put_around.ensures.level in
    let grid = c.finish.ensures.value ∙ ap (λ (k : ℕ). grid_by_code k c.put_around.new.maker.colours) c.in_ok-put_around.ensures.level
    ∙ Paints-all n f c.put_around.new.maker.colours c.requires.level.1 end (record { each = has.each }) in
    λ i. record { level = level i; grid = grid i }
