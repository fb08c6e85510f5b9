use Rattle.std.proofs.Common.{ℕ, ◌^◌, List, sym, ◌∙◌, ap, subst}
use Rattle.quilt_types.specs.declared.plane.Block.{Block}
use Rattle.quilt_loc.specs.Codes.{code_to}
use Rattle.quilt_blocks.specs.Painting.{Painted, grid_by_code}
use Rattle.quilt_blocks.specs.Cutting.{leaves_by_code}
use Rattle.quilt_blocks.specs.Adding.{AddsColours}
use Rattle.quilt_buffer.specs.Reach.{within_reach, blocks_with_colour}
use Rattle.quilt_blocks.proofs.Squares.{whole_at}
use Rattle.quilt_blocks.proofs.Adding.{whole_next, Adds-whole, Adds-all}
use Rattle.quilt_buffer.proofs.Buffers.{buffered_is}
use Rattle.quilt_buffer.proofs.zone.buffer.Goals as goal

pub fill-requires-clause-valid : goal.fill-requires-clause-valid
fill-requires-clause-valid c = whole_at _ _ _ (ap (λ (m : Painted). m.level) c.new-maker.ensures) c.whole_square-whole.ensures

pub fill-requires-clause-next : goal.fill-requires-clause-next
fill-requires-clause-next c = whole_next _ _ _ c.whole_square-whole.ensures c.new-maker.ensures

pub finish-requires : goal.finish-requires
finish-requires c =
    let n = c.args.a.now.level in
    let g = c.args.a.now.grid in
    let f = within_reach c.args.r (blocks_with_colour (leaves_by_code n g)) in
    let new = c.fill.new.maker in
    let blocks = c.deref.ensures.value ∙ c.in_ok-blocks.ensures in
    let at_level = ap (λ (m : Painted). m.level) c.new-maker.ensures ∙ c.level-level.ensures.value in
    let b = c.whole_square-whole.result in
    let by_level = subst (λ (k : ℕ). AddsColours k (within_reach c.args.r c.deref.result.now) (code_to b) c.new-maker.result new) at_level c.in_ok-fill.ensures in
    let filled = subst (λ (l : List Block). AddsColours n (within_reach c.args.r l) (code_to b) c.new-maker.result new) blocks by_level in
    let all = Adds-whole n c.level-level.result f b c.new-maker.result new
    c.level-level.ensures.value c.whole_square-whole.ensures c.new-maker.ensures filled in
    all.long ∙ ap (λ (k : ℕ). 4 ^ k) (sym all.level)

pub returns : goal.returns
returns c =
    let n = c.args.a.now.level in
    let g = c.args.a.now.grid in
    let most = c.level-level.ensures.raster.most in
    let f = within_reach c.args.r (blocks_with_colour (leaves_by_code n g)) in
    let new = c.fill.new.maker in
    let blocks = c.deref.ensures.value ∙ c.in_ok-blocks.ensures in
    let at_level = ap (λ (m : Painted). m.level) c.new-maker.ensures ∙ c.level-level.ensures.value in
    let b = c.whole_square-whole.result in
    let by_level = subst (λ (k : ℕ). AddsColours k (within_reach c.args.r c.deref.result.now) (code_to b) c.new-maker.result new) at_level c.in_ok-fill.ensures in
    let filled = subst (λ (l : List Block). AddsColours n (within_reach c.args.r l) (code_to b) c.new-maker.result new) blocks by_level in
    let all = Adds-whole n c.level-level.result f b c.new-maker.result new
    c.level-level.ensures.value c.whole_square-whole.ensures c.new-maker.ensures filled in
    let level = c.finish.ensures.level ∙ all.level in
    let grid = c.finish.ensures.value ∙ ap (λ (k : ℕ). grid_by_code k new.colours) all.level ∙ Adds-all n f new most all ∙ buffered_is n g c.args.r most in
    λ i. record { level = level i; grid = grid i }
