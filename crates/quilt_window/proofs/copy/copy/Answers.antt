use Rattle.std.proofs.Common.{ℕ, ◌^◌, sym, ◌∙◌, ap}
use Rattle.quilt_blocks.specs.Painting.{grid_by_code}
use Rattle.quilt_window.specs.Copying.{copied_colour}
use Rattle.quilt_blocks.proofs.Squares.{whole_at}
use Rattle.quilt_blocks.proofs.Adding.{whole_next, Adds-whole, Adds-all}
use Rattle.quilt_window.proofs.copy.copy.Goals as goal

pub copy_block-requires-clause-valid : goal.copy_block-requires-clause-valid
copy_block-requires-clause-valid c = whole_at _ _ _ (sym c.level-level.ensures.value) c.whole_square-whole.ensures

pub copy_block-requires-clause-next : goal.copy_block-requires-clause-next
copy_block-requires-clause-next c = whole_next _ _ _ c.whole_square-whole.ensures c.new-maker.ensures

pub finish-requires : goal.finish-requires
finish-requires c =
    let n = c.args.a.now.level in
    let f = copied_colour n c.args.a.now.grid c.args.across c.args.down in
    let all = Adds-whole n c.level-level.result f _ c.new-maker.result c.copy_block.new.maker c.level-level.ensures.value c.whole_square-whole.ensures
    c.new-maker.ensures c.in_ok-copy_block.ensures.copied in
    all.long ∙ ap (λ (k : ℕ). 4 ^ k) (sym all.level)

pub returns : goal.returns
returns c =
    let n = c.args.a.now.level in
    let f = copied_colour n c.args.a.now.grid c.args.across c.args.down in
    let most = c.level-level.ensures.raster.most in
    let all = Adds-whole n c.level-level.result f _ c.new-maker.result c.copy_block.new.maker c.level-level.ensures.value c.whole_square-whole.ensures
    c.new-maker.ensures c.in_ok-copy_block.ensures.copied in
    let level = c.finish.ensures.level ∙ all.level in
    let grid =
    c.finish.ensures.value ∙ ap (λ (k : ℕ). grid_by_code k c.copy_block.new.maker.colours) all.level ∙ Adds-all n f c.copy_block.new.maker most all in
    λ i. record { level = level i; grid = grid i }
