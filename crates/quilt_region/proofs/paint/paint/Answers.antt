use Rattle.std.proofs.Common.{◌≡◌, ℕ, ◌^◌, length, refl, sym, ◌∙◌, ap, subst, arith}
use Rattle.quilt_types.specs.declared.plane.Pixel.{Pixel}
use Rattle.quilt_types.specs.Layers.{Grid, colour_at}
use Rattle.quilt_blocks.specs.Cutting.{leaf_pair}
use Rattle.quilt_blocks.specs.Walk.{IsLeafAt}
use Rattle.quilt_blocks.specs.Painting.{grid_by_code}
use Rattle.quilt_blocks.proofs.Painting.{Paints-all}
use Rattle.quilt_region.specs.Painting.{colour_over}
use Rattle.quilt_region.proofs.Parts.{HasColours-at}
use Rattle.quilt_region.proofs.paint.paint.Goals as goal

pub loop-leaf-preserved : goal.loop-leaf-preserved
loop-leaf-preserved c =
    let n = c.args.a.now.level in
    let g = c.args.a.now.grid in
    let leaf = c.in-Some.leaf in
    let inv = c.loop-leaf.invariant in
    let more = c.in_ok-put_block.ensures in
    let here : IsLeafAt n g c.loop-leaf.leaves.at (leaf_pair leaf) =
    subst (λ (i : Grid). IsLeafAt n i c.loop-leaf.leaves.at (leaf_pair leaf)) inv.same_grid
    (subst (λ (k : ℕ). IsLeafAt k c.loop-leaf.leaves.grid c.loop-leaf.leaves.at (leaf_pair leaf)) inv.same_level c.in-Some.ensures.leaf) in
    let f : Pixel → ℕ = λ p. colour_over c.args.w c.args.c.0 (colour_at n g p) p in
    let from = here.from in
    let place = inv.place in
    let at = c.in-Some.ensures.at in
    let end = more.end in
    record {
      level = more.level ∙ inv.level;
      paints = HasColours-at c.loop-leaf.maker.level n f c.put_block.new.maker.colours inv.level
          (more.colours f (λ p held. ap (λ k. colour_over c.args.w c.args.c.0 k p) (here.colour.each p held))
          (HasColours-at n c.loop-leaf.maker.level f c.loop-leaf.maker.colours (sym inv.level) inv.paints));
      same_level = c.in-Some.ensures.level ∙ inv.same_level;
      same_grid = c.in-Some.ensures.grid ∙ inv.same_grid;
      place = omega arith;
    }

pub returns : goal.returns
returns c =
    let n = c.args.a.now.level in
    let g = c.args.a.now.grid in
    let inv = c.loop-leaf.invariant in
    let colours = c.loop-leaf.maker.colours in
    let f : Pixel → ℕ = λ p. colour_over c.args.w c.args.c.0 (colour_at n g p) p in
    let end : length colours ≡ 4 ^ n = sym inv.place ∙ c.in_default.ensures.whole.0 refl ∙ ap (λ (k : ℕ). 4 ^ k) inv.same_level in
    let level = c.finish.ensures.level ∙ inv.level in
    let grid = c.finish.ensures.value ∙ ap (λ (k : ℕ). grid_by_code k colours) inv.level
    ∙ Paints-all n f colours c.level.ensures.raster.most end (record { each = inv.paints.each }) in
    λ i. record { level = level i; grid = grid i }
