use Rattle.std.proofs.Common.{ℕ, ◌^◌, refl, sym, ◌∙◌, ap, subst, arith}
use Rattle.quilt_types.specs.Layers.{Grid, colour_at}
use Rattle.quilt_types.specs.Algebra.{recoloured_by}
use Rattle.quilt_blocks.specs.Cutting.{leaf_pair}
use Rattle.quilt_blocks.specs.Walk.{IsLeafAt}
use Rattle.quilt_blocks.specs.Painting.{Painted}
use Rattle.quilt_blocks.proofs.Painting.{Paints, Paints-push}
use Rattle.quilt_overlay.specs.Combining.{numbers_of}
use Rattle.quilt_overlay.proofs.Finished.{finished}
use Rattle.quilt_overlay.proofs.colours.recolour.Goals as goal

pub loop-leaf-preserved : goal.loop-leaf-preserved
loop-leaf-preserved c =
    let n = c.args.a.now.level in
    let g = c.args.a.now.grid in
    let leaf = c.in-Some.leaf in
    let inv = c.loop-leaf.invariant in
    let made : ℕ → ℕ = recoloured_by (numbers_of c.args.pairs.now) in
    let here : IsLeafAt n g c.loop-leaf.leaves.at (leaf_pair leaf) =
    subst (λ (i : Grid). IsLeafAt n i c.loop-leaf.leaves.at (leaf_pair leaf)) inv.same_grid
    (subst (λ (k : ℕ). IsLeafAt k c.loop-leaf.leaves.grid c.loop-leaf.leaves.at (leaf_pair leaf)) inv.same_level c.in-Some.ensures.leaf) in
    let ok = c.in_ok-push.ensures.ok in
    let end = c.in_ok-push.ensures.end in
    let from = here.from in
    let place = inv.place in
    let at = c.in-Some.ensures.at in
    record {
      level = ap (λ (m : Painted). m.level) ok ∙ inv.level;
      paints = subst (Paints n (λ p. made (colour_at n g p))) (sym (ap (λ (m : Painted). m.colours) ok))
          (Paints-push n (λ p. made (colour_at n g p)) c.loop-leaf.maker.colours leaf.block _ c.level.ensures.raster.most here.block (omega arith)
          (λ p held. ap made (here.colour.each p held) ∙ sym c.new_colour.ensures) inv.paints);
      same_level = c.in-Some.ensures.level ∙ inv.same_level;
      same_grid = c.in-Some.ensures.grid ∙ inv.same_grid;
      place = omega arith;
    }

pub returns : goal.returns
returns c =
    let inv = c.loop-leaf.invariant in
    finished c.args.a.now.level _ c.loop-leaf.maker _ c.level.ensures.raster.most inv.level
    (sym inv.place ∙ c.in_default.ensures.whole.0 refl ∙ ap (λ (k : ℕ). 4 ^ k) inv.same_level) inv.paints c.finish.ensures.level c.finish.ensures.value
