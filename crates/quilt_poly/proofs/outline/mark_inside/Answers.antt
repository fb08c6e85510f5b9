use Rattle.std.proofs.Common.{◌≡◌, ℕ, List, length, ◌∙◌, ap, arith}
use Rattle.quilt_poly.specs.Bits.{ones_right}
use Rattle.quilt_poly.proofs.Strips.{ones_right-none}
use Rattle.quilt_poly.proofs.outline.mark_inside.Goals as goal

pub returns : goal.returns
returns c = record {
  each = λ p px py.
      let s = c.args.side in
      let old = c.args.words.now in
      let none : ones_right old s p.y p.x ≡ 0 =
      ap (λ (l : List ℕ). ones_right l s p.y p.x) c.requires.clear ∙ ones_right-none (length old) s p.y p.x in
      let marked = c.mark_edges.ensures p px py in
      let settled = c.settle.ensures.each p px py in
      omega arith;
}
