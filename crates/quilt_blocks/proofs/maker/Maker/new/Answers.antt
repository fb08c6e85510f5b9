use Rattle.std.proofs.Common.{List, sym, ap, subst}
use Rattle.quilt_blocks.specs.declared.leaf.Leaf.{Leaf}
use Rattle.quilt_blocks.specs.Painting.{Painted, colours_of}
use Rattle.quilt_blocks.specs.Listing.{IsMaking, leaf_pairs}
use Rattle.quilt_blocks.proofs.Merging.{IsMaking-none}
use Rattle.quilt_blocks.proofs.maker.Maker.new.Goals as goal

pub invariant_of-result : goal.invariant_of-result
invariant_of-result c =
    subst (λ (l : List Leaf). IsMaking c.args.level (leaf_pairs l)) (sym c.new.ensures.items) (IsMaking-none c.args.level c.requires.least c.requires.most)

pub returns : goal.returns
unfolding colours_of
returns c =
    let at : List Leaf → Painted = λ l. record { level = c.args.level; colours = colours_of (leaf_pairs l) } in
    ap at c.new.ensures.items
