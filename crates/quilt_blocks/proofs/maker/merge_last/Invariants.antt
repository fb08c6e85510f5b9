use Rattle.std.proofs.Common.{◌≡◌, length}
use Rattle.quilt_blocks.specs.Painting.{colours_of}
use Rattle.quilt_blocks.specs.Listing.{IsGrowing, leaf_pairs}
use Rattle.quilt_blocks.proofs.maker.merge_last.Given as goal

abbrev pub invariant-loop-whole : goal.invariant-loop-whole
invariant-loop-whole l = record {
  growing : IsGrowing l.level (leaf_pairs l.leaves.items);
  colours : colours_of (leaf_pairs l.leaves.items) ≡ colours_of (leaf_pairs l.initial.leaves.items);
}

abbrev pub decreases-loop-whole : goal.decreases-loop-whole
decreases-loop-whole l = length l.leaves.items
