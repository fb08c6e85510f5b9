use Rattle.std.proofs.Common.{◌≤◌}
use Rattle.quilt_store.specs.Calls.{IsOnlyRead}
use Rattle.quilt_near.specs.Knowing.{Knows}
use Rattle.quilt_near.proofs.Owing.{left}
use Rattle.quilt_select.proofs.Descending.{Going, block_of}
use Rattle.quilt_select.proofs.descent.select.Given as goal

abbrev pub invariant-loop-block : goal.invariant-loop-block
invariant-loop-block g l = record {
  going : Going (g.B.SegBlocks.level_of l.blocks) l.fn.windows.items (g.B.SegBlocks.shows l.blocks l.fn.store) (g.S.PageStore.reads l.fn.store)
      (g.S.PageStore.reads l.store) l.stack l.found.entries;
  left : IsOnlyRead g.S.PageStore l.fn.store l.store;
  known : Knows (g.B.SegBlocks.level_of l.blocks) (g.B.SegBlocks.shows l.blocks l.store) (g.B.SegBlocks.marked l.blocks l.store) l.known;
}

abbrev pub decreases-loop-block : goal.decreases-loop-block
decreases-loop-block g l = left block_of l.stack
