use Rattle.std.proofs.Common.{◌≤◌}
use Rattle.quilt_store.specs.Calls.{IsOnlyRead}
use Rattle.quilt_near.specs.Knowing.{Knows}
use Rattle.quilt_near.proofs.Goings.{Going}
use Rattle.quilt_near.proofs.Owing.{left}
use Rattle.quilt_near.proofs.search.nearest.Given as goal

abbrev pub invariant-loop-distance : goal.invariant-loop-distance
invariant-loop-distance g l = record {
  going : Going (g.B.SegBlocks.level_of l.blocks) l.p (g.B.SegBlocks.shows l.blocks l.fn.store) (g.S.PageStore.reads l.fn.store)
      (g.S.PageStore.reads l.store) l.queue l.best;
  left : IsOnlyRead g.S.PageStore l.fn.store l.store;
  known : Knows (g.B.SegBlocks.level_of l.blocks) (g.B.SegBlocks.shows l.blocks l.store) (g.B.SegBlocks.marked l.blocks l.store) l.known;
}

abbrev pub decreases-loop-distance : goal.decreases-loop-distance
decreases-loop-distance g l = left (λ e. e.1) l.queue
