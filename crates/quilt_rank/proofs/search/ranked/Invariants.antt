use Rattle.std.proofs.Common.{◌≤◌}
use Rattle.quilt_types.specs.declared.stop.Stop.TheVariants.{Memory}
use Rattle.quilt_store.specs.Calls.{IsOnlyRead}
use Rattle.quilt_near.specs.Endings.{EndsSearch}
use Rattle.quilt_near.specs.Knowing.{Knows}
use Rattle.quilt_near.proofs.Owing.{left}
use Rattle.quilt_rank.proofs.Goings.{Going, block_of}
use Rattle.quilt_rank.proofs.search.ranked.Given as goal

abbrev pub invariant-loop-distance : goal.invariant-loop-distance
invariant-loop-distance g l = record {
  going : Going (g.B.SegBlocks.level_of l.blocks) l.p l.k (g.B.SegBlocks.shows l.blocks l.fn.store) (g.S.PageStore.reads l.fn.store)
      (g.S.PageStore.reads l.store) l.queue l.ranks;
  left : IsOnlyRead g.S.PageStore l.fn.store l.store;
  known : Knows (g.B.SegBlocks.level_of l.blocks) (g.B.SegBlocks.shows l.blocks l.store) (g.B.SegBlocks.marked l.blocks l.store) l.known;
  -- want of memory would end the search as it may
  ended : EndsSearch (g.B.SegBlocks.looked l.blocks) l.fn.store l.store Memory;
}

abbrev pub decreases-loop-distance : goal.decreases-loop-distance
decreases-loop-distance g l = left block_of l.queue
