use Rattle.quilt_loc.proofs.Blocks.{IsBlock-up}
use Rattle.quilt_rank.proofs.SmallParts.{small_part}
use Rattle.quilt_rank.proofs.search.open.Goals as goal

pub take_part-requires-clause-valid : goal.take_part-requires-clause-valid
take_part-requires-clause-valid g c = IsBlock-up _ 12 _ c.requires.low c.requires.block

pub take_part-requires-clause-small : goal.take_part-requires-clause-small
take_part-requires-clause-small g c = small_part _ c.args.b _ c.requires.low c.in_ok-part.ensures.part_of

pub returns-in-Err-clause-named : goal.returns-in-Err-clause-named
returns-in-Err-clause-named g c = g.met.B.SegBlocks.named_memory c.args.blocks.now c.args.store.now
