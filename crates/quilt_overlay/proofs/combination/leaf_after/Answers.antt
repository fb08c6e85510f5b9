use Rattle.quilt_loc.proofs.Blocks.{IsBlock-up}
use Rattle.quilt_overlay.proofs.combination.leaf_after.Goals as goal

pub end_together-requires-clause-first : goal.end_together-requires-clause-first
end_together-requires-clause-first c = IsBlock-up c.args.walk.now.level 12 c.args.last.block c.requires.last.most c.requires.last.block

pub end_together-requires-clause-second : goal.end_together-requires-clause-second
end_together-requires-clause-second c = IsBlock-up c.args.walk.now.level 12 c.args.passed c.requires.last.most c.requires.block
