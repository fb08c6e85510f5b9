use Rattle.std.proofs.Common.{ℕ, List, ap, slice_index_or}
use Rattle.quilt_types.specs.declared.plane.Block.{Block}
use Rattle.quilt_near.proofs.QuarterBlocks.{valid_0, valid_1, valid_2, valid_3, four_pushed, placed}
use Rattle.quilt_near.proofs.choice.push_quarters.Goals as goal

pub block_distance-requires-clause-valid : goal.block_distance-requires-clause-valid
block_distance-requires-clause-valid c = valid_3 12 _ c.requires.valid c.requires.wide _ _ c.quarters.ensures.value

pub block_distance-requires-2-clause-valid : goal.block_distance-requires-2-clause-valid
block_distance-requires-2-clause-valid c = valid_2 12 _ c.requires.valid c.requires.wide _ _ c.quarters.ensures.value

pub block_distance-requires-3-clause-valid : goal.block_distance-requires-3-clause-valid
block_distance-requires-3-clause-valid c = valid_1 12 _ c.requires.valid c.requires.wide _ _ c.quarters.ensures.value

pub block_distance-requires-4-clause-valid : goal.block_distance-requires-4-clause-valid
block_distance-requires-4-clause-valid c = valid_0 12 _ c.requires.valid c.requires.wide _ _ c.quarters.ensures.value

pub returns : goal.returns
returns c =
    let at = λ (k : ℕ). ap (λ (z : List Block). slice_index_or z k (record { y = 0; x = 0; side = 0 })) c.quarters.ensures.value in
    four_pushed _ _ _ _ c.args.queue.now c.push.new.self c.push-2.new.self c.push-3.new.self c.push-4.new.self
    (placed c.args.p _ _ _ _ _ c.block_distance.ensures (at 3) c.in_ok-push.ensures)
    (placed c.args.p _ _ _ _ _ c.block_distance-2.ensures (at 2) c.in_ok-push-2.ensures)
    (placed c.args.p _ _ _ _ _ c.block_distance-3.ensures (at 1) c.in_ok-push-3.ensures)
    (placed c.args.p _ _ _ _ _ c.block_distance-4.ensures (at 0) c.in_ok-push-4.ensures)
