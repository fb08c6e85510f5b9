use Rattle.std.proofs.Common.{◌+◌, length, refl}
use Rattle.quilt_batch.proofs.Parts.{part_full}
use Rattle.quilt_batch.proofs.merge.merged.Goals as goal

pub returns-in-Ok-Some-clause-merge : goal.returns-in-Ok-Some-clause-merge
returns-in-Ok-Some-clause-merge c =
    part_full c.args.removed.now c.args.added.now c.in-Ok-Some.part.batch c.in-Ok-Some.part.goes.now c.in-Ok-Some.part.comes.now
    (length c.args.removed.now + length c.args.added.now) (rw c.in-Ok-Some.field-0-is at c.in-Ok-Some.ensures.part) refl
    (rw c.in-Ok-Some.field-0-is at c.in-Ok-Some.ensures.many)
