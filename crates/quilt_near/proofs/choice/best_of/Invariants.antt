use Rattle.std.proofs.Common.{◌≡◌, fold, drop}
use Rattle.quilt_near.specs.Choices.{better_seg}
use Rattle.quilt_near.proofs.choice.best_of.Given as goal

abbrev pub invariant-loop-id : goal.invariant-loop-id
invariant-loop-id l = fold (better_seg l.p) l.best (drop l.id-index l.list) ≡ fold (better_seg l.p) l.fn.best l.list
