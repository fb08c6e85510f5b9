use Rattle.std.proofs.Common.{◌≡◌, replicate}
use Rattle.quilt_world.proofs.image.Image.new.Given as goal

abbrev pub invariant-loop-done : goal.invariant-loop-done
invariant-loop-done l = l.all.items ≡ replicate l._done (replicate 4096 0)
