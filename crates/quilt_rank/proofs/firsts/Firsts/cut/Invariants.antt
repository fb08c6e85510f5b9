use Rattle.std.proofs.Common.{◌≡◌, take, map, length}
use Rattle.quilt_rank.proofs.Adding.{turned}
use Rattle.quilt_rank.proofs.firsts.Firsts.cut.Given as goal

abbrev pub invariant-loop-self : goal.invariant-loop-self
invariant-loop-self l = take l.k (map turned l.self-inside.ranks.keys) ≡ take l.k l.fn.self

abbrev pub decreases-loop-self : goal.decreases-loop-self
decreases-loop-self l = length l.self-inside.ranks.keys
