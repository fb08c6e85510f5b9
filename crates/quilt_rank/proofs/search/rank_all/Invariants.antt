use Rattle.std.proofs.Common.{◌≡◌, fold, drop}
use Rattle.quilt_rank.specs.Ranks.{with_ranked}
use Rattle.quilt_rank.proofs.search.rank_all.Given as goal

abbrev pub invariant-loop-id : goal.invariant-loop-id
invariant-loop-id l = fold (with_ranked l.p l.k) l.ranks (drop l.id-index l.list) ≡ fold (with_ranked l.p l.k) l.fn.ranks l.list
