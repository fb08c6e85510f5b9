use Rattle.std.proofs.Common.{◌^◌, ℕ, List, eqb, subst}
use Rattle.std.specs.List.Sorted.{IsPermutation}
use Rattle.std.proofs.lemmas.List.Filters.{dedup_is}
use Rattle.quilt_join.proofs.Sharings.{row_same}
use Rattle.quilt_join.proofs.rows.row_of.Goals as goal

pub returns : goal.returns
returns c b serves =
    let buckets = c.args.buckets.now in
    let sorted = c.sort.new.self.items in
    row_same (2 ^ buckets.shift) buckets.columns buckets.lists.items b c.args.s sorted c.dedup.new.self.items serves.filled serves.rising
    (subst (λ (l : List ℕ). IsPermutation l sorted) c.in_ok-ids.ensures c.in_ok-sort.ensures.permutation) c.in_ok-sort.ensures.sorted
    (dedup_is eqb sorted c.dedup.new.self.items c.dedup.ensures.filtered)
