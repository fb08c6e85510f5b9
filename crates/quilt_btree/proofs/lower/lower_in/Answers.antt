use Rattle.std.proofs.Common.{◌≡◌, ◌≤◌, ◌<◌, ◌-◌, true, List, take, drop, length, subst, arith}
use Rattle.std.specs.List.{list_all}
use Rattle.std.specs.Ordering.{is_le, is_lt}
use Rattle.quilt_record.specs.Records.{key_cmp}
use Rattle.quilt_record.specs.declared.record.Record.{Record}
use Rattle.quilt_node.proofs.Places.{leaf_records}
use Rattle.quilt_btree.proofs.cursors.Lowers.{none_lower, last_lower, own_records}
use Rattle.quilt_btree.proofs.lower.lower_in.Goals as goal

pub returns-then-n-eq0 : goal.returns-then-n-eq0
returns-then-n-eq0 c rs is =
    let n = c.place_from-n.result in
    none_lower c.args.k.now rs n c.if-n-eq0.true
    (subst (λ l. list_all (λ (r : Record). is_le (key_cmp c.args.k.now r.key)) (drop n l) ≡ true) (leaf_records c.args.bytes.now rs is)
    (c.place_from-n.ensures.higher (own_records c.args.bytes.now rs is)))

pub returns : goal.returns
returns c rs is =
    let n = c.place_from-n.result in
    let own = own_records c.args.bytes.now rs is in
    let same = leaf_records c.args.bytes.now rs is in
    let most : n ≤ length rs = subst (λ (l : List Record). n ≤ length l) same c.place_from-n.ensures.range in
    let some = c.if-n-eq0.false in
    let lt : n - 1 < length rs = omega arith in
    last_lower c.args.k.now rs n c.rec_in.result some (c.rec_in.ensures.leaf rs is lt)
    (subst (λ l. list_all (λ (r : Record). is_lt (key_cmp r.key c.args.k.now)) (take n l) ≡ true) same (c.place_from-n.ensures.lower own))
    (subst (λ l. list_all (λ (r : Record). is_le (key_cmp c.args.k.now r.key)) (drop n l) ≡ true) same (c.place_from-n.ensures.higher own))
