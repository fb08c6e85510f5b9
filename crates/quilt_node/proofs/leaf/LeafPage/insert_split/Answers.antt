use Rattle.std.proofs.Common.{◌≡◌, ◌-◌, ◌∙◌, sym, ap, length, arith, length-take-le, length-drop}
use Rattle.std.specs.List.{insert}
use Rattle.quilt_node.specs.Pages.{is_ascending}
use Rattle.quilt_node.specs.Nodes.{keys_of}
use Rattle.quilt_node.proofs.Leaves.{take_insert_low, drop_insert_low, take_insert_high, drop_insert_high, keys_low, keys_high}
use Rattle.quilt_node.proofs.leaf.LeafPage.insert_split.Goals as goal

pub insert-requires-clause-room : goal.insert-requires-clause-room
insert-requires-clause-room c =
    let e : length c.split_off-right.new.self ≡ 71 =
    ap length c.split_off-right.ensures.left ∙ length-take-le 71 c.args.self.now (omega (arith, c.requires.full)) in
    omega (arith, e)

pub insert-requires-clause-place : goal.insert-requires-clause-place
insert-requires-clause-place c =
    let e : length c.split_off-right.new.self ≡ 71 =
    ap length c.split_off-right.ensures.left ∙ length-take-le 71 c.args.self.now (omega (arith, c.requires.full)) in
    omega (arith, e, c.if-i-lt-LEAST_RECORDS.true)

pub insert-requires-clause-order : goal.insert-requires-clause-order
insert-requires-clause-order c =
    ap (λ l. is_ascending (keys_of (insert l c.args.i c.args.r.now))) c.split_off-right.ensures.left
    ∙ keys_low c.args.self.now c.args.i 71 c.args.r.now (omega (arith, c.if-i-lt-LEAST_RECORDS.true)) c.requires.order

pub insert-requires-else-i-lt-LEAST_RECORDS-clause-room : goal.insert-requires-else-i-lt-LEAST_RECORDS-clause-room
insert-requires-else-i-lt-LEAST_RECORDS-clause-room c =
    let e : length c.split_off-right-else-i-lt-LEAST_RECORDS.result ≡ length c.args.self.now - 72 =
    ap length c.split_off-right-else-i-lt-LEAST_RECORDS.ensures.right ∙ length-drop 72 c.args.self.now in
    omega (arith, e, c.requires.full)

pub insert-requires-else-i-lt-LEAST_RECORDS-clause-place : goal.insert-requires-else-i-lt-LEAST_RECORDS-clause-place
insert-requires-else-i-lt-LEAST_RECORDS-clause-place c =
    let e : length c.split_off-right-else-i-lt-LEAST_RECORDS.result ≡ length c.args.self.now - 72 =
    ap length c.split_off-right-else-i-lt-LEAST_RECORDS.ensures.right ∙ length-drop 72 c.args.self.now in
    omega (arith, e, c.requires.place)

pub insert-requires-else-i-lt-LEAST_RECORDS-clause-order : goal.insert-requires-else-i-lt-LEAST_RECORDS-clause-order
insert-requires-else-i-lt-LEAST_RECORDS-clause-order c =
    ap (λ l. is_ascending (keys_of (insert l (c.args.i - 72) c.args.r.now))) c.split_off-right-else-i-lt-LEAST_RECORDS.ensures.right
    ∙ keys_high c.args.self.now c.args.i 72 (c.args.i - 72) c.args.r.now (omega (arith, c.if-i-lt-LEAST_RECORDS.false)) (omega (arith, c.requires.full)) c.requires.order

pub returns-then-i-lt-LEAST_RECORDS-clause-left : goal.returns-then-i-lt-LEAST_RECORDS-clause-left
returns-then-i-lt-LEAST_RECORDS-clause-left c =
    c.insert.ensures ∙ ap (λ l. insert l c.args.i c.args.r.now) c.split_off-right.ensures.left
    ∙ sym (take_insert_low c.args.self.now c.args.i 71 c.args.r.now (omega (arith, c.if-i-lt-LEAST_RECORDS.true)))

pub returns-then-i-lt-LEAST_RECORDS-clause-right : goal.returns-then-i-lt-LEAST_RECORDS-clause-right
returns-then-i-lt-LEAST_RECORDS-clause-right c =
    c.split_off-right.ensures.right ∙ sym (drop_insert_low c.args.self.now c.args.i 71 c.args.r.now (omega (arith, c.if-i-lt-LEAST_RECORDS.true)))

pub returns-else-i-lt-LEAST_RECORDS-clause-left : goal.returns-else-i-lt-LEAST_RECORDS-clause-left
returns-else-i-lt-LEAST_RECORDS-clause-left c =
    c.split_off-right-else-i-lt-LEAST_RECORDS.ensures.left
    ∙ sym (take_insert_high c.args.self.now c.args.i 72 c.args.r.now (omega (arith, c.if-i-lt-LEAST_RECORDS.false)) (omega (arith, c.requires.full)))

pub returns-else-i-lt-LEAST_RECORDS-clause-right : goal.returns-else-i-lt-LEAST_RECORDS-clause-right
returns-else-i-lt-LEAST_RECORDS-clause-right c =
    c.insert-else-i-lt-LEAST_RECORDS.ensures ∙ ap (λ l. insert l (c.args.i - 72) c.args.r.now) c.split_off-right-else-i-lt-LEAST_RECORDS.ensures.right
    ∙ sym (drop_insert_high c.args.self.now c.args.i 72 (c.args.i - 72) c.args.r.now (omega (arith, c.if-i-lt-LEAST_RECORDS.false)) (omega (arith, c.requires.full)))
