use Rattle.std.proofs.Common.{◌≤◌, ◌++◌, length, arith}
use Rattle.quilt_node.specs.Nodes.{page_records}
use Rattle.quilt_store.proofs.Reading.{only_reads_ok}
use Rattle.quilt_btree.proofs.stores.Looks.{only_reads_handed, only_reads_damaged}
use Rattle.quilt_btree.proofs.cursors.Stands.{stands_further}
use Rattle.quilt_btree.proofs.Handed.{handed_on}
use Rattle.quilt_btree.proofs.tree.Tree.next.Goals as goal

pub returns-in_err-enter-clause-sound : goal.returns-in_err-enter-clause-sound
returns-in_err-enter-clause-sound g c =
    rw (handed_on c.from_residual.result c.from_residual.ensures.1) (λ before after is s. c.in_err-enter.ensures.sound (before ++ after) is)

pub returns-then-c-2-clause-next : goal.returns-then-c-2-clause-next
returns-then-c-2-clause-next g c before after is s =
    let le : length (page_records c.args.c.now.bytes) ≤ c.args.c.now.place =
    let e = c.args.c.now.counted in let h = c.if-c.false in omega (arith, e, h) in
    c.over-then-c-2.ensures (g.S.PageStore.told c.args.store.now) c.args.self.now before after
    (c.in_ok-enter.ensures.stands before after is (stands_further (g.S.PageStore.told c.args.store.now) c.args.self.now c.args.c.now c.in-Some.k before after le
    c.in-Some.is s))

pub returns-in_err-enter-clause-left : goal.returns-in_err-enter-clause-left
returns-in_err-enter-clause-left g c = only_reads_handed _ c.from_residual.ensures.1 c.in_err-enter.ensures.left

pub returns-then-c-2-clause-left : goal.returns-then-c-2-clause-left
returns-then-c-2-clause-left g c = only_reads_ok _ c.in_ok-enter.ensures.left _

pub returns-else-c-2-clause-left : goal.returns-else-c-2-clause-left
returns-else-c-2-clause-left g c = only_reads_damaged _ _ c.in_ok-enter.ensures.left

pub returns-in_err-enter-clause-here : goal.returns-in_err-enter-clause-here
returns-in_err-enter-clause-here g c = λ here. absurd (let e = c.args.c.now.counted in let h = c.if-c.false in omega (arith, e, h))

pub returns-then-c-2-clause-here : goal.returns-then-c-2-clause-here
returns-then-c-2-clause-here g c = λ here. absurd (let e = c.args.c.now.counted in let h = c.if-c.false in omega (arith, e, h))

pub returns-else-c-2-clause-here : goal.returns-else-c-2-clause-here
returns-else-c-2-clause-here g c = λ here. absurd (let e = c.args.c.now.counted in let h = c.if-c.false in omega (arith, e, h))
