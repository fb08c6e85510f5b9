use Rattle.std.proofs.Common.{◌∙◌, Ok}
use Rattle.quilt_btree.specs.declared.outcomes.Rebalanced.TheVariants.{Joined, Redistributed}
use Rattle.quilt_btree.specs.Costs.{EditsWithin}
use Rattle.quilt_btree.proofs.stores.Leaves.{looked, edits_on, edits_more, edits_err, edits_ok, edits_damaged}
use Rattle.quilt_btree.proofs.subtrees.Descending.{along_told}
use Rattle.quilt_btree.proofs.removals.LeafRebalances.{left_spells, right_spells}
use Rattle.quilt_btree.proofs.removals.InnerRebalances.{inners_joined, inners_separated, inners_taken, not_inners}
use Rattle.quilt_btree.proofs.Handed.{handed_on}
use Rattle.quilt_btree.proofs.balance.rebalance_inners.Given.{Over}
use Rattle.quilt_btree.proofs.balance.rebalance_inners.Goals.{In_ok-rest}
use Rattle.quilt_btree.proofs.balance.rebalance_inners.Goals as goal

pub returns-in_err-first-clause-sound : goal.returns-in_err-first-clause-sound
returns-in_err-first-clause-sound g c =
    rw (handed_on c.from_residual.result c.from_residual.ensures.1) (λ b rs used m. c.in_err-first.ensures.sound m.first
    (left_spells (g.S.PageStore.told c.args.store.now) (g.S.PageStore.free c.args.store.now) c.args.height c.args.left c.args.key.now c.args.right b rs used m))

pub returns-in_err-rest-clause-sound : goal.returns-in_err-rest-clause-sound
returns-in_err-rest-clause-sound g c =
    rw (handed_on c.from_residual-in_err-rest.result c.from_residual-in_err-rest.ensures.1) (λ b rs used m. c.in_err-rest.ensures.sound m.rest
    (along_told (g.S.PageStore.told c.args.store.now) (g.S.PageStore.told c.read_inner.new.store) c.args.right c.args.height m.rest
    c.in_ok-first.ensures.looks.left.told
    (right_spells (g.S.PageStore.told c.args.store.now) (g.S.PageStore.free c.args.store.now) c.args.height c.args.left c.args.key.now
    c.args.right b rs used m)))

pub returns-then-not-inners_ascend-clause-sound : goal.returns-then-not-inners_ascend-clause-sound
returns-then-not-inners_ascend-clause-sound g c = λ b rs used m page e.
    not_inners (g.S.PageStore.told c.args.store.now) (g.S.PageStore.free c.args.store.now) c.args.height c.args.left c.args.key.now c.args.right b rs
    used
    c.in_ok-first.first c.in_ok-rest.rest c.inners_ascend.result c.requires.height c.in_ok-first.ensures.inner
    (λ pages t. c.in_ok-rest.ensures.inner pages (c.in_ok-first.ensures.looks.left.told ∙ t)) c.inners_ascend.ensures c.if-not-inners_ascend.true m

pub returns-then-len-le-MOST_CHILDREN-clause-rebalanced : goal.returns-then-len-le-MOST_CHILDREN-clause-rebalanced
returns-then-len-le-MOST_CHILDREN-clause-rebalanced g c = λ b rs used m.
    inners_joined (g.S.PageStore.told c.args.store.now) (g.S.PageStore.told c.read_inner-2.new.store) (g.S.PageStore.told c.write_and_give.new.store)
    (g.S.PageStore.free c.args.store.now) (g.S.PageStore.free c.write_and_give.new.store) (g.S.PageStore.size c.args.store.now) c.args.height
    c.args.left c.args.key.now c.args.right b rs used c.in_ok-first.first c.in_ok-rest.rest c.bytes.result.now
    (g.S.PageStore.free c.read_inner-2.new.store) c.join.new.self (record {
      above = c.requires.height;
      reads = c.in_ok-first.ensures.inner;
      also = λ pages t. c.in_ok-rest.ensures.inner pages (c.in_ok-first.ensures.looks.left.told ∙ t);
      is_height = c.in_ok-first.ensures.height;
      inside = c.requires.left.1;
      many = g.met.S.PageStore.as_many c.args.store.now;
      children = c.in_ok-first.ensures.children;
      children_too = rw c.in_ok-first.ensures.looks.left.size at c.in_ok-rest.ensures.children;
      all_is = c.join.ensures;
      written = c.bytes.ensures.inner;
      is_mid = c.in_ok-rest.ensures.looks.left.told ∙ c.in_ok-first.ensures.looks.left.told;
      tells = c.in_ok-write_and_give.ensures.told;
      is_free = c.in_ok-rest.ensures.looks.left.free ∙ c.in_ok-first.ensures.looks.left.free;
      frees = c.in_ok-write_and_give.ensures.free;
    }) m

pub returns-in_err-write_and_give-clause-sound : goal.returns-in_err-write_and_give-clause-sound
returns-in_err-write_and_give-clause-sound g c =
    rw (handed_on c.from_residual-in_err-write_and_give.result c.from_residual-in_err-write_and_give.ensures.1) (λ b rs used m.
    let t = inners_taken (g.S.PageStore.told c.args.store.now) (g.S.PageStore.free c.args.store.now) c.args.height c.args.left c.args.key.now
    c.args.right b rs used c.in_ok-first.first c.in_ok-rest.rest (g.S.PageStore.free c.read_inner-2.new.store) c.requires.height
    c.in_ok-first.ensures.inner (λ pages t. c.in_ok-rest.ensures.inner pages (c.in_ok-first.ensures.looks.left.told ∙ t))
    (c.in_ok-rest.ensures.looks.left.free ∙ c.in_ok-first.ensures.looks.left.free) m in
    c.in_err-write_and_give.ensures.sound t.0 t.1)

pub returns-in_err-write_both-clause-sound : goal.returns-in_err-write_both-clause-sound
returns-in_err-write_both-clause-sound g c =
    rw (handed_on c.from_residual-in_err-write_both.result c.from_residual-in_err-write_both.ensures.1) (λ b rs used m.
    let t = inners_taken (g.S.PageStore.told c.args.store.now) (g.S.PageStore.free c.args.store.now) c.args.height c.args.left c.args.key.now
    c.args.right b rs used c.in_ok-first.first c.in_ok-rest.rest (g.S.PageStore.free c.read_inner-2.new.store) c.requires.height
    c.in_ok-first.ensures.inner (λ pages t. c.in_ok-rest.ensures.inner pages (c.in_ok-first.ensures.looks.left.told ∙ t))
    (c.in_ok-rest.ensures.looks.left.free ∙ c.in_ok-first.ensures.looks.left.free) m in
    c.in_err-write_both.ensures.sound t.0 t.1)

pub returns-clause-rebalanced : goal.returns-clause-rebalanced
returns-clause-rebalanced g c = λ b rs used m.
    inners_separated (g.S.PageStore.told c.args.store.now) (g.S.PageStore.told c.read_inner-2.new.store) (g.S.PageStore.told c.write_both.new.store)
    (g.S.PageStore.free c.args.store.now) (g.S.PageStore.free c.write_both.new.store) (g.S.PageStore.size c.args.store.now) c.args.height c.args.left
    c.args.key.now c.args.right b rs used c.in_ok-first.first c.in_ok-rest.rest c.bytes-2.result.now c.share_children-separator.new.left
    c.share_children-separator.new.right c.share_children-separator.result c.bytes-3.result.now (record {
      above = c.requires.height;
      reads = c.in_ok-first.ensures.inner;
      also = λ pages t. c.in_ok-rest.ensures.inner pages (c.in_ok-first.ensures.looks.left.told ∙ t);
      is_height = c.in_ok-first.ensures.height;
      inside = c.requires.left.1;
      inside_too = c.requires.right.1;
      many = g.met.S.PageStore.as_many c.args.store.now;
      children_are = c.in_ok-first.ensures.children;
      children_are_too = rw c.in_ok-first.ensures.looks.left.size at c.in_ok-rest.ensures.children;
      children = c.share_children-separator.ensures.children;
      keys = c.share_children-separator.ensures.keys;
      heights = c.share_children-separator.ensures.heights;
      enough = c.share_children-separator.ensures.enough;
      between = c.bytes-2.ensures.is.between;
      written = c.bytes-2.ensures.inner;
      written_too = c.bytes-3.ensures.inner;
      is_mid = c.in_ok-rest.ensures.looks.left.told ∙ c.in_ok-first.ensures.looks.left.told;
      tells = c.in_ok-write_both.ensures.told;
      frees = c.in_ok-write_both.ensures.free ∙ c.in_ok-rest.ensures.looks.left.free ∙ c.in_ok-first.ensures.looks.left.free;
    }) m

-- both pages were read
two_read : (g : Over) (c : In_ok-rest g) → EditsWithin g.S.PageStore 0 2 c.args.store.now c.read_inner-2.new.store (Ok c.in_ok-rest.rest)
two_read g c =
    edits_on _ g.met.S.PageStore.goes_on (looked _ 1 c.in_ok-first.ensures.looks.left c.in_ok-first.ensures.looks.reads)
    (looked _ 1 c.in_ok-rest.ensures.looks.left c.in_ok-rest.ensures.looks.reads)

pub returns-in_err-first-clause-left : goal.returns-in_err-first-clause-left
returns-in_err-first-clause-left g c =
    edits_more _ 2 1 (edits_err _ c.from_residual.ensures.1 (looked _ 1 c.in_err-first.ensures.looks.left c.in_err-first.ensures.looks.reads))

pub returns-in_err-rest-clause-left : goal.returns-in_err-rest-clause-left
returns-in_err-rest-clause-left g c =
    edits_more _ 2 0 (edits_err _ c.from_residual-in_err-rest.ensures.1
    (edits_on _ g.met.S.PageStore.goes_on (looked _ 1 c.in_ok-first.ensures.looks.left c.in_ok-first.ensures.looks.reads)
    (looked _ 1 c.in_err-rest.ensures.looks.left c.in_err-rest.ensures.looks.reads)))

pub returns-then-not-inners_ascend-clause-left : goal.returns-then-not-inners_ascend-clause-left
returns-then-not-inners_ascend-clause-left g c =
    edits_more _ 2 0 (edits_damaged _ _ (two_read g (goal.at.returns-then-not-inners_ascend-clause-left g c).In_ok-rest))

pub returns-in_err-write_and_give-clause-left : goal.returns-in_err-write_and_give-clause-left
returns-in_err-write_and_give-clause-left g c =
    edits_more _ 1 0 (edits_err _ c.from_residual-in_err-write_and_give.ensures.1
    (edits_on _ g.met.S.PageStore.goes_on (two_read g (goal.at.returns-in_err-write_and_give-clause-left g c).In_ok-rest)
    c.in_err-write_and_give.ensures.left))

pub returns-then-len-le-MOST_CHILDREN-clause-left : goal.returns-then-len-le-MOST_CHILDREN-clause-left
returns-then-len-le-MOST_CHILDREN-clause-left g c =
    edits_more _ 1 0 (edits_ok _ Joined
    (edits_on _ g.met.S.PageStore.goes_on (two_read g (goal.at.returns-then-len-le-MOST_CHILDREN-clause-left g c).In_ok-rest)
    c.in_ok-write_and_give.ensures.left))

pub returns-in_err-write_both-clause-left : goal.returns-in_err-write_both-clause-left
returns-in_err-write_both-clause-left g c =
    edits_err _ c.from_residual-in_err-write_both.ensures.1
    (edits_on _ g.met.S.PageStore.goes_on (two_read g (goal.at.returns-in_err-write_both-clause-left g c).In_ok-rest) c.in_err-write_both.ensures.left)

pub returns-clause-left : goal.returns-clause-left
returns-clause-left g c =
    edits_ok _ (Redistributed c.share_children-separator.result)
    (edits_on _ g.met.S.PageStore.goes_on (two_read g (goal.at.returns-clause-left g c).In_ok-rest) c.in_ok-write_both.ensures.left)
