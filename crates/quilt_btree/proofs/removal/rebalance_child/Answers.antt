use Rattle.std.proofs.Common.{◌+◌, ◌<◌, ◌∙◌, sym, subst, arith}
use Rattle.quilt_btree.specs.declared.outcomes.Removed.TheVariants.{Done}
use Rattle.quilt_btree.proofs.stores.Leaves.{edits_on, edits_more, edits_err, edits_ok}
use Rattle.quilt_btree.proofs.removals.LeafRemovals.{has_many}
use Rattle.quilt_btree.proofs.removals.Choices.{Choice, sound_rebalance, joined_sound, joined_left, separated_sound, separated_left}
use Rattle.quilt_btree.proofs.ways.Damage.{names_beside, no_besides, named_more}
use Rattle.quilt_btree.proofs.Handed.{handed_on}
use Rattle.quilt_btree.proofs.removal.rebalance_child.Given.{Over}
use Rattle.quilt_btree.proofs.removal.rebalance_child.Goals.{After-key-key}
use Rattle.quilt_btree.proofs.removal.rebalance_child.Goals as goal

-- the two children that are rebalanced
pair : (g : Over) (c : After-key-key g) → Choice (g.S.PageStore.told c.args.store.now) c.args.page c.args.inner.now c.args.i c.pair_at-j.result
    (c.pair_at-j.result + 1) c.child-left.result c.key-key.result c.child-right.result
pair g c = record {
  in_range = subst (λ n. c.pair_at-j.result + 1 < n) c.len.ensures.length c.pair_at-j.ensures.both;
  one = c.pair_at-j.ensures.one;
  is_next = omega arith;
  is_left = c.child-left.ensures.child;
  is_right = c.child-right.ensures.child;
  is_key = c.key-key.ensures;
  many = sym c.len.ensures.length ∙ c.len.ensures.keys;
  inside = λ pages e. has_many (g.S.PageStore.told c.args.store.now) pages (g.S.PageStore.size c.args.store.now) c.args.page
      (g.met.S.PageStore.as_many c.args.store.now) e c.requires.page.1;
}

pub returns-in_err-rebalance_pages-clause-sound : goal.returns-in_err-rebalance_pages-clause-sound
returns-in_err-rebalance_pages-clause-sound g c =
    rw (handed_on c.from_residual.result c.from_residual.ensures.1)
    (sound_rebalance (g.S.PageStore.told c.args.store.now) (g.S.PageStore.free c.args.store.now) c.args.page c.args.height c.args.inner.now c.args.i
    c.pair_at-j.result (c.pair_at-j.result + 1) c.child-left.result c.key-key.result c.child-right.result _ (pair g (goal.at.returns-in_err-rebalance_pages-clause-sound g c).After-key-key) c.in_err-rebalance_pages.ensures.sound)

pub returns-in-Joined-clause-leaves : goal.returns-in-Joined-clause-leaves
returns-in-Joined-clause-leaves g c =
    let found = rw c.in-Joined.is at c.in_ok-rebalance_pages.ensures.rebalanced in
    joined_left (g.S.PageStore.told c.args.store.now) (g.S.PageStore.told c.rebalance_pages.new.store) (g.S.PageStore.free c.args.store.now)
    (g.S.PageStore.free c.rebalance_pages.new.store) c.args.page c.args.height c.args.inner.now c.args.i c.pair_at-j.result c.child-left.result
    c.key-key.result c.child-right.result c.drop_child.result (g.S.PageStore.told c.drop_child.new.store) (g.S.PageStore.free c.drop_child.new.store)
    (c.pair_at-j.result + 1) (pair g (goal.at.returns-in-Joined-clause-leaves g c).After-key-key) found c.drop_child.ensures.free c.drop_child.ensures.dropped

pub returns-in-Joined-clause-sound : goal.returns-in-Joined-clause-sound
returns-in-Joined-clause-sound g c =
    let found = rw c.in-Joined.is at c.in_ok-rebalance_pages.ensures.rebalanced in
    joined_sound (g.S.PageStore.told c.args.store.now) (g.S.PageStore.told c.rebalance_pages.new.store) (g.S.PageStore.free c.args.store.now)
    (g.S.PageStore.free c.rebalance_pages.new.store) c.args.page c.args.height c.args.inner.now c.args.i c.pair_at-j.result c.child-left.result
    c.key-key.result c.child-right.result c.drop_child.result (c.pair_at-j.result + 1) (pair g (goal.at.returns-in-Joined-clause-sound g c).After-key-key) found c.drop_child.ensures.sound

pub returns-in_err-renew_key-in-Redistributed-clause-sound : goal.returns-in_err-renew_key-in-Redistributed-clause-sound
returns-in_err-renew_key-in-Redistributed-clause-sound g c =
    rw (handed_on c.from_residual-in_err-renew_key-in-Redistributed.result c.from_residual-in_err-renew_key-in-Redistributed.ensures.1)
    (let found = rw c.in-Redistributed.is at c.in_ok-rebalance_pages.ensures.rebalanced in
    separated_sound (g.S.PageStore.told c.args.store.now) (g.S.PageStore.told c.rebalance_pages.new.store)
    (g.S.PageStore.free c.args.store.now) (g.S.PageStore.free c.rebalance_pages.new.store)
    c.args.page c.args.height c.args.inner.now c.args.i c.pair_at-j.result c.child-left.result c.key-key.result c.child-right.result
    _ (c.pair_at-j.result + 1) c.in-Redistributed.key (pair g (goal.at.returns-in_err-renew_key-in-Redistributed-clause-sound g c).After-key-key) found c.in_err-renew_key-in-Redistributed.ensures.sound)

pub returns-in_ok-renew_key-in-Redistributed-clause-leaves : goal.returns-in_ok-renew_key-in-Redistributed-clause-leaves
returns-in_ok-renew_key-in-Redistributed-clause-leaves g c =
    let found = rw c.in-Redistributed.is at c.in_ok-rebalance_pages.ensures.rebalanced in
    separated_left (g.S.PageStore.told c.args.store.now) (g.S.PageStore.told c.rebalance_pages.new.store)
    (g.S.PageStore.free c.args.store.now) (g.S.PageStore.free c.rebalance_pages.new.store)
    c.args.page c.args.height c.args.inner.now c.args.i c.pair_at-j.result c.child-left.result c.key-key.result c.child-right.result
    (g.S.PageStore.told c.renew_key.new.store) (g.S.PageStore.free c.renew_key.new.store) (c.pair_at-j.result + 1) c.in-Redistributed.key (pair g (goal.at.returns-in_ok-renew_key-in-Redistributed-clause-leaves g c).After-key-key) found c.in_ok-renew_key-in-Redistributed.ensures.free c.in_ok-renew_key-in-Redistributed.ensures.renewed

pub returns-in_err-rebalance_pages-clause-bad : goal.returns-in_err-rebalance_pages-clause-bad
returns-in_err-rebalance_pages-clause-bad g c =
    rw (handed_on c.from_residual.result c.from_residual.ensures.1) (names_beside c.other_of-spare.result _ c.requires.height
    (record {
      in_range = subst (λ n. c.pair_at-j.result + 1 < n) c.len.ensures.length c.pair_at-j.ensures.both;
      is_left = c.child-left.ensures.child;
      is_right = c.child-right.ensures.child;
      is_child = c.child.ensures.child;
    }) c.other_of-spare.ensures c.in_err-rebalance_pages.ensures.bad)

pub returns-in-Joined-clause-bad : goal.returns-in-Joined-clause-bad
returns-in-Joined-clause-bad g c =
    no_besides c.drop_child.result (g.S.PageStore.told c.args.store.now) c.args.height c.args.inner.now c.args.i c.drop_child.ensures.names

pub returns-in-Joined-clause-names : goal.returns-in-Joined-clause-names
returns-in-Joined-clause-names g c =
    named_more c.drop_child.result 1 (g.S.PageStore.size c.args.store.now) (let lt = c.requires.page.1 in omega arith) c.drop_child.ensures.names

pub returns-in_err-rebalance_pages-clause-left : goal.returns-in_err-rebalance_pages-clause-left
returns-in_err-rebalance_pages-clause-left g c = edits_more _ 1 0 (edits_err _ c.from_residual.ensures.1 c.in_err-rebalance_pages.ensures.left)

pub returns-in-Joined-clause-left : goal.returns-in-Joined-clause-left
returns-in-Joined-clause-left g c = edits_on _ g.met.S.PageStore.goes_on c.in_ok-rebalance_pages.ensures.left c.drop_child.ensures.left

pub returns-in_err-renew_key-in-Redistributed-clause-left : goal.returns-in_err-renew_key-in-Redistributed-clause-left
returns-in_err-renew_key-in-Redistributed-clause-left g c =
    edits_err _ c.from_residual-in_err-renew_key-in-Redistributed.ensures.1
    (edits_on _ g.met.S.PageStore.goes_on c.in_ok-rebalance_pages.ensures.left c.in_err-renew_key-in-Redistributed.ensures.left)

pub returns-in_ok-renew_key-in-Redistributed-clause-left : goal.returns-in_ok-renew_key-in-Redistributed-clause-left
returns-in_ok-renew_key-in-Redistributed-clause-left g c =
    edits_ok _ Done (edits_on _ g.met.S.PageStore.goes_on c.in_ok-rebalance_pages.ensures.left c.in_ok-renew_key-in-Redistributed.ensures.left)
