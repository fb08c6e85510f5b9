use Rattle.std.proofs.Common.{◌∙◌, ◌+◌, Ok, refl, arith}
use Rattle.quilt_btree.specs.declared.outcomes.Rebalanced.TheVariants.{Joined, Redistributed}
use Rattle.quilt_btree.specs.Costs.{EditsWithin}
use Rattle.quilt_btree.proofs.stores.Leaves.{looked, edits_on, edits_more, edits_err, edits_ok, edits_damaged}
use Rattle.quilt_btree.proofs.subtrees.Descending.{along_told}
use Rattle.quilt_btree.proofs.removals.LeafRebalances.{leaves_joined, leaves_separated, leaves_taken, not_leaves, left_spells, right_spells}
use Rattle.quilt_btree.proofs.ways.Damage.{names_spare, no_spare, names_more}
use Rattle.quilt_btree.proofs.Handed.{handed_on}
use Rattle.quilt_btree.proofs.balance.rebalance_leaves.Given.{Over}
use Rattle.quilt_btree.proofs.balance.rebalance_leaves.Goals.{In_ok-rest}
use Rattle.quilt_btree.proofs.balance.rebalance_leaves.Goals as goal

pub returns-in_err-first-clause-sound : goal.returns-in_err-first-clause-sound
returns-in_err-first-clause-sound g c =
    rw (handed_on c.from_residual.result c.from_residual.ensures.1) (λ height b rs used one m. c.in_err-first.ensures.sound height m.first one
    (left_spells (g.S.PageStore.told c.args.store.now) (g.S.PageStore.free c.args.store.now) height c.args.left c.args.key.now c.args.right b rs used m))

pub returns-in_err-rest-clause-sound : goal.returns-in_err-rest-clause-sound
returns-in_err-rest-clause-sound g c =
    rw (handed_on c.from_residual-in_err-rest.result c.from_residual-in_err-rest.ensures.1)
    (λ height b rs used one m. c.in_err-rest.ensures.sound height m.rest one
    (along_told (g.S.PageStore.told c.args.store.now) (g.S.PageStore.told c.read_leaf.new.store) c.args.right height m.rest c.in_ok-first.ensures.left.told
    (right_spells (g.S.PageStore.told c.args.store.now) (g.S.PageStore.free c.args.store.now) height c.args.left c.args.key.now c.args.right b rs used m)))

pub returns-then-not-leaves_ascend-clause-sound : goal.returns-then-not-leaves_ascend-clause-sound
returns-then-not-leaves_ascend-clause-sound g c = λ height b rs used one m page e.
    not_leaves (g.S.PageStore.told c.args.store.now) (g.S.PageStore.free c.args.store.now) one c.in_ok-first.ensures.leaf
    (λ pages t. c.in_ok-rest.ensures.leaf pages (c.in_ok-first.ensures.left.told ∙ t)) c.leaves_ascend.ensures c.if-not-leaves_ascend.true m

pub returns-then-len-le-MOST_RECORDS-clause-rebalanced : goal.returns-then-len-le-MOST_RECORDS-clause-rebalanced
returns-then-len-le-MOST_RECORDS-clause-rebalanced g c = λ height b rs used one m.
    leaves_joined (g.S.PageStore.told c.args.store.now) (g.S.PageStore.told c.read_leaf-2.new.store) (g.S.PageStore.told c.write_and_give.new.store)
    (g.S.PageStore.free c.args.store.now) (g.S.PageStore.free c.write_and_give.new.store) (g.S.PageStore.size c.args.store.now) c.args.left
    c.args.key.now c.args.right height b rs used c.in_ok-first.first c.in_ok-rest.rest c.bytes.result.now (g.S.PageStore.free c.read_leaf-2.new.store)
    c.join.new.self one (record {
      reads = c.in_ok-first.ensures.leaf;
      also = λ pages t. c.in_ok-rest.ensures.leaf pages (c.in_ok-first.ensures.left.told ∙ t);
      inside = c.requires.left.1;
      many = g.met.S.PageStore.as_many c.args.store.now;
      all_is = c.join.ensures;
      written = c.bytes.ensures.leaf;
      is_mid = c.in_ok-rest.ensures.left.told ∙ c.in_ok-first.ensures.left.told;
      tells = c.in_ok-write_and_give.ensures.told;
      is_free = c.in_ok-rest.ensures.left.free ∙ c.in_ok-first.ensures.left.free;
      frees = c.in_ok-write_and_give.ensures.free;
    }) m

pub returns-in_err-write_and_give-clause-sound : goal.returns-in_err-write_and_give-clause-sound
returns-in_err-write_and_give-clause-sound g c =
    rw (handed_on c.from_residual-in_err-write_and_give.result c.from_residual-in_err-write_and_give.ensures.1) (λ height b rs used one m.
    let t = leaves_taken (g.S.PageStore.told c.args.store.now) (g.S.PageStore.free c.args.store.now) one
    (c.in_ok-rest.ensures.left.free ∙ c.in_ok-first.ensures.left.free) m in
    c.in_err-write_and_give.ensures.sound t.0 t.1)

pub returns-in_err-write_both-clause-sound : goal.returns-in_err-write_both-clause-sound
returns-in_err-write_both-clause-sound g c =
    rw (handed_on c.from_residual-in_err-write_both.result c.from_residual-in_err-write_both.ensures.1) (λ height b rs used one m.
    let t = leaves_taken (g.S.PageStore.told c.args.store.now) (g.S.PageStore.free c.args.store.now) one
    (c.in_ok-rest.ensures.left.free ∙ c.in_ok-first.ensures.left.free) m in
    c.in_err-write_both.ensures.sound t.0 t.1)

pub returns-clause-rebalanced : goal.returns-clause-rebalanced
returns-clause-rebalanced g c = λ height b rs used one m.
    leaves_separated (g.S.PageStore.told c.args.store.now) (g.S.PageStore.told c.read_leaf-2.new.store) (g.S.PageStore.told c.write_both.new.store)
    (g.S.PageStore.free c.args.store.now) (g.S.PageStore.free c.write_both.new.store) (g.S.PageStore.size c.args.store.now) c.args.left c.args.key.now
    c.args.right height b rs used c.in_ok-first.first c.in_ok-rest.rest c.bytes-2.result.now c.share_records.new.left c.share_records.new.right
    c.rec.result c.bytes-3.result.now one (record {
      reads = c.in_ok-first.ensures.leaf;
      also = λ pages t. c.in_ok-rest.ensures.leaf pages (c.in_ok-first.ensures.left.told ∙ t);
      inside = c.requires.left.1;
      inside_too = c.requires.right.1;
      many = g.met.S.PageStore.as_many c.args.store.now;
      records = c.share_records.ensures.records;
      enough = c.share_records.ensures.enough;
      starts = c.rec.ensures;
      written = c.bytes-2.ensures.leaf;
      written_too = c.bytes-3.ensures.leaf;
      is_mid = c.in_ok-rest.ensures.left.told ∙ c.in_ok-first.ensures.left.told;
      tells = c.in_ok-write_both.ensures.told;
      frees = c.in_ok-write_both.ensures.free ∙ c.in_ok-rest.ensures.left.free ∙ c.in_ok-first.ensures.left.free;
    }) m

pub returns-in_err-first-clause-names : goal.returns-in_err-first-clause-names
returns-in_err-first-clause-names g c =
    rw (handed_on c.from_residual.result c.from_residual.ensures.1) (names_more (c.named_of.result + 1) (g.S.PageStore.size c.args.store.now) _
    (let m = c.named_of.ensures.most in let lt = c.requires.left.1 in omega arith) c.in_err-first.ensures.names)

pub returns-in_err-first-clause-bad : goal.returns-in_err-first-clause-bad
returns-in_err-first-clause-bad g c =
    rw (handed_on c.from_residual.result c.from_residual.ensures.1)
    (λ height one. names_spare (g.S.PageStore.told c.args.store.now) (g.S.PageStore.told c.args.store.now) height c.args.left _ refl c.named_of.result c.args.spare c.requires.left.0 c.named_of.ensures.named c.in_err-first.ensures.names c.in_err-first.ensures.bad one)

pub returns-in_err-rest-clause-names : goal.returns-in_err-rest-clause-names
returns-in_err-rest-clause-names g c =
    rw (handed_on c.from_residual-in_err-rest.result c.from_residual-in_err-rest.ensures.1)
    (names_more (c.named_of-2.result + 1) (g.S.PageStore.size c.args.store.now) _
    (let m = c.named_of-2.ensures.most in let lt = c.requires.right.1 in omega arith) c.in_err-rest.ensures.names)

pub returns-in_err-rest-clause-bad : goal.returns-in_err-rest-clause-bad
returns-in_err-rest-clause-bad g c =
    rw (handed_on c.from_residual-in_err-rest.result c.from_residual-in_err-rest.ensures.1)
    (λ height one. names_spare (g.S.PageStore.told c.args.store.now) (g.S.PageStore.told c.read_leaf.new.store) height c.args.right _ c.in_ok-first.ensures.left.told c.named_of-2.result c.args.spare c.requires.right.0 c.named_of-2.ensures.named c.in_err-rest.ensures.names c.in_err-rest.ensures.bad one)

pub returns-in_err-write_and_give-clause-names : goal.returns-in_err-write_and_give-clause-names
returns-in_err-write_and_give-clause-names g c =
    rw (handed_on c.from_residual-in_err-write_and_give.result c.from_residual-in_err-write_and_give.ensures.1)
    (names_more 1 (g.S.PageStore.size c.args.store.now) _ (let lt = c.requires.left.1 in omega arith) c.in_err-write_and_give.ensures.names)

pub returns-in_err-write_and_give-clause-bad : goal.returns-in_err-write_and_give-clause-bad
returns-in_err-write_and_give-clause-bad g c =
    rw (handed_on c.from_residual-in_err-write_and_give.result c.from_residual-in_err-write_and_give.ensures.1)
    (λ height one. no_spare (g.S.PageStore.told c.args.store.now) height c.args.spare _ c.in_err-write_and_give.ensures.names)

pub returns-in_err-write_both-clause-names : goal.returns-in_err-write_both-clause-names
returns-in_err-write_both-clause-names g c =
    rw (handed_on c.from_residual-in_err-write_both.result c.from_residual-in_err-write_both.ensures.1)
    (names_more 1 (g.S.PageStore.size c.args.store.now) _ (let lt = c.requires.left.1 in omega arith) c.in_err-write_both.ensures.names)

pub returns-in_err-write_both-clause-bad : goal.returns-in_err-write_both-clause-bad
returns-in_err-write_both-clause-bad g c =
    rw (handed_on c.from_residual-in_err-write_both.result c.from_residual-in_err-write_both.ensures.1)
    (λ height one. no_spare (g.S.PageStore.told c.args.store.now) height c.args.spare _ c.in_err-write_both.ensures.names)

-- both leaves were read
two_read : (g : Over) (c : In_ok-rest g) → EditsWithin g.S.PageStore 0 2 c.args.store.now c.read_leaf-2.new.store (Ok c.in_ok-rest.rest)
two_read g c =
    edits_on _ g.met.S.PageStore.goes_on (looked _ 1 c.in_ok-first.ensures.left c.in_ok-first.ensures.reads)
    (looked _ 1 c.in_ok-rest.ensures.left c.in_ok-rest.ensures.reads)

pub returns-in_err-first-clause-left : goal.returns-in_err-first-clause-left
returns-in_err-first-clause-left g c =
    edits_more _ 2 1 (edits_err _ c.from_residual.ensures.1 (looked _ 1 c.in_err-first.ensures.left c.in_err-first.ensures.reads))

pub returns-in_err-rest-clause-left : goal.returns-in_err-rest-clause-left
returns-in_err-rest-clause-left g c =
    edits_more _ 2 0 (edits_err _ c.from_residual-in_err-rest.ensures.1
    (edits_on _ g.met.S.PageStore.goes_on (looked _ 1 c.in_ok-first.ensures.left c.in_ok-first.ensures.reads)
    (looked _ 1 c.in_err-rest.ensures.left c.in_err-rest.ensures.reads)))

pub returns-then-not-leaves_ascend-clause-left : goal.returns-then-not-leaves_ascend-clause-left
returns-then-not-leaves_ascend-clause-left g c =
    edits_more _ 2 0 (edits_damaged _ _ (two_read g (goal.at.returns-then-not-leaves_ascend-clause-left g c).In_ok-rest))

pub returns-in_err-write_and_give-clause-left : goal.returns-in_err-write_and_give-clause-left
returns-in_err-write_and_give-clause-left g c =
    edits_more _ 1 0 (edits_err _ c.from_residual-in_err-write_and_give.ensures.1
    (edits_on _ g.met.S.PageStore.goes_on (two_read g (goal.at.returns-in_err-write_and_give-clause-left g c).In_ok-rest)
    c.in_err-write_and_give.ensures.left))

pub returns-then-len-le-MOST_RECORDS-clause-left : goal.returns-then-len-le-MOST_RECORDS-clause-left
returns-then-len-le-MOST_RECORDS-clause-left g c =
    edits_more _ 1 0 (edits_ok _ Joined
    (edits_on _ g.met.S.PageStore.goes_on (two_read g (goal.at.returns-then-len-le-MOST_RECORDS-clause-left g c).In_ok-rest)
    c.in_ok-write_and_give.ensures.left))

pub returns-in_err-write_both-clause-left : goal.returns-in_err-write_both-clause-left
returns-in_err-write_both-clause-left g c =
    edits_err _ c.from_residual-in_err-write_both.ensures.1
    (edits_on _ g.met.S.PageStore.goes_on (two_read g (goal.at.returns-in_err-write_both-clause-left g c).In_ok-rest) c.in_err-write_both.ensures.left)

pub returns-clause-left : goal.returns-clause-left
returns-clause-left g c =
    edits_ok _ (Redistributed c.rec.result.key)
    (edits_on _ g.met.S.PageStore.goes_on (two_read g (goal.at.returns-clause-left g c).In_ok-rest) c.in_ok-write_both.ensures.left)
