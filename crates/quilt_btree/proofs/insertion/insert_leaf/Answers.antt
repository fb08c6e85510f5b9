use Rattle.std.proofs.Common.{refl, sym, ◌∙◌, arith}
use Rattle.std.proofs.lemmas.Option.{none-some}
use Rattle.quilt_node.specs.Pages.{leaf_of}
use Rattle.quilt_btree.specs.Trees.{ReadsLeaf}
use Rattle.quilt_btree.proofs.stores.Leaves.{looked, edits_on, edits_more, edits_err, edits_damaged}
use Rattle.quilt_btree.proofs.subtrees.Along.{sound_along}
use Rattle.quilt_btree.proofs.ways.Damage.{none_of, sound_names, bad_leaf, zero_named, named_more}
use Rattle.quilt_btree.proofs.ways.Forks.{leaf_here}
use Rattle.quilt_btree.proofs.growth.Finding.{finds_here, finds_none, new_in_leaf}
use Rattle.quilt_btree.proofs.growth.Below.{same_of, edit_spells}
use Rattle.quilt_btree.proofs.growth.LeafGrowth.{leaf_there}
use Rattle.quilt_btree.proofs.removals.LeafRemovals.{leaf_read, leaf_same}
use Rattle.quilt_btree.proofs.Handed.{handed_on}
use Rattle.quilt_btree.proofs.insertion.insert_leaf.Given.{Over}
use Rattle.quilt_btree.proofs.insertion.insert_leaf.Goals.{After-from_bytes-leaf}
use Rattle.quilt_btree.proofs.insertion.insert_leaf.Goals as goal

-- the leaf that was read
reads : (g : Over) (c : After-from_bytes-leaf g) → ReadsLeaf (g.S.PageStore.told c.args.store.now) c.args.page c.from_bytes-leaf.result
reads g c = leaf_read c.in_ok-read_into.ensures.bytes c.from_bytes-leaf.ensures

pub returns-in_err-read_into-clause-sound : goal.returns-in_err-read_into-clause-sound
returns-in_err-read_into-clause-sound g c =
    rw (handed_on c.from_residual.result c.from_residual.ensures.1) (λ is_root b rs used can. c.in_err-read_into.ensures.sound)

pub returns-in_err-read_into-clause-bad : goal.returns-in_err-read_into-clause-bad
returns-in_err-read_into-clause-bad g c =
    rw (handed_on c.from_residual.result c.from_residual.ensures.1)
    (λ ne. sound_names (g.S.PageStore.told c.args.store.now) 1 c.args.page _ c.in_err-read_into.ensures.sound)

pub returns-then-not-is_leaf-clause-sound : goal.returns-then-not-is_leaf-clause-sound
returns-then-not-is_leaf-clause-sound g c is_root b rs used can =
    absurd (none-some rs (sym (none_of (leaf_of c.read_into.new.bytes) (sym c.is_leaf.ensures ∙ c.if-not-is_leaf.true))
    ∙ leaf_here (g.S.PageStore.told c.args.store.now) c.args.page 1 c.read_into.new.bytes rs refl c.in_ok-read_into.ensures.bytes
    (edit_spells can.can_edit)))

pub returns-then-not-is_leaf-clause-bad : goal.returns-then-not-is_leaf-clause-bad
returns-then-not-is_leaf-clause-bad g c = λ ne.
    bad_leaf (g.S.PageStore.told c.args.store.now) c.args.page 1 c.read_into.new.bytes refl c.in_ok-read_into.ensures.bytes
    (none_of (leaf_of c.read_into.new.bytes) (sym c.is_leaf.ensures ∙ c.if-not-is_leaf.true))

pub returns-in-Ok-clause-inserted : goal.returns-in-Ok-clause-inserted
returns-in-Ok-clause-inserted g c is_root b rs used can =
    leaf_there (g.S.PageStore.told c.args.store.now) (g.S.PageStore.told c.read_into.new.store) (g.S.PageStore.free c.args.store.now)
    (g.S.PageStore.free c.read_into.new.store) (g.S.PageStore.size c.args.store.now) c.args.page c.in-Ok.field-0 c.args.r.now is_root b rs used
    c.from_bytes-leaf.result c.in_ok-read_into.ensures.left.told
    (leaf_same can.can_edit (reads g (goal.at.returns-in-Ok-clause-inserted g c).After-from_bytes-leaf)) c.in-Ok.ensures.place can

pub returns-in-Err-clause-sound : goal.returns-in-Err-clause-sound
returns-in-Err-clause-sound g c =
    sound_along c.put_record.result c.args.page 1 c.args.r.now.key (same_of c.in_ok-read_into.ensures.left) c.put_record.ensures.sound

pub returns-in-Ok-clause-finds : goal.returns-in-Ok-clause-finds
returns-in-Ok-clause-finds g c height rs one s =
    finds_here (g.S.PageStore.told c.args.store.now) c.args.page height c.in-Ok.field-0 c.args.r.now.key c.from_bytes-leaf.result
    (reads g (goal.at.returns-in-Ok-clause-finds g c).After-from_bytes-leaf) c.in-Ok.ensures.place one rs s

pub returns-in-Err-clause-finds : goal.returns-in-Err-clause-finds
returns-in-Err-clause-finds g c =
    new_in_leaf c.put_record.result (g.S.PageStore.told c.args.store.now) c.args.page c.args.r.now.key c.put_record.ensures.leaves.new
    (λ height one. finds_none (g.S.PageStore.told c.args.store.now) c.args.page height c.in-Err.i c.args.r.now.key c.from_bytes-leaf.result
    (reads g (goal.at.returns-in-Err-clause-finds g c).After-from_bytes-leaf) c.in-Err.ensures.place one)

pub returns-in-Err-clause-names : goal.returns-in-Err-clause-names
returns-in-Err-clause-names g c =
    named_more c.put_record.result 1 (g.S.PageStore.size c.args.store.now) (let q = c.requires.1 in omega arith) c.put_record.ensures.names

pub returns-in-Err-clause-bad : goal.returns-in-Err-clause-bad
returns-in-Err-clause-bad g c = zero_named c.put_record.result (g.S.PageStore.told c.args.store.now) 1 c.args.page c.put_record.ensures.names

pub returns-in_err-read_into-clause-left : goal.returns-in_err-read_into-clause-left
returns-in_err-read_into-clause-left g c =
    edits_more _ 2 0 (edits_err _ c.from_residual.ensures.1 (looked _ 1 c.in_err-read_into.ensures.left c.in_err-read_into.ensures.reads))

pub returns-then-not-is_leaf-clause-left : goal.returns-then-not-is_leaf-clause-left
returns-then-not-is_leaf-clause-left g c =
    edits_more _ 2 0 (edits_damaged _ _ (looked _ 1 c.in_ok-read_into.ensures.left c.in_ok-read_into.ensures.reads))

pub returns-in-Err-clause-left : goal.returns-in-Err-clause-left
returns-in-Err-clause-left g c =
    edits_on _ g.met.S.PageStore.goes_on (looked _ 1 c.in_ok-read_into.ensures.left c.in_ok-read_into.ensures.reads) c.put_record.ensures.left
