use Rattle.std.proofs.Common.{◌+◌, ◌∙◌, refl, sym, arith}
use Rattle.quilt_btree.specs.declared.outcomes.Removed.TheVariants.{Missing, Emptied, Underfull, Done}
use Rattle.quilt_btree.proofs.stores.Leaves.{looked, edits_on, edits_more, edits_err, edits_ok}
use Rattle.quilt_btree.proofs.ways.Damage.{zero_names, names_more, same_others, wrote_others}
use Rattle.quilt_btree.proofs.growth.Finding.{finds_here, finds_none}
use Rattle.quilt_btree.proofs.growth.Below.{edit_spells}
use Rattle.quilt_btree.proofs.removals.LeafRemovals.{LeafCut, leaf_missing, leaf_emptied, leaf_underfull, leaf_done}
use Rattle.quilt_btree.proofs.Handed.{handed_on}
use Rattle.quilt_btree.proofs.removal.remove_in_leaf.Given.{Over}
use Rattle.quilt_btree.proofs.removal.remove_in_leaf.Goals.{In_ok-write_page-in-Ok-2}
use Rattle.quilt_btree.proofs.removal.remove_in_leaf.Goals as goal

-- the leaf without the record, as it was written
leaf_cut : (g : Over) (c : In_ok-write_page-in-Ok-2 g) → LeafCut c.args.k.now (g.S.PageStore.told c.args.store.now)
    (g.S.PageStore.told c.read_leaf.new.store) (g.S.PageStore.told c.write_page.new.store) (g.S.PageStore.free c.args.store.now)
    (g.S.PageStore.free c.write_page.new.store) c.args.page (g.S.PageStore.size c.args.store.now) c.in-Ok.field-0 c.in_ok-leaf.leaf c.remove.new.self
    c.bytes.result.now
leaf_cut g c = record {
  reads = c.in_ok-leaf.ensures.leaf;
  inside = c.requires.1;
  many = g.met.S.PageStore.as_many c.args.store.now;
  found = c.in-Ok.ensures.place;
  all_is = c.remove.ensures;
  written = c.bytes.ensures.leaf;
  is_mid = c.in_ok-leaf.ensures.left.told;
  tells = c.in_ok-write_page-in-Ok-2.ensures.told;
  frees = c.in_ok-write_page-in-Ok-2.ensures.free ∙ c.in_ok-leaf.ensures.left.free;
}

pub returns-in_err-leaf-clause-sound : goal.returns-in_err-leaf-clause-sound
returns-in_err-leaf-clause-sound g c =
    rw (handed_on c.from_residual.result c.from_residual.ensures.1) (λ height is_root b rs used one can. c.in_err-leaf.ensures.sound height rs one (edit_spells can))

pub returns-in-Err-clause-removed : goal.returns-in-Err-clause-removed
returns-in-Err-clause-removed g c = λ height is_root b rs used one can.
    leaf_missing c.args.k.now (g.S.PageStore.told c.args.store.now) (g.S.PageStore.told c.read_leaf.new.store) (g.S.PageStore.free c.args.store.now)
    (g.S.PageStore.free c.read_leaf.new.store)
    c.args.page height c.in-Err.field-0 is_root b rs c.in_ok-leaf.leaf used one c.in_ok-leaf.ensures.leaf c.in-Err.ensures.place can

pub returns-in-Ok-clause-removed : goal.returns-in-Ok-clause-removed
returns-in-Ok-clause-removed g c = λ height is_root b rs used one can.
    leaf_emptied c.args.k.now (g.S.PageStore.told c.args.store.now) (g.S.PageStore.told c.read_leaf.new.store) (g.S.PageStore.free c.args.store.now)
    (g.S.PageStore.free c.read_leaf.new.store)
    c.args.page height c.in-Ok.field-0 is_root b rs c.in_ok-leaf.leaf used one c.in_ok-leaf.ensures.leaf c.in-Ok.ensures.place
    (sym c.len.ensures.length ∙ c.if-len-eq1.true) c.in_ok-leaf.ensures.left.told c.in_ok-leaf.ensures.left.free can

pub returns-then-left-lt-LEAST_RECORDS-clause-removed : goal.returns-then-left-lt-LEAST_RECORDS-clause-removed
returns-then-left-lt-LEAST_RECORDS-clause-removed g c = λ height is_root b rs used one can.
    leaf_underfull one (leaf_cut g (goal.at.returns-then-left-lt-LEAST_RECORDS-clause-removed g c).In_ok-write_page-in-Ok-2) can

pub returns-else-left-lt-LEAST_RECORDS-clause-removed : goal.returns-else-left-lt-LEAST_RECORDS-clause-removed
returns-else-left-lt-LEAST_RECORDS-clause-removed g c = λ height is_root b rs used one can.
    leaf_done one (leaf_cut g (goal.at.returns-else-left-lt-LEAST_RECORDS-clause-removed g c).In_ok-write_page-in-Ok-2)
    (let n = c.len-left.ensures.length in let h = c.if-left-lt-LEAST_RECORDS.false in omega arith) can

pub returns-in-Err-clause-finds : goal.returns-in-Err-clause-finds
returns-in-Err-clause-finds g c = λ height rs one s.
    finds_none (g.S.PageStore.told c.args.store.now) c.args.page height c.in-Err.field-0 c.args.k.now c.in_ok-leaf.leaf c.in_ok-leaf.ensures.leaf
    c.in-Err.ensures.place one rs s

pub returns-in-Ok-clause-finds : goal.returns-in-Ok-clause-finds
returns-in-Ok-clause-finds g c = λ height rs one s.
    finds_here (g.S.PageStore.told c.args.store.now) c.args.page height c.in-Ok.field-0 c.args.k.now c.in_ok-leaf.leaf c.in_ok-leaf.ensures.leaf
    c.in-Ok.ensures.place one rs s

pub returns-then-left-lt-LEAST_RECORDS-clause-finds : goal.returns-then-left-lt-LEAST_RECORDS-clause-finds
returns-then-left-lt-LEAST_RECORDS-clause-finds g c = λ height rs one s.
    finds_here (g.S.PageStore.told c.args.store.now) c.args.page height c.in-Ok.field-0 c.args.k.now c.in_ok-leaf.leaf c.in_ok-leaf.ensures.leaf
    c.in-Ok.ensures.place one rs s

pub returns-else-left-lt-LEAST_RECORDS-clause-finds : goal.returns-else-left-lt-LEAST_RECORDS-clause-finds
returns-else-left-lt-LEAST_RECORDS-clause-finds g c = λ height rs one s.
    finds_here (g.S.PageStore.told c.args.store.now) c.args.page height c.in-Ok.field-0 c.args.k.now c.in_ok-leaf.leaf c.in_ok-leaf.ensures.leaf
    c.in-Ok.ensures.place one rs s

pub returns-in_err-leaf-clause-names : goal.returns-in_err-leaf-clause-names
returns-in_err-leaf-clause-names g c =
    rw (handed_on c.from_residual.result c.from_residual.ensures.1)
    (names_more (c.args.page + 1) (g.S.PageStore.size c.args.store.now) _ (let q = c.requires.1 in omega arith) c.in_err-leaf.ensures.names)

pub returns-in_err-leaf-clause-bad : goal.returns-in_err-leaf-clause-bad
returns-in_err-leaf-clause-bad g c =
    rw (handed_on c.from_residual.result c.from_residual.ensures.1) (λ ne. c.in_err-leaf.ensures.bad refl)

pub returns-in_err-write_page-in-Ok-2-clause-names : goal.returns-in_err-write_page-in-Ok-2-clause-names
returns-in_err-write_page-in-Ok-2-clause-names g c =
    rw (handed_on c.from_residual-in_err-write_page-in-Ok-2.result c.from_residual-in_err-write_page-in-Ok-2.ensures.1)
    (names_more 1 (g.S.PageStore.size c.args.store.now) _ (let q = c.requires.1 in omega arith) c.in_err-write_page-in-Ok-2.ensures.names)

pub returns-in_err-write_page-in-Ok-2-clause-bad : goal.returns-in_err-write_page-in-Ok-2-clause-bad
returns-in_err-write_page-in-Ok-2-clause-bad g c =
    rw (handed_on c.from_residual-in_err-write_page-in-Ok-2.result c.from_residual-in_err-write_page-in-Ok-2.ensures.1)
    (zero_names (g.S.PageStore.told c.args.store.now) 1 c.args.page _ c.in_err-write_page-in-Ok-2.ensures.names)

pub returns-in-Err-clause-others : goal.returns-in-Err-clause-others
returns-in-Err-clause-others g c = same_others c.args.page _ _ c.in_ok-leaf.ensures.left.told

pub returns-in-Ok-clause-others : goal.returns-in-Ok-clause-others
returns-in-Ok-clause-others g c = same_others c.args.page _ _ c.in_ok-leaf.ensures.left.told

pub returns-then-left-lt-LEAST_RECORDS-clause-others : goal.returns-then-left-lt-LEAST_RECORDS-clause-others
returns-then-left-lt-LEAST_RECORDS-clause-others g c =
    wrote_others c.args.page c.bytes.result.now _ _ _ c.in_ok-leaf.ensures.left.told c.in_ok-write_page-in-Ok-2.ensures.told

pub returns-else-left-lt-LEAST_RECORDS-clause-others : goal.returns-else-left-lt-LEAST_RECORDS-clause-others
returns-else-left-lt-LEAST_RECORDS-clause-others g c =
    wrote_others c.args.page c.bytes.result.now _ _ _ c.in_ok-leaf.ensures.left.told c.in_ok-write_page-in-Ok-2.ensures.told

pub returns-in_err-leaf-clause-left : goal.returns-in_err-leaf-clause-left
returns-in_err-leaf-clause-left g c =
    edits_more _ 1 0 (edits_err _ c.from_residual.ensures.1 (looked _ 1 c.in_err-leaf.ensures.left c.in_err-leaf.ensures.reads))

pub returns-in-Err-clause-left : goal.returns-in-Err-clause-left
returns-in-Err-clause-left g c = edits_more _ 1 0 (edits_ok _ Missing (looked _ 1 c.in_ok-leaf.ensures.left c.in_ok-leaf.ensures.reads))

pub returns-in-Ok-clause-left : goal.returns-in-Ok-clause-left
returns-in-Ok-clause-left g c = edits_more _ 1 0 (edits_ok _ Emptied (looked _ 1 c.in_ok-leaf.ensures.left c.in_ok-leaf.ensures.reads))

pub returns-in_err-write_page-in-Ok-2-clause-left : goal.returns-in_err-write_page-in-Ok-2-clause-left
returns-in_err-write_page-in-Ok-2-clause-left g c =
    edits_err _ c.from_residual-in_err-write_page-in-Ok-2.ensures.1
    (edits_on _ g.met.S.PageStore.goes_on (looked _ 1 c.in_ok-leaf.ensures.left c.in_ok-leaf.ensures.reads) c.in_err-write_page-in-Ok-2.ensures.left)

pub returns-then-left-lt-LEAST_RECORDS-clause-left : goal.returns-then-left-lt-LEAST_RECORDS-clause-left
returns-then-left-lt-LEAST_RECORDS-clause-left g c =
    edits_ok _ Underfull
    (edits_on _ g.met.S.PageStore.goes_on (looked _ 1 c.in_ok-leaf.ensures.left c.in_ok-leaf.ensures.reads) c.in_ok-write_page-in-Ok-2.ensures.left)

pub returns-else-left-lt-LEAST_RECORDS-clause-left : goal.returns-else-left-lt-LEAST_RECORDS-clause-left
returns-else-left-lt-LEAST_RECORDS-clause-left g c =
    edits_ok _ Done
    (edits_on _ g.met.S.PageStore.goes_on (looked _ 1 c.in_ok-leaf.ensures.left c.in_ok-leaf.ensures.reads) c.in_ok-write_page-in-Ok-2.ensures.left)
